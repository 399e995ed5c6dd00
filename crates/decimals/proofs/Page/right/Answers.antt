-- What stands ahead of the last digit, then that.
use Rattle.std.proofs.Common.{arith}
use Rattle.decimals.proofs.Ahead.{marked-some, number-laid}
use Rattle.decimals.proofs.Page.right.Goals as goal

pub overflow_sub-columns : goal.overflow_sub-columns
overflow_sub-columns c = omega (arith, marked-some c.args.minus c.args.n, c.requires.1)

pub returns-clause-text : goal.returns-clause-text
returns-clause-text c = number-laid c.args.columns c.args.minus c.args.n c.requires.1 c.ahead.ensures.text c.byte.ensures.text

pub returns-clause-end : goal.returns-clause-end
returns-clause-end c = omega (arith, marked-some c.args.minus c.args.n, c.requires.1, c.ahead.ensures.end, c.byte.ensures.end)

pub byte-requires : goal.byte-requires
byte-requires c = omega (arith, marked-some c.args.minus c.args.n, c.requires.0, c.requires.1, c.ahead.ensures.end)
