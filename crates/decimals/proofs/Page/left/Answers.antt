-- The number, then blanks.
use Rattle.std.proofs.Common.{◌≡◌, arith, ◌+◌, ◌-◌, length}
use Rattle.decimals.specs.Decimal.{decimal}
use Rattle.decimals.specs.Column.{left}
use Rattle.decimals.proofs.Printed.{then_prints}
use Rattle.decimals.proofs.Page.left.Goals as goal

pub returns-clause-text : goal.returns-clause-text
unfolding left
returns-clause-text c =
    let e : c.args.self.now.at + c.args.columns - c.decimal.new.self.at ≡ c.args.columns - length (decimal c.args.n) = omega (arith, c.decimal.ensures.end) in
    then_prints c.decimal.ensures.text (rw e at c.blanks.ensures.text)
