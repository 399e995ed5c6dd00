-- The words before the place, then the end word.
use Rattle.std.proofs.Common.{◌∙◌}
use Rattle.pairs.proofs.Models.{first-laid}
use Rattle.pairs.proofs.lay_first.Goals as goal

pub returns : goal.returns
returns c =
    c.lay-2.ensures ∙ rw (c.lay.ensures, c.bits.ensures, c.new.ensures, c.requires.0) (first-laid c.args.ws.now c.args.out.now)
