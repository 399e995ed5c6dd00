use Rattle.integers.specs.Bounds.{bounds_in}
use Rattle.rules.specs.Rule.{rule}
use Rattle.laying.proofs.Written.{wrote-as}
use Rattle.divisionblocks.proofs.Blocks.{division-parts}
use Rattle.divisionblocks.proofs.int_div.Goals as goal

-- The division with q itself.
pub returns : goal.returns
unfolding rule
returns c = wrote-as (division-parts c.args.first (bounds_in c.args.domains.now) c.args.n c.args.d c.args.q) (rw c.domain_of.ensures at c.write_division.ensures)
