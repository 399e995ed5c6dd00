use Rattle.integers.specs.Bounds.{bounds_in}
use Rattle.arguments.proofs.Size.{read}
use Rattle.rules.specs.Rule.{rule}
use Rattle.laying.proofs.Written.{wrote-then, wrote-as}
use Rattle.divisionblocks.proofs.Blocks.{left_over-parts}
use Rattle.divisionblocks.proofs.int_mod.Goals as goal

-- The bounds of a quotient, the division with it, and the last row.
pub returns : goal.returns
unfolding rule
returns c =
    let v = rw (read c.lower.type_inv c.lower.ensures.value, read c.upper.type_inv c.upper.ensures.value, c.quotient_bounds-quotient.ensures, c.domain_of.ensures) at c.bound.ensures in
    let w = rw (c.quotient_bounds-quotient.ensures, c.domain_of.ensures) at c.write_division.ensures in
    wrote-as (left_over-parts c.args.first (bounds_in c.args.domains.now) c.args.n c.args.d c.args.r) (wrote-then v (wrote-then w (simp (c.new.ensures, c.new-2.ensures, c.new-3.ensures) at c.row.ensures)))
