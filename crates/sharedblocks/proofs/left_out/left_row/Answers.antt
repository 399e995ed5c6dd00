use Rattle.std.proofs.Common.{sym, ◌∙◌, to_z-of_z, eq-eqb, ne_eqb}
use Rattle.laying.proofs.Written.{wrote-nothing, wrote-then}
use Rattle.sharedblocks.specs.LeftOut.{left_row}
use Rattle.sharedblocks.proofs.left_out.left_row.Goals as goal

-- A head with the number of the bits left out, their terms, the constant.
pub returns-then-m-eq0 : goal.returns-then-m-eq0
unfolding left_row
returns-then-m-eq0 c =
    let e = rw (to_z-of_z c.ranges.from) at c.count_left-m.ensures.value in
    rw (eq-eqb _ _ (sym e ∙ c.if-m-eq0.true)) wrote-nothing

pub returns : goal.returns
unfolding left_row
returns c =
    let e = rw (to_z-of_z c.ranges.from) at c.count_left-m.ensures.value in
    let b = rw (to_z-of_z c.ranges.from) at c.left_bits.ensures in
    rw (ne_eqb _ _ (λ z. c.if-m-eq0.false (e ∙ z)), ← e) (wrote-then c.head.ensures (wrote-then b c.constant.ensures))
