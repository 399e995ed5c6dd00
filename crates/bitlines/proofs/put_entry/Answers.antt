-- No words for 0, else three.
use Rattle.std.proofs.Common.{sym, ◌∙◌, arith, pos, to_z-of_z, eq-eqb, ne_eqb}
use Rattle.integers.proofs.Fits.{equal_bits}
use Rattle.bitlines.proofs.Writing.{laid-zero, laid-entry, laid-three}
use Rattle.bitlines.proofs.put_entry.Goals as goal

pub returns-then-v-eq0 : goal.returns-then-v-eq0
returns-then-v-eq0 c =
    laid-zero c.args.i c.args.j c.args.v (sym (equal_bits c.args.v (pos 0) c.ranges.v (omega arith)) ∙ eq-eqb _ _ c.if-v-eq0.true)

pub returns : goal.returns
returns c =
    laid-entry c.args.i c.args.j c.args.v (sym (equal_bits c.args.v (pos 0) c.ranges.v (omega arith)) ∙ ne_eqb _ _ c.if-v-eq0.false)
    (rw (c.put-3.ensures, c.put-2.ensures, c.put.ensures, c.bits.ensures, c.bits-2.ensures, c.bits-3.ensures, c.new.ensures, c.new-2.ensures, c.of_number.ensures, to_z-of_z c.ranges.v) (laid-three _ _ _ _ _))
