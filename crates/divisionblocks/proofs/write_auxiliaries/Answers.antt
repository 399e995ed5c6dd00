use Rattle.std.proofs.Common.{rules}
use Rattle.integers.proofs.Fits.{back}
use Rattle.laying.proofs.Written.{wrote-then}
use Rattle.divisionblocks.specs.Rows.{auxiliary_parts}
use Rattle.divisionblocks.proofs.write_auxiliaries.Goals as goal

-- Two bits, a bound and a bit, one after the other.
pub returns : goal.returns
unfolding auxiliary_parts
returns c =
    let v = rw (back c.args.p.lower (search rules), back c.args.p.upper (search rules)) at c.bound.ensures in
    wrote-then c.bits.ensures (wrote-then v c.bound-2.ensures)
