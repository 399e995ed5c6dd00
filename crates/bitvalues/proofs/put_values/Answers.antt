-- A value is near 0, so that it fits 32 bits.
use Rattle.std.proofs.Common.{arith, to_z-of_z}
use Rattle.integers.proofs.Fits.{back, fits32}
use Rattle.bitvalues.proofs.Putting.{putting_begun, putting_more}
use Rattle.bitvalues.proofs.put_values.Goals as goal

pub loop-v-init : goal.loop-v-init
loop-v-init c = putting_begun _ _ _

pub loop-v-preserved : goal.loop-v-preserved
loop-v-preserved c =
    let small = fits32 c.read_variable.result (omega (arith, c.read_variable.ensures.size)) in
    rw (c.put.ensures, back c.read_variable.result c.read_variable.type_inv, to_z-of_z small, c.read_variable.ensures.value) (putting_more c.loop-v-test.true c.loop-v.invariant)
