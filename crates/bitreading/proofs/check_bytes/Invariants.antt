-- The loop's invariant is `Faultless`: no byte before the place is at fault.
use Rattle.bitreading.proofs.Faults.{Faultless}
use Rattle.bitreading.proofs.check_bytes.Given as goal

abbrev pub invariant-loop-place : goal.invariant-loop-place
invariant-loop-place l = Faultless l.bytes l.place
