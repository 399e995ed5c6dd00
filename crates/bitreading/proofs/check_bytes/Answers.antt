use Rattle.std.proofs.Common.{arith}
use Rattle.bitreading.proofs.Faults.{fine, wrong, ended}
use Rattle.bitreading.proofs.check_bytes.Goals as goal

pub returns-then-byte-gt-ONE : goal.returns-then-byte-gt-ONE
returns-then-byte-gt-ONE c = wrong c.loop-place.invariant c.loop-place-test.true (omega (arith, c.if-byte-gt-ONE.true))

pub loop-place-preserved : goal.loop-place-preserved
loop-place-preserved c = fine c.loop-place.invariant c.loop-place-test.true (omega (arith, c.if-byte-gt-ONE.false))

pub returns : goal.returns
returns c = ended c.loop-place.invariant c.loop-place-test.false
