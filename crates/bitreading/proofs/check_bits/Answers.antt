use Rattle.std.proofs.Common.{refl, length, lt-ltb, le-ltb, eq-eqb, ne_eqb}
use Rattle.words.specs.Refusal.{◌else_refuse◌}
use Rattle.bitanswers.specs.BitFaults.{bit_count_fault}
use Rattle.bitreading.specs.BitsGiven.{bits_fault_by}
use Rattle.bitreading.proofs.check_bits.Goals as goal

pub returns-then-n-gt-BITS : goal.returns-then-n-gt-BITS
unfolding bits_fault_by ◌else_refuse◌
returns-then-n-gt-BITS c = rw (lt-ltb 1024 c.args.n c.if-n-gt-BITS.true) refl

pub returns-then-bytes-n : goal.returns-then-bytes-n
unfolding bits_fault_by bit_count_fault ◌else_refuse◌
returns-then-bytes-n c = rw (le-ltb 1024 c.args.n c.if-n-gt-BITS.false, ne_eqb (length c.args.bytes.now) c.args.n c.if-bytes-n.true) refl

pub returns : goal.returns
unfolding bits_fault_by bit_count_fault ◌else_refuse◌
returns c = rw (le-ltb 1024 c.args.n c.if-n-gt-BITS.false, eq-eqb (length c.args.bytes.now) c.args.n c.if-bytes-n.false) c.check_bytes.ensures
