-- One word is laid over the list.
use Rattle.std.proofs.Common.{arith}
use Rattle.words.specs.Overlay.{overlay}
use Rattle.texts.proofs.written.Written.put.Goals as goal

pub returns : goal.returns
unfolding overlay
returns c = record { list = rw c.bits.ensures at c.put.ensures; count = omega arith }
