-- The invariant: the elements before place k are laid; the list has as many elements as before.
use Rattle.std.proofs.Common.{◌<◌, length}
use Rattle.words.proofs.Rest.{FirstLaid}
use Rattle.words.proofs.list.lay.Given as goal

abbrev pub invariant-loop-k : goal.invariant-loop-k
invariant-loop-k g l = FirstLaid l.initial.out l.at l.list l.out l.k × (length l.out < 18446744073709551616)
