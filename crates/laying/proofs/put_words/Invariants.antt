-- The invariant: the words before place k are laid.
use Rattle.std.proofs.Common.{◌+◌, ◌<◌, length}
use Rattle.words.proofs.Rest.{FirstLaid}
use Rattle.laying.proofs.put_words.Given as goal

abbrev pub invariant-loop-k : goal.invariant-loop-k
invariant-loop-k l = l.at + length l.words < 18446744073709551616 → FirstLaid l.initial.out l.at l.words l.out l.k
