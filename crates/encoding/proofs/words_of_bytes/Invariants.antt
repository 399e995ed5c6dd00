-- The invariant: the first i words are laid.
use Rattle.words.proofs.Rest.{FirstLaid}
use Rattle.encoding.specs.Bytes.{bytes_words}
use Rattle.encoding.proofs.words_of_bytes.Given as goal

abbrev pub invariant-loop-i : goal.invariant-loop-i
invariant-loop-i l = FirstLaid l.initial.out 0 (bytes_words l.bytes) l.out l.i
