-- The place stands in the text. The measure: the bytes left.
use Rattle.std.proofs.Common.{◌-◌, ◌≤◌, length}
use Rattle.labels.proofs.written.place_of_word.Given as goal

abbrev pub invariant-loop-t : goal.invariant-loop-t
invariant-loop-t l = l.at ≤ length l.text

abbrev pub decreases-loop-t : goal.decreases-loop-t
decreases-loop-t l = length l.text - l.at
