-- The loop's invariant: the answer so far is that over the words passed.
use Rattle.std.proofs.Common.{◌≡◌}
use Rattle.integers.specs.Lists.{all, list_of}
use Rattle.words.specs.Word.{word_at}
use Rattle.modelitems.specs.Onward.{is_number}
use Rattle.modelitems.proofs.faults.are_numbers.Given as goal

abbrev pub invariant-loop-w : goal.invariant-loop-w
invariant-loop-w l = l.so_far ≡ all is_number (list_of (word_at l.ws) l.w-index)
