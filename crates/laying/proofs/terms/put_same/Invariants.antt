-- The invariant: the words of the terms passed went over the list.
use Rattle.std.proofs.Common.{◌≡◌}
use Rattle.words.specs.Overlay.{overlay}
use Rattle.laying.specs.Part.{words_in}
use Rattle.laying.specs.Lists.{many, same_at}
use Rattle.laying.proofs.terms.put_same.Given as goal

abbrev pub invariant-loop-k : goal.invariant-loop-k
invariant-loop-k l = l.out ≡ overlay l.initial.out l.at (words_in (many (same_at l.c l.v) l.k))
