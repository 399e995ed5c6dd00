-- The test so far is that of the places passed, whatever the numbers are.
use Rattle.std.proofs.Common.{◌≡◌, ℕ, ℤ, ◌<◌}
use Rattle.integers.specs.Lists.{all, list_of}
use Rattle.words.specs.Word.{in_range}
use Rattle.laying.proofs.terms.all_fit.Given as goal

abbrev pub invariant-loop-k : goal.invariant-loop-k
invariant-loop-k g l = (c : ℕ → ℤ) → ((k : ℕ) (r : ℤ) → k < l.n → goal.C-post g l.number k r → r ≡ c k) → l.fit ≡ all in_range (list_of c l.k)
