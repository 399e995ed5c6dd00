-- The sum of a row's terms, term by term from a place on.
use Rattle.std.proofs.Common.{◌≡◌, refl, sym, ap, ◌∙◌, List, ℕ, ◌+◌, ◌*◌, arith, ℤ, get_or, drop, get_or-drop}
use Rattle.integers.specs.Number.{◌⊕◌, ◌⊗◌, +0}
use Rattle.integers.specs.Lists.{list_of}
use Rattle.integers.specs.Terms.{value, sum}
use Rattle.integers.proofs.Places.{sum_more}
use Rattle.words.specs.Word.{word_at}
use Rattle.rowsystems.specs.RowSystem.{number_at, variable_at, terms_in, constant_in}

-- the words of a list and of its rest
pub word-from : (ws : List ℕ) (s i k : ℕ) → s + i ≡ k → word_at (drop s ws) i ≡ word_at ws k
unfolding word_at
word-from ws s i k e = get_or-drop s ws i 0 ∙ ap (λ (j : ℕ). get_or ws j 0) e

-- the constant after n terms
pub constant-from : (ws : List ℕ) (a n b : ℕ) → b ≡ a + 2 * n → number_at ws b ≡ constant_in (drop a ws) n
unfolding constant_in number_at
constant-from ws a n b e = rw (word-from ws a (2 * n) b (omega arith))

-- no terms
pub no-terms : (ws : List ℕ) (vs : List ℤ) → sum (value vs) (terms_in ws 0) ≡ +0
unfolding terms_in list_of sum
no-terms ws vs = refl

-- one term more
one_more : (ws : List ℕ) (vs : List ℤ) (k : ℕ) → sum (value vs) (terms_in ws (k + 1)) ≡ sum (value vs) (terms_in ws k) ⊕ number_at ws (2 * k + 1) ⊗ value vs (variable_at ws (2 * k))
unfolding terms_in
one_more ws vs k = sum_more (value vs) _ k

pub term-added : (ws : List ℕ) (vs : List ℤ) (a d b : ℕ) (s : ℤ) → b ≡ a + 2 * d → s ≡ sum (value vs) (terms_in (drop a ws) d) →
    s ⊕ number_at ws (b + 1) ⊗ value vs (variable_at ws b) ≡ sum (value vs) (terms_in (drop a ws) (d + 1))
unfolding number_at variable_at
term-added ws vs a d b s e q = rw q (sym (one_more (drop a ws) vs d ∙ rw (word-from ws a (2 * d + 1) (b + 1) (omega arith), word-from ws a (2 * d) b (omega arith))))
