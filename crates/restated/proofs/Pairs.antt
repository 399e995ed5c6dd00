-- The words before the first that passes a test: from a place on.
use Rattle.std.proofs.Common.{◌≡◌, ap, ◌∙◌, Bool, true, false, List, ℕ, suc, ◌+◌, ◌≤◌, ◌<◌, arith, length, get_or, drop, drop_of_length-le}
use Rattle.words.proofs.Reading.{word-then}
use Rattle.pairs.specs.Pair.{before}

module _ (t : ℕ → Bool) where
  -- n words that fail the test stand before the place n
  pub record Passed (ws : List ℕ) (n : ℕ) : Type 0 where
    pub inside : n ≤ length ws
    pub all : n + before t (drop n ws) ≡ before t ws

  pub begun : (ws : List ℕ) → Passed ws 0
  begun ws = record { inside = omega arith; all = omega arith }

  module _ {ws : List ℕ} {n : ℕ} (f : Passed ws n) where
    pub one_more : n < length ws → t (get_or ws n 0) ≡ false → Passed ws (n + 1)
    unfolding before
    one_more h k =
        let e : before t (drop n ws) ≡ suc (before t (drop (n + 1) ws)) = ap (before t) (word-then ws n h) ∙ rw k in
        record { inside = omega arith; all = omega (arith, f.all) }

    pub no_more : n < length ws → t (get_or ws n 0) ≡ true → n ≡ before t ws
    unfolding before
    no_more h k =
        let e : before t (drop n ws) ≡ 0 = ap (before t) (word-then ws n h) ∙ rw k in
        omega (arith, f.all)

    pub at-end : length ws ≤ n → n ≡ before t ws
    unfolding before
    at-end h = omega (arith, rw (drop_of_length-le ws h) at f.all)
