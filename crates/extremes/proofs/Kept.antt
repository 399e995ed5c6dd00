-- The bounds of the variables, word by word, and what a list of kept bounds gives.
use Rattle.std.proofs.Common.{◌≡◌, refl, ap, ◌∙◌, true, false, List, [], ◌∷◌, ℕ, zero, suc, ◌+◌, ◌<◌, ◌≤◌, arith, add-one, length, get_or, set, drop, length-set, drop_of_length-le, replicate, get_or-set_same, get_or-set_other}
use mathlib.Core.Path.{fun_ext}
use lib.ListN.{length-replicate}
use Rattle.integers.specs.Number.{+0}
use Rattle.integers.specs.Bounds.{◌to◌, bounds_in}
use Rattle.integers.specs.declared.Bounds.{Bounds}
use Rattle.integers.proofs.Places.{get_or-replicate_same}
use Rattle.words.specs.Word.{word_at}
use Rattle.words.specs.Variables.{variables}
use Rattle.words.specs.Overlay.{overlay}
use Rattle.words.proofs.Overlay.{before-laid}
use Rattle.variables.specs.Start.{starts, pair_bounds}
use Rattle.variables.proofs.Walk.{at_none, at_one}

-- the bounds of the words before the i-th are kept, n of them: laying those of the words left gives what laying all gives
pub record Keeping (ws : List ℕ) (before now : List Bounds) (i n : ℕ) : Type 0 where
  pub many : n + length (variables (drop i ws)) ≡ length (variables ws)
  pub over : overlay now n (variables (drop i ws)) ≡ overlay before 0 (variables ws)
  pub few : n ≤ i

pub begun : (ws : List ℕ) (out : List Bounds) → Keeping ws out out 0 0
begun ws out = record { many = omega arith; over = refl; few = omega arith }

module _ {ws : List ℕ} {before now : List Bounds} {i n : ℕ} (k : Keeping ws before now i n) where
  pub kept : i < length ws → starts (word_at ws i) ≡ true → Keeping ws before (set now n (pair_bounds (word_at ws i) (word_at ws (i + 1)))) (i + 1) (n + 1)
  unfolding overlay word_at
  kept h t =
      let e = at_one ws i h t in
      record { many = omega (arith, rw e at k.many); over = rw (add-one n) (rw e at k.over); few = omega (arith, k.few) }

  pub passed : i < length ws → starts (word_at ws i) ≡ false → Keeping ws before now (i + 1) n
  unfolding word_at
  passed h t = let e = at_none ws i h t in record { many = rw e at k.many; over = rw e at k.over; few = omega (arith, k.few) }

  pub ended-count : length ws ≤ i → n ≡ length (variables ws)
  unfolding variables
  ended-count h = let e = drop_of_length-le ws h in omega (arith, rw e at k.many)

  pub ended-over : length ws ≤ i → now ≡ overlay before 0 (variables ws)
  unfolding overlay variables
  ended-over h = let e = drop_of_length-le ws h in rw e at k.over

-- ---- what the list gives, where it had no bounds before and is long enough

-- a list laid over zeros reads as the list does
module _ {A : Type 0} (d : A) where
  laid : (xs out : List A) (at : ℕ) → at + length xs ≤ length out → ((v : ℕ) → at ≤ v → get_or out v d ≡ d) → (v : ℕ) → get_or (overlay out at xs) (at + v) d ≡ get_or xs v d
  unfolding overlay
  laid [] out at h z v = z (at + v) (omega arith)
  laid (x ∷ xs) out at h z zero = let e : at + 0 ≡ at = omega arith in rw e (before-laid d (set out at x) (suc at) xs at (omega arith) ∙ get_or-set_same out at x d (omega arith))
  laid (x ∷ xs) out at h z (suc v) =
      let e : at + suc v ≡ suc at + v = omega arith in
      let n = length-set out at x in
      rw e (laid xs (set out at x) (suc at) (omega arith) (λ w l. get_or-set_other out at w x d (λ e. omega arith) ∙ z w (omega arith)) v)

  pub over_zeros : (n : ℕ) (xs : List A) → length xs ≤ n → (v : ℕ) → get_or (overlay (replicate n d) 0 xs) v d ≡ get_or xs v d
  over_zeros n xs few v =
      let e : v ≡ 0 + v = omega arith in
      ap (λ (w : ℕ). get_or (overlay (replicate n d) 0 xs) w d) e ∙ laid xs (replicate n d) 0 (omega (arith, length-replicate n d)) (λ w l. get_or-replicate_same n w d) v

-- THE LAW, of what `keep_bounds` leaves in a list of n empty bounds
pub kept-bounds : (ws : List ℕ) (n : ℕ) → length (variables ws) ≤ n → bounds_in (overlay (replicate n (+0 to +0)) 0 (variables ws)) ≡ bounds_in (variables ws)
unfolding bounds_in
kept-bounds ws n few = fun_ext (over_zeros (+0 to +0) n (variables ws) few)
