-- Laws of laying a list over another one: its length, one list after another, one element at a time, the last element first; its elements and the front afterwards.
use Rattle.std.proofs.Common.{◌≡◌, refl, sym, ap, ◌∙◌, List, [], ◌∷◌, ◌++◌, append-nil, append_assoc, ℕ, zero, suc, ◌+◌, ◌≤◌, ◌<◌, arith, add-zero, zero-add, set, get_or, take, drop, length, length-set, drop-cons, take-suc-set, get_or-set_same, get_or-set_other}
use lib.Seq.{set_comm}
use Rattle.words.specs.Overlay.{overlay}

module _ {A : Type 0} where
  pub length-overlay : (out : List A) (at : ℕ) (xs : List A) → length (overlay out at xs) ≡ length out
  unfolding overlay
  length-overlay out at [] = refl
  length-overlay out at (x ∷ xs) = length-overlay (set out at x) (suc at) xs ∙ length-set out at x

  pub overlay-none : (out : List A) (at : ℕ) → overlay out at [] ≡ out
  unfolding overlay
  overlay-none out at = refl

  pub overlay-append : (out : List A) (at : ℕ) (xs ys : List A) → overlay (overlay out at xs) (at + length xs) ys ≡ overlay out at (xs ++ ys)
  unfolding overlay
  overlay-append out at [] ys = let e : at + 0 ≡ at = omega arith in ap (λ (n : ℕ). overlay out n ys) e
  overlay-append out at (x ∷ xs) ys =
      let e : at + suc (length xs) ≡ suc at + length xs = omega arith in
      ap (λ (n : ℕ). overlay (overlay (set out at x) (suc at) xs) n ys) e ∙ overlay-append (set out at x) (suc at) xs ys

  -- the rest of xs from its i-th on: that one, then the rest
  pub overlay-step : (d : A) (out : List A) (at : ℕ) (xs : List A) (i : ℕ) → i < length xs →
      overlay out (at + i) (drop i xs) ≡ overlay (set out (at + i) (get_or xs i d)) (at + (i + 1)) (drop (i + 1) xs)
  unfolding overlay
  overlay-step d out at xs i h =
      let e : suc (at + i) ≡ at + (i + 1) = omega arith in
      let f : suc i ≡ i + 1 = omega arith in
      ap (overlay out (at + i)) (drop-cons xs i d h)
      ∙ ap (λ (n : ℕ). overlay (set out (at + i) (get_or xs i d)) n (drop (suc i) xs)) e
      ∙ ap (λ (n : ℕ). overlay (set out (at + i) (get_or xs i d)) (at + (i + 1)) (drop n xs)) f

  -- the last element first, then those before it
  pub last-first : (out : List A) (at : ℕ) (xs : List A) (x : A) → overlay out at (xs ++ (x ∷ [])) ≡ overlay (set out (at + length xs) x) at xs
  unfolding overlay
  last-first out at [] x = let e : at ≡ at + 0 = omega arith in ap (λ (n : ℕ). set out n x) e
  last-first out at (y ∷ xs) x =
      let e : suc at + length xs ≡ at + suc (length xs) = omega arith in
      last-first (set out at y) (suc at) xs x
      ∙ ap (λ (n : ℕ). overlay (set (set out at y) n x) (suc at) xs) e
      ∙ ap (λ (l : List A). overlay l (suc at) xs) (set_comm out at (at + suc (length xs)) y x (λ e. omega arith))

  -- an element before what is laid, and one of what is laid
  pub before-laid : (d : A) (out : List A) (at : ℕ) (xs : List A) (k : ℕ) → k < at → get_or (overlay out at xs) k d ≡ get_or out k d
  unfolding overlay
  before-laid d out at [] k l = refl
  before-laid d out at (x ∷ xs) k l = before-laid d (set out at x) (suc at) xs k (omega arith) ∙ get_or-set_other out at k x d (λ e. omega arith)

  pub laid-at : (d : A) (out : List A) (at : ℕ) (xs : List A) (k : ℕ) → k < length xs → at + length xs ≤ length out → get_or (overlay out at xs) (at + k) d ≡ get_or xs k d
  unfolding overlay
  laid-at d out at [] k l m = absurd (omega arith)
  laid-at d out at (x ∷ xs) zero l m =
      let e : at + 0 ≡ at = omega arith in
      rw e (before-laid d (set out at x) (suc at) xs at (omega arith) ∙ get_or-set_same out at x d (omega arith))
  laid-at d out at (x ∷ xs) (suc k) l m =
      let e : at + suc k ≡ suc at + k = omega arith in
      rw e (laid-at d (set out at x) (suc at) xs k (omega arith) (omega (arith, length-set out at x)))

  from : (out : List A) (at : ℕ) (xs : List A) → at + length xs ≤ length out → take (at + length xs) (overlay out at xs) ≡ take at out ++ xs
  unfolding overlay
  from out at [] h = rw (add-zero at) (sym (append-nil (take at out)))
  from out at (x ∷ xs) h =
      let e : at + suc (length xs) ≡ suc at + length xs = omega arith in
      let n = length-set out at x in
      ap (λ (k : ℕ). take k (overlay (set out at x) (suc at) xs)) e
      ∙ from (set out at x) (suc at) xs (omega arith)
      ∙ rw (take-suc-set out at x (omega arith)) (append_assoc (take at out) (x ∷ []) xs)

  -- what fits is then the front
  pub front-over : (out xs : List A) → length xs ≤ length out → take (length xs) (overlay out 0 xs) ≡ xs
  front-over out xs h = ap (λ (k : ℕ). take k (overlay out 0 xs)) (sym (zero-add (length xs))) ∙ from out 0 xs (omega arith)
