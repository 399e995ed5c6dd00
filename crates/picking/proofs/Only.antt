-- Laws of one number among zeros: its elements, one-hot bits, and products with one-hot bits.
use Rattle.std.proofs.Common.{◌≡◌, refl, ap, ◌∙◌, Bool, true, false, [], ◌∷◌, ◌++◌, map, ℕ, zero, suc, ◌+◌, ◌<◌, ◌≤◌, arith, eqb, ltb, ℤ, length, get_or, ne_eqb, ltb-true, ltb-false}
use mathlib.Core.List.{zip_with}
use Prim.Native.Nat.compare
use lib.Signed.{lt_z}
use Rattle.integers.specs.Choice.{◌if◌else◌}
use Rattle.integers.specs.Number.{◌⊗◌, +0, +1}
use Rattle.integers.specs.Lists.{list_of}
use Rattle.integers.proofs.Sums.{times_zero, zero-times, times-one, one-times}
use Rattle.integers.specs.Bounds.{within}
use Rattle.words.specs.Word.{in_range}
use Rattle.rules.specs.Pick.{bit_of, sign_pick, first_bit, gated_pick}
use Rattle.picking.specs.Output.{Ranged}
use Rattle.picking.specs.Only.{only_at, FirstAt}

pub only-length : (n h : ℕ) (v : ℤ) → length (only_at n h v) ≡ n
unfolding only_at
only-length zero h v = refl
only-length (suc n) zero v = ap suc (only-length n n v)
only-length (suc n) (suc h) v = ap suc (only-length n h v)

-- with no place for it the number plays no part
pub only_none : (n h g : ℕ) (v w : ℤ) → n ≤ h → n ≤ g → only_at n h v ≡ only_at n g w
unfolding only_at
only_none zero h g v w l m = refl
only_none (suc n) zero g v w l m = absurd (omega arith)
only_none (suc n) (suc h) zero v w l m = absurd (omega arith)
only_none (suc n) (suc h) (suc g) v w l m = ap (λ zs. +0 ∷ zs) (only_none n h g v w (omega arith) (omega arith))

-- the element at place k
pub get_or-only_at : (n h : ℕ) (v : ℤ) (k : ℕ) → k < n → get_or (only_at n h v) k +0 ≡ (v if eqb k h else +0)
unfolding only_at
get_or-only_at zero h v k l = absurd (omega arith)
get_or-only_at (suc n) zero v zero l = refl
get_or-only_at (suc n) zero v (suc k) l = get_or-only_at n n v k (omega arith) ∙ rw (ne_eqb k n (λ e. omega arith), ne_eqb (suc k) 0 (λ e. omega arith))
get_or-only_at (suc n) (suc h) v zero l = rw (ne_eqb 0 (suc h) (λ e. omega arith))
get_or-only_at (suc n) (suc h) v (suc k) l = get_or-only_at n h v k (omega arith) ∙ rw compare.suc-suc

-- one-hot bits are in the range
bit-ranged : (n h k : ℕ) → in_range (get_or (only_at n h +1) k +0) ≡ true
unfolding only_at within
bit-ranged zero h k = refl
bit-ranged (suc n) zero zero = refl
bit-ranged (suc n) zero (suc k) = bit-ranged n n k
bit-ranged (suc n) (suc h) zero = refl
bit-ranged (suc n) (suc h) (suc k) = bit-ranged n h k

pub bits-ranged : (n h : ℕ) → Ranged (only_at n h +1)
bits-ranged n h k = bit-ranged n h k

-- ---- 1 for the first label that passes the test

module _ {A : Type 0} (t : A → Bool) where
  zeros : (f : ℕ → A) (n h : ℕ) → n ≤ h → map (λ l. +0) (list_of f n) ≡ only_at n h +1
  unfolding list_of only_at
  zeros f zero h l = refl
  zeros f (suc n) zero l = absurd (omega arith)
  zeros f (suc n) (suc h) l = ap (λ zs. +0 ∷ zs) (zeros (λ i. f (suc i)) n h (omega arith))

  pub first_bit-only_at : (f : ℕ → A) (n h : ℕ) → FirstAt (λ k. t (f k)) n h → first_bit t (list_of f n) ≡ only_at n h +1
  unfolding first_bit list_of only_at
  first_bit-only_at f zero h w = refl
  first_bit-only_at f (suc n) zero w = rw (w.here (omega arith)) (ap (λ zs. +1 ∷ zs) (zeros (λ i. f (suc i)) n n (omega arith)))
  first_bit-only_at f (suc n) (suc h) w =
      rw (w.before 0 (omega arith) (omega arith))
      (ap (λ zs. +0 ∷ zs) (first_bit-only_at (λ i. f (suc i)) n h (record {
        before = λ k l m. w.before (suc k) (omega arith) (omega arith);
        here = λ l. w.here (omega arith);
      })))

-- ---- a bit times a number

pub bit-times : (t : Bool) (x : ℤ) → bit_of t ⊗ x ≡ (x if t else +0)
unfolding bit_of
bit-times true x = one-times x
bit-times false x = zero-times x

module _ {A : Type 0} (x : A → ℤ) where
  times-only : (f : ℕ → A) (n h : ℕ) → zip_with (λ l b. x l ⊗ b) (list_of f n) (only_at n h +1) ≡ only_at n h (x (f h))
  unfolding list_of only_at zip_with
  times-only f zero h = refl
  times-only f (suc n) zero = rw times-one (ap (λ zs. x (f 0) ∷ zs) (times-only (λ i. f (suc i)) n n ∙ only_none n n n _ _ (omega arith) (omega arith)))
  times-only f (suc n) (suc h) = rw times_zero (ap (λ zs. +0 ∷ zs) (times-only (λ i. f (suc i)) n h))

  pub gated : (t : A → Bool) (f : ℕ → A) (n h : ℕ) → FirstAt (λ k. t (f k)) n h →
      gated_pick x t (list_of f n) ≡ only_at n h +1 ++ only_at n h (x (f h))
  unfolding gated_pick
  gated t f n h w = rw (first_bit-only_at t f n h w, times-only f n h)

  -- where no label after the first passes
  pub times-bits : (t : A → Bool) (f : ℕ → A) (n h : ℕ) → FirstAt (λ k. t (f k)) n h → ((k : ℕ) → k < n → h < k → t (f k) ≡ false) →
      map (λ l. x l ⊗ bit_of (t l)) (list_of f n) ≡ only_at n h (x (f h))
  unfolding list_of only_at bit_of
  times-bits t f zero h w later = refl
  times-bits t f (suc n) zero w later =
      rw (w.here (omega arith), times-one)
      (ap (λ zs. x (f 0) ∷ zs)
      (times-bits t (λ i. f (suc i)) n n (record { before = λ k l m. later (suc k) (omega arith) (omega arith); here = λ l. absurd (omega arith) }) (λ k l m. absurd (omega arith))
      ∙ only_none n n n _ _ (omega arith) (omega arith)))
  times-bits t f (suc n) (suc h) w later =
      rw (w.before 0 (omega arith) (omega arith), times_zero)
      (ap (λ zs. +0 ∷ zs)
      (times-bits t (λ i. f (suc i)) n h (record { before = λ k l m. w.before (suc k) (omega arith) (omega arith); here = λ l. w.here (omega arith) })
      (λ k l m. later (suc k) (omega arith) (omega arith))))

pub sign-pick : (x : ℤ) → sign_pick x ≡ (+1 if lt_z x +0 else +0) ∷ (x if lt_z x +0 else +0) ∷ []
unfolding sign_pick bit_of
sign-pick x = ap (λ z. (+1 if lt_z x +0 else +0) ∷ z ∷ []) (bit-times (lt_z x +0) x)

pub bit_in : (t : Bool) → in_range (+1 if t else +0) ≡ true
unfolding within
bit_in true = refl
bit_in false = refl

-- one place more before the first: the state of a loop that looks for it
pub none_more : (t : ℕ → Bool) (k : ℕ) → ((j : ℕ) → j < k → t j ≡ false) → t k ≡ false → (j : ℕ) → j < k + 1 → t j ≡ false
none_more t k h e j l = by (ltb j k) refl
  where
    by : (b : Bool) → ltb j k ≡ b → t j ≡ false
    by true p = h j (ltb-true j k p)
    by false p = let q : j ≡ k = omega (arith, ltb-false j k p) in rw q e
