-- Laws of labels that rise by 1 from a first one: how many they are, and the place of a value among them.
use Rattle.std.proofs.Common.{◌≡◌, refl, Bool, true, false, ℕ, ◌<◌, arith, ℤ, pos}
use lib.Signed.{lt_z}
use Rattle.integers.specs.Number.{◌⊕◌, ◌⊖◌, ◌≟◌, count, +1}
use Rattle.integers.specs.Bounds.{width, values}
use Rattle.integers.specs.declared.Bounds.{Bounds}
use Rattle.integers.proofs.Linear.{◌⊑◌, ◌⊏◌, linear, rep}
use Rattle.integers.proofs.Tests.{says-equal, says-lt, not-below}
use Rattle.rules.specs.Pick.{first_bit}
use Rattle.picking.specs.Only.{only_at, FirstAt}
use Rattle.picking.proofs.Only.{first_bit-only_at}

pub not_equal : (a b : ℤ) → ¬ (a ≡ b) → (a ≟ b) ≡ false
not_equal a b n = by (a ≟ b) refl
  where
    by : (t : Bool) → (a ≟ b) ≡ t → t ≡ false
    by true e = absurd (n ((says-equal a b).0 e))
    by false e = refl

-- ---- the place of a value

lower-label : (v first : ℤ) (k : ℕ) → k < count (v ⊖ first) → ¬ (first ⊕ pos k ≡ v)
lower-label v first k = rw (rep v, rep first) (simp linear (omega arith))

own-label : (v first : ℤ) → first ⊑ v → first ⊕ pos (count (v ⊖ first)) ≡ v
own-label v first = rw (rep v, rep first) (simp linear (omega arith))

no_label : (v first : ℤ) (k : ℕ) → v ⊏ first → ¬ (first ⊕ pos k ≡ v)
no_label v first k = rw (rep v, rep first) (simp linear (omega arith))

pub label_at : (v first : ℤ) (n : ℕ) → first ⊑ v → FirstAt (λ k. first ⊕ pos k ≟ v) n (count (v ⊖ first))
label_at v first n l = record {
  before = λ k m p. not_equal _ _ (lower-label v first k p);
  here = λ m. (says-equal _ _).1 (own-label v first l);
}

pub label-none : (v first : ℤ) (n : ℕ) → v ⊏ first → FirstAt (λ k. first ⊕ pos k ≟ v) n n
label-none v first n l = record {
  before = λ k m p. not_equal _ _ (no_label v first k l);
  here = λ m. absurd (omega arith);
}

-- every value has a place, or none
pub some-place : (v first : ℤ) (n : ℕ) → (h : ℕ) × FirstAt (λ k. first ⊕ pos k ≟ v) n h
some-place v first n = by (lt_z v first) refl
  where
    by : (t : Bool) → lt_z v first ≡ t → (h : ℕ) × FirstAt (λ k. first ⊕ pos k ≟ v) n h
    by true e = (n, label-none v first n ((says-lt v first).0 e))
    by false e = (count (v ⊖ first), label_at v first n (not-below v first e))

-- and only one
pub no-later : (v first : ℤ) {n h : ℕ} → FirstAt (λ k. first ⊕ pos k ≟ v) n h → (k : ℕ) → k < n → h < k → (first ⊕ pos k ≟ v) ≡ false
no-later v first {n} {h} w k l m = not_equal _ _ (λ e. apart first v h k ((says-equal _ _).0 (w.here (omega arith))) e m)
  where
    apart : (first v : ℤ) (h k : ℕ) → first ⊕ pos h ≡ v → first ⊕ pos k ≡ v → h < k → ⊥
    apart first v = rw (rep first, rep v) (simp linear (omega arith))

-- the bits of the values that bounds leave
pub label-bits : (B : Bounds) (v : ℤ) (h : ℕ) → FirstAt (λ k. B.lower ⊕ pos k ≟ v) (width B) h → first_bit (λ j. j ≟ v) (values B) ≡ only_at (width B) h +1
unfolding values
label-bits B v h w = first_bit-only_at (λ j. j ≟ v) (λ k. B.lower ⊕ pos k) (width B) h w
