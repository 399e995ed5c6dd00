-- How many numbers a range has.
use Rattle.std.proofs.Common.{◌≡◌, refl, ap, Bool, true, false, [], ◌∷◌, ◌++◌, ℕ, zero, suc, ◌+◌, ◌<◌, ◌≤◌, ℤ, pos, negsuc, arith, nat_abs, w64, SFits, le-leb, leb-true, leb, Some, None}
use Rattle.std.proofs.lemmas.Bool.{lt-leb}
use lib.Signed.{lt_z}
use Rattle.integers.specs.Choice.{◌if◌else◌}
use Rattle.integers.specs.Number.{◌⊕◌, ◌⊖◌, +1, count}
use Rattle.integers.specs.Lists.{list_of}
use Rattle.integers.specs.Bounds.{width, values}
use Rattle.integers.specs.declared.Bounds.{Bounds}
use Rattle.integers.proofs.Linear.{◌⊑◌, ◌⊏◌, linear, arith_z}
use Rattle.integers.proofs.Tests.{not-below}
use Rattle.flatrewriting.specs.Range.{short_width, short_values}

pub none_between : (l u : ℤ) → u ⊏ l → count (u ⊖ l ⊕ +1) ≡ 0
none_between = simp linear (omega arith)

pub some-between : (l u : ℤ) → l ⊑ u → count (u ⊖ l ⊕ +1) ≡ nat_abs (u ⊖ l) + 1
some-between = simp linear (omega arith)

pub at_most : (u l : ℤ) → lt_z u l ≡ false → l ⊑ u
at_most u l e = not-below u l e

pub fits_short : (gap n m : ℕ) → m ≡ n + 1 → gap ≡ n → gap < 32 → Some (gap + 1) ≡ short_width m
fits_short gap n m e f l = rw (e, f, le-leb (n + 1) 32 (omega arith)) refl

pub too-long : (gap n m : ℕ) → m ≡ n + 1 → gap ≡ n → 32 ≤ gap → None ≡ short_width m
too-long gap n m e f l = rw (e, lt-leb (n + 1) 32 (omega arith)) refl

-- what the width gives where it is short
pub short-is : (m n : ℕ) → Some n ≡ short_width m → (m ≡ n) × (n ≤ 32)
short-is m n e = go (leb m 32) refl e
  where
    go : (t : Bool) → leb m 32 ≡ t → Some n ≡ (Some m if t else None) → (m ≡ n) × (n ≤ 32)
    go true f e = let h : m ≡ n = cc in (h, rw (← h) (leb-true m 32 f))
    go false f e = absurd cc

pub not_short : (B : Bounds) → None ≡ short_width (width B) → short_values B ≡ None
not_short B e = go (leb (width B) 32) e
  where
    go : (t : Bool) → None ≡ (Some (width B) if t else None) → (Some (values B) if t else None) ≡ None
    go true e = absurd cc
    go false e = refl

pub short_are : (B : Bounds) (n : ℕ) → Some n ≡ short_width (width B) → short_values B ≡ Some (list_of (λ k. B.lower ⊕ pos k) n)
unfolding values
short_are B n e = go (leb (width B) 32) e
  where
    go : (t : Bool) → Some n ≡ (Some (width B) if t else None) → (Some (list_of (λ k. B.lower ⊕ pos k) (width B)) if t else None) ≡ Some (list_of (λ k. B.lower ⊕ pos k) n)
    go true e = let h : width B ≡ n = cc in rw h refl
    go false e = absurd cc

-- a number between numbers that fit
pub inside : (l u : ℤ) (k : ℕ) → k < count (u ⊖ l ⊕ +1) → (l ⊑ l ⊕ pos k) × (l ⊕ pos k ⊑ u)
inside = simp linear (omega arith)

pub between_fits : (l z u : ℤ) → SFits w64 l → SFits w64 u → l ⊑ z → z ⊑ u → SFits w64 z
between_fits l (pos n) (pos m) f g h k = record { sfits = omega (arith_z, g.sfits) }
between_fits l (pos n) (negsuc m) f g h k = absurd (omega arith_z)
between_fits (pos m) (negsuc n) u f g h k = absurd (omega arith_z)
between_fits (negsuc m) (negsuc n) u f g h k = record { sfits = omega (arith_z, f.sfits) }

pub list_of-more : {A : Type 0} (f : ℕ → A) (k : ℕ) → list_of f (k + 1) ≡ list_of f k ++ f k ∷ []
unfolding list_of
list_of-more f zero = refl
list_of-more f (suc k) = let e : suc k + 1 ≡ suc (k + 1) = omega arith in rw e (ap (λ l. f 0 ∷ l) (list_of-more (λ i. f (suc i)) k))
