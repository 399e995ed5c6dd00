-- The range of 02: fault 18 is found at the lowest 28-bit number alone, and every number of the range has its opposite there.
-- For both readers, and for those who negate on loading.
use Rattle.std.proofs.Common.{◌≡◌, refl, sym, ap, ◌∙◌, Bool, true, false, not, ◌||◌, ℕ, ◌-◌, ◌%◌, arith, ltb, eqb, ℤ, pos, negsuc, ltb-true, ltb-false, eqb-true}
use borrow.Author.Tests.{eqb-false, not-false}
use Rattle.integers.specs.Choice.{◌if◌else◌}
use Rattle.integers.specs.Number.{neg}
use Rattle.integers.specs.Bounds.{within}
use Rattle.integers.proofs.Linear.{◌⊑◌, linear, arith_z}
use Rattle.integers.proofs.Tests.{says-not, false-true}
use Rattle.words.specs.Kind as Kind
use Rattle.words.specs.Limit as Limit
use Rattle.words.specs.Word.{kind, payload, signed, in_range, too_low}
use Rattle.words.proofs.ReadBack.{says_range}

-- a payload without fault 18 is in the range
pub not_too_low : (w : ℕ) → too_low Limit.range w ≡ false → in_range (signed w) ≡ true
unfolding too_low
not_too_low w e = not-false _ e

pub in_range_low : (w : ℕ) → in_range (signed w) ≡ true → too_low Limit.range w ≡ false
unfolding too_low
in_range_low w e = rw e

-- 02: "the lowest 28-bit number"
pub lowest-alone : (w : ℕ) → too_low Limit.range w ≡ eqb (payload w) Limit.half
unfolding too_low signed payload
lowest-alone w = by (ltb (w % 268435456) Limit.half) (eqb (w % 268435456) Limit.half) refl refl
  where
    by : (t u : Bool) → ltb (w % 268435456) Limit.half ≡ t → eqb (w % 268435456) Limit.half ≡ u →
        not (within Limit.range (pos (w % 268435456) if t else negsuc (268435455 - w % 268435456))) ≡ u
    by true true e f = absurd (omega (arith, ltb-true, eqb-true))
    by true false e f = rw ((says_range (pos (w % 268435456))).1 (omega arith_z, omega (arith_z, ltb-true)))
    by false true e f = (says-not (says_range (negsuc (268435455 - w % 268435456)))).1 (λ r. omega (arith_z, r.0, eqb-true))
    by false false e f = rw ((says_range (negsuc (268435455 - w % 268435456))).1 (omega (arith_z, ltb-false, eqb-false), omega arith_z))

-- 02: "the lowest number has no opposite"
pub opposite : (z : ℤ) → in_range z ≡ true → in_range (neg z) ≡ true
opposite z h = let r = (says_range z).0 h in (says_range (neg z)).1 (negated z r.0 r.1)
  where
    negated : (z : ℤ) → Limit.lowest ⊑ z → z ⊑ Limit.highest → (Limit.lowest ⊑ neg z) × (neg z ⊑ Limit.highest)
    negated = simp linear (omega arith)

-- ---- words with a signed payload

-- 01, Words: kinds 1, 2, 6, 8 and 9
unfoldable pub is_signed : ℕ → Bool
is_signed k = eqb k Kind.lower || eqb k Kind.upper || eqb k Kind.number || eqb k Kind.auxiliary_lower || eqb k Kind.auxiliary_upper

pub not-signed : {G : Type 0} {n : ℕ} (k : ℕ) → n ≡ k → is_signed k ≡ false → is_signed n ≡ true → G
not-signed k e f h = false-true (sym f ∙ ap is_signed (sym e) ∙ h)

-- the number of the word is in the range, if it has one
abbrev pub NumberIn : ℕ → Type 0
NumberIn w = is_signed (kind w) ≡ true → in_range (signed w) ≡ true
