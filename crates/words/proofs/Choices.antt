-- Faults as choices: what a choice that is 0, no fault, says of its tests. For the laws of both readers.
use Rattle.std.proofs.Common.{◌≡◌, refl, ◌⊎◌, inl, inr, Bool, true, false, not, ℕ, suc, arith, eqb, eqb-true}
use borrow.Author.Tests.{not-false}
use Rattle.integers.specs.Choice.{◌if◌else◌}
use Rattle.words.specs.Fault as Fault
use Rattle.words.specs.Limit as Limit
use Rattle.words.specs.Word.{kind, signed, in_range, too_low}
use Rattle.words.proofs.Range.{not_too_low}

pub not_first : (a : ℕ) (t : Bool) (b : ℕ) → (suc a if t else b) ≡ 0 → (t ≡ false) × (b ≡ 0)
not_first a true b e = absurd (omega arith)
not_first a false b e = (refl, e)

pub not-second : (a : ℕ) (t : Bool) (b : ℕ) → (a if t else suc b) ≡ 0 → (t ≡ true) × (a ≡ 0)
not-second a true b e = (refl, e)
not-second a false b e = absurd (omega arith)

pub either : (a : ℕ) (t : Bool) (b : ℕ) → (a if t else b) ≡ 0 → ((t ≡ true) × (a ≡ 0)) ⊎ ((t ≡ false) × (b ≡ 0))
either a true b e = inl (refl, e)
either a false b e = inr (refl, e)

-- of a kind k, and with no other fault x
pub of-kind : (w k x : ℕ) → (Fault.wrong_kind if not (eqb (kind w) k) else x) ≡ 0 → (kind w ≡ k) × (x ≡ 0)
of-kind w k x e = let h = not_first 2 (not (eqb (kind w) k)) x e in (eqb-true _ _ (not-false _ h.0), h.1)

-- a number of the range, and with no other fault x
pub of_range : (w x : ℕ) → (Fault.lowest_number if too_low Limit.range w else x) ≡ 0 → (in_range (signed w) ≡ true) × (x ≡ 0)
of_range w x e = let h = not_first 17 (too_low Limit.range w) x e in (not_too_low w h.0, h.1)
