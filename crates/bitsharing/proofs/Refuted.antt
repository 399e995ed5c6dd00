-- What FormShares, ValuesShare and EnergyShares are worth: each part is false of wrong words, values and energies, for row systems and models of 1 and 2 variables.
use Rattle.std.proofs.Common.{◌≡◌, refl, sym, ap, ◌∙◌, false, true, List, [], ◌∷◌, ◌++◌, ℕ, zero, suc, ◌<◌, arith, ℤ, pos, length, replicate}
use Rattle.integers.specs.Number.{◌≟◌, +0, +1, +2, -1}
use Rattle.integers.specs.Terms.{value}
use Rattle.integers.specs.Bounds.{within, bounds_in}
use Rattle.integers.proofs.Tests.{false-true, says-equal}
use Rattle.words.specs.Answer.{written}
use Rattle.words.specs.Variables.{variables}
use Rattle.sharing.specs.SharedSolutions.{SatisfiesModel}
use Rattle.sharing.proofs.Judged.{judge_model_says}
use Rattle.sharing.proofs.OnWords.{on_words}
use Rattle.sharing.proofs.WrongSystems.{at_most_0, with_row, first}
use Rattle.bitforms.specs.OverBits.{evaluate}
use Rattle.bitforms.specs.BitForm.{encoding}
use Rattle.bitforms.specs.SameSolutions.{AreBits, InBounds, ReadAs}
use Rattle.bitanswers.specs.BitEnergy.{EnergyAnswer, refused, energy_is}
use Rattle.bitanswers.proofs.OnBits.{on_bits}
use Rattle.bitsharing.specs.FormShares.{FormShares}
use Rattle.bitsharing.specs.ReadShares.{ValuesShare, EnergyShares}

abbrev both : (ℕ → Type 0) → Type 0
both P = P 0 × P 1

different : {a b : ℤ} → (a ≟ b) ≡ false → a ≡ b → ⊥
different {a} {b} f e = false-true (sym f ∙ (says-equal a b).1 e)

-- the energy that is answered, −1 for a refusal
abbrev said : EnergyAnswer → ℤ
said (refused n p) = -1
said (energy_is e) = e

-- ---- of the row that the first variable is at most 0, which the model behind it has: a bit for each variable, which reads as itself

are-bits : both (λ n. AreBits (with_row n) (first +0 n) × AreBits (with_row n) (first +1 n))
unfolding on_bits
are-bits = (
  (record { one_each = refl; zero_or_one = refl }, record { one_each = refl; zero_or_one = refl }),
  (record { one_each = refl; zero_or_one = refl }, record { one_each = refl; zero_or_one = refl }),
)

within-0 : (x : ℤ) → within (bounds_in (variables (with_row 0)) 0) x ≡ true → (v : ℕ) → v < length (variables (with_row 0)) → within (bounds_in (variables (with_row 0)) v) (value (first x 0) v) ≡ true
unfolding on_bits
within-0 x h zero k = h
within-0 x h (suc v) k = refl

within-1 : (x : ℤ) → within (bounds_in (variables (with_row 1)) 0) x ≡ true → (v : ℕ) → v < length (variables (with_row 1)) → within (bounds_in (variables (with_row 1)) v) (value (first x 1) v) ≡ true
unfolding on_bits
within-1 x h zero k = h
within-1 x h (suc zero) k = refl
within-1 x h (suc (suc v)) k = refl

in-bounds : both (λ n. InBounds (with_row n) (first +0 n) × InBounds (with_row n) (first +1 n))
unfolding on_bits
in-bounds = (
  (record { one_each = refl; in_bounds = within-0 +0 refl }, record { one_each = refl; in_bounds = within-0 +1 refl }),
  (record { one_each = refl; in_bounds = within-1 +0 refl }, record { one_each = refl; in_bounds = within-1 +1 refl }),
)

reads-0 : (v : ℕ) → evaluate (value (first +1 0)) (encoding (with_row 0) v) ≡ value (first +1 0) v
unfolding on_bits
reads-0 zero = refl
reads-0 (suc v) = refl

reads-1 : (v : ℕ) → evaluate (value (first +1 1)) (encoding (with_row 1) v) ≡ value (first +1 1) v
unfolding on_bits
reads-1 zero = refl
reads-1 (suc zero) = refl
reads-1 (suc (suc v)) = refl

reads : both (λ n. (m : ℕ) → ReadAs (with_row n) m (first +1 n) (first +1 n))
reads = (λ m v h. reads-0 v, λ m v h. reads-1 v)

-- ---- FormShares: of the words of a constant c alone, in front of other words

abbrev Form : List ℕ → ℕ → Type 0
Form ws c = FormShares ws (written 2) (c ∷ 0xF0000000 ∷ 7 ∷ 8 ∷ [])

-- 0 is not the sum of squares at the bit 1; −1 is below 0; 1 is never 0, also where the row is satisfied; 0 is 0 where it is not
pub forms : both (λ n. (Form (with_row n) 0x60000000 → ⊥) × (Form (with_row n) 0x6FFFFFFF → ⊥) × (Form (with_row n) 0x60000001 → ⊥) × (Form (with_row n) 0x60000000 → ⊥))
unfolding on_bits
forms = (
  (
    λ h. different refl ((h _ refl).0.sum_of_squares (first +1 0) are-bits.0.1),
    λ h. ((h _ refl).0.never_below (first +0 0) are-bits.0.0).le,
    λ h. different refl (((h _ refl).0.same (first +0 0) in-bounds.0.0).0 refl).1.2,
    λ h. false-true (((h _ refl).0.same (first +1 0) in-bounds.0.1).1 (first +1 0, (are-bits.0.1, reads.0 _, refl))),
  ),
  (
    λ h. different refl ((h _ refl).0.sum_of_squares (first +1 1) are-bits.1.1),
    λ h. ((h _ refl).0.never_below (first +0 1) are-bits.1.0).le,
    λ h. different refl (((h _ refl).0.same (first +0 1) in-bounds.1.0).0 refl).1.2,
    λ h. false-true (((h _ refl).0.same (first +1 1) in-bounds.1.1).1 (first +1 1, (are-bits.1.1, reads.1 _, refl))),
  ),
)

-- of the model behind it: 0 satisfies it and 1 is never 0; 1 does not and 0 is 0
model-0 : both (λ n. SatisfiesModel (at_most_0 n) (first +0 n))
unfolding on_words
model-0 = ((judge_model_says (at_most_0 0) refl (first +0 0)).0 refl, (judge_model_says (at_most_0 1) refl (first +0 1)).0 refl)

pub of_model : both (λ n. (Form (with_row n) 0x60000001 → ⊥) × (Form (with_row n) 0x60000000 → ⊥))
unfolding on_words on_bits
of_model = (
  (
    λ h. different refl (((h _ refl).1 (at_most_0 0) refl refl (first +0 0) refl).0 model-0.0).1.2,
    λ h. false-true (((h _ refl).1 (at_most_0 0) refl refl (first +1 0) refl).1 (first +1 0, (are-bits.0.1, reads.0 _, refl))).all_true,
  ),
  (
    λ h. different refl (((h _ refl).1 (at_most_0 1) refl refl (first +0 1) refl).0 model-0.1).1.2,
    λ h. false-true (((h _ refl).1 (at_most_0 1) refl refl (first +1 1) refl).1 (first +1 1, (are-bits.1.1, reads.1 _, refl))).all_true,
  ),
)

-- ---- ValuesShare: of values in front of another one

abbrev Values : List ℕ → List ℕ → List ℤ → Type 0
Values ws bs vs = ValuesShare ws bs (written (length vs)) (vs ++ (pos 7 ∷ []))

abbrev bits : ℕ → ℕ → List ℕ
bits b n = b ∷ replicate n 0

-- the bit 1 does not read as 0; 2 is outside the bounds, and 2 no bit; a value too few, and one too many
pub values : both (λ n. (Values (with_row n) (bits 1 n) (first +0 n) → ⊥) × (Values (with_row n) (bits 1 n) (first +2 n) → ⊥) × (Values (with_row n) (bits 2 n) (first +2 n) → ⊥)
    × (Values (with_row n) (bits 0 n) (replicate n +0) → ⊥) × (Values (with_row n) (bits 0 n) (first +0 (suc n)) → ⊥))
unfolding on_bits
values = (
  (
    λ h. different refl ((h _ refl).0.read_as 0 (omega arith)),
    λ h. false-true ((h _ refl).0.in_bounds.in_bounds 0 (omega arith)),
    λ h. false-true (h _ refl).0.are_bits.zero_or_one,
    λ h. different refl (ap pos (h _ refl).0.in_bounds.one_each),
    λ h. different refl (ap pos (h _ refl).0.in_bounds.one_each),
  ),
  (
    λ h. different refl ((h _ refl).0.read_as 0 (omega arith)),
    λ h. false-true ((h _ refl).0.in_bounds.in_bounds 0 (omega arith)),
    λ h. false-true (h _ refl).0.are_bits.zero_or_one,
    λ h. different refl (ap pos (h _ refl).0.in_bounds.one_each),
    λ h. different refl (ap pos (h _ refl).0.in_bounds.one_each),
  ),
)

-- at the bit 0 the form is 0, and the value 1 satisfies neither the row nor the model
pub no_solution : both (λ n. (Values (with_row n) (bits 0 n) (first +1 n) → ⊥) × (Values (with_row n) (bits 0 n) (first +1 n) → ⊥))
unfolding on_words on_bits
no_solution = (
  (λ h. false-true ((h _ refl).0.satisfies refl), λ h. false-true ((h _ refl).1 (at_most_0 0) refl refl refl).all_true),
  (λ h. false-true ((h _ refl).0.satisfies refl), λ h. false-true ((h _ refl).1 (at_most_0 1) refl refl refl).all_true),
)

-- ---- EnergyShares: of −1, of 0 at bits that do not read as a solution, of 2 where it is 1

pub energies : both (λ n. (EnergyShares (with_row n) (bits 0 n) (energy_is -1) → ⊥) × (EnergyShares (with_row n) (bits 1 n) (energy_is +0) → ⊥) × (EnergyShares (with_row n) (bits 1 n) (energy_is +2) → ⊥))
unfolding on_bits
energies = (
  (λ h. (h _ refl).0.never_below.le, λ h. false-true ((h _ refl).0.satisfies refl), λ h. different refl (h _ refl).1),
  (λ h. (h _ refl).0.never_below.le, λ h. false-true ((h _ refl).0.satisfies refl), λ h. different refl (h _ refl).1),
)

-- of any energy of words that are no row system: no bits of it have the energy 0
pub no_rows : (e : ℤ) → EnergyShares (0x20000000 ∷ []) [] (energy_is e) → ⊥
unfolding on_bits
no_rows e h = different refl (ap said (((h _ refl).0.exact [] record { one_each = refl; in_bounds = λ v k. refl }).0 refl).1.1)
