-- What BestShares is worth: each part is false of wrong words, for row systems and models of 1 and 2 variables and both directions.
use Rattle.std.proofs.Common.{◌≡◌, refl, sym, ◌∙◌, false, true, List, [], ◌∷◌, ℕ, zero, suc, ◌<◌, arith, ℤ, length}
use Rattle.integers.specs.Number.{◌≟◌, +0, +1}
use Rattle.integers.specs.Terms.{value}
use Rattle.integers.specs.Bounds.{within, bounds_in}
use Rattle.integers.proofs.Tests.{false-true, says-equal}
use Rattle.words.specs.Answer.{written}
use Rattle.words.specs.Variables.{variables}
use Rattle.sharing.specs.SharedSolutions.{SatisfiesModel}
use Rattle.sharing.proofs.Judged.{judge_model_says}
use Rattle.sharing.proofs.OnWords.{on_words}
use Rattle.sharing.proofs.WrongSystems.{at_most_0, with_row, no_row, first}
use Rattle.bitforms.specs.ReadForm.{read_form}
use Rattle.bitforms.specs.SameSolutions.{AreBits}
use Rattle.bitanswers.proofs.OnBits.{on_bits}
use Rattle.bestforms.specs.declared.Direction.{Direction}
use Rattle.bestforms.specs.declared.Direction.TheVariants.{Least, Greatest}
use Rattle.bestforms.specs.BestForm.{distance, factor_of, factor}
use Rattle.bestforms.specs.BestSolutions.{Solves, LeastBits}
use Rattle.bestforms.specs.BestShares.{BestShares}

abbrev both : (ℕ → Type 0) → Type 0
both P = P 0 × P 1

different : {a b : ℤ} → (a ≟ b) ≡ false → a ≡ b → ⊥
different {a} {b} f e = false-true (sym f ∙ (says-equal a b).1 e)

-- ---- of the row that the first variable is at most 0, and of no row: a bit for each variable, which reads as itself

are-bits : both (λ n. AreBits (with_row n) (first +0 n) × AreBits (with_row n) (first +1 n) × AreBits (no_row n) (first +0 n) × AreBits (no_row n) (first +1 n))
unfolding on_bits
are-bits = (
  (record { one_each = refl; zero_or_one = refl }, record { one_each = refl; zero_or_one = refl }, record { one_each = refl; zero_or_one = refl }, record { one_each = refl; zero_or_one = refl }),
  (record { one_each = refl; zero_or_one = refl }, record { one_each = refl; zero_or_one = refl }, record { one_each = refl; zero_or_one = refl }, record { one_each = refl; zero_or_one = refl }),
)

abbrev Within : List ℕ → List ℤ → Type 0
Within ws vs = (v : ℕ) → v < length (variables ws) → within (bounds_in (variables ws) v) (value vs v) ≡ true

within-0 : Within (with_row 0) (first +0 0) × Within (no_row 0) (first +0 0) × Within (no_row 0) (first +1 0)
unfolding on_bits
within-0 = (λ v k. row v, λ v k. row v, λ v k. none v)
  where
    row : (v : ℕ) → within (bounds_in (variables (with_row 0)) v) (value (first +0 0) v) ≡ true
    row zero = refl
    row (suc v) = refl

    none : (v : ℕ) → within (bounds_in (variables (no_row 0)) v) (value (first +1 0) v) ≡ true
    none zero = refl
    none (suc v) = refl

within-1 : Within (with_row 1) (first +0 1) × Within (no_row 1) (first +0 1) × Within (no_row 1) (first +1 1)
unfolding on_bits
within-1 = (λ v k. row v, λ v k. row v, λ v k. none v)
  where
    row : (v : ℕ) → within (bounds_in (variables (with_row 1)) v) (value (first +0 1) v) ≡ true
    row zero = refl
    row (suc zero) = refl
    row (suc (suc v)) = refl

    none : (v : ℕ) → within (bounds_in (variables (no_row 1)) v) (value (first +1 1) v) ≡ true
    none zero = refl
    none (suc zero) = refl
    none (suc (suc v)) = refl

solves : both (λ n. Solves (with_row n) (first +0 n) × Solves (no_row n) (first +0 n) × Solves (no_row n) (first +1 n))
unfolding on_bits
solves = (
  ((record { one_each = refl; in_bounds = within-0.0 }, refl), (record { one_each = refl; in_bounds = within-0.1 }, refl), (record { one_each = refl; in_bounds = within-0.2 }, refl)),
  ((record { one_each = refl; in_bounds = within-1.0 }, refl), (record { one_each = refl; in_bounds = within-1.1 }, refl), (record { one_each = refl; in_bounds = within-1.2 }, refl)),
)

-- ---- BestShares: of the words of a constant alone, in front of other words, all bits are least

abbrev form : ℕ → List ℕ
form c = c ∷ 0xF0000000 ∷ 7 ∷ 8 ∷ []

abbrev Best : List ℕ → Direction → ℕ → Type 0
Best ws d c = BestShares ws 0 d (written 2) (form c)

least : (ws : List ℕ) (bs : List ℤ) → AreBits ws bs → LeastBits ws (read_form (form 0x60000000)) bs × LeastBits ws (read_form (form 0x60000005)) bs
unfolding on_bits
least ws bs a = (record { are_bits = a; least = λ cs h. record { le = tt } }, record { are_bits = a; least = λ cs h. record { le = tt } })

-- at some bits: 0 is not the form's value at 1; −1 is below 0; 0 is below M at 1, where the energy is not 0, and 5 is not at 0, where it is; nor does 1 solve the
-- row, and at 0 the form 1 is not the distance
pub at_bits : both (λ n. (Best (with_row n) Least 0x60000000 → ⊥) × (Best (with_row n) Least 0x6FFFFFFF → ⊥) × (Best (with_row n) Least 0x60000000 → ⊥) × (Best (with_row n) Least 0x60000005 → ⊥) × (Best (with_row n) Least 0x60000000 → ⊥) × (Best (with_row n) Least 0x60000001 → ⊥))
unfolding on_bits distance factor_of factor
at_bits = (
  (
    λ h. different refl ((h _ refl).0.at_bits (first +1 0) are-bits.0.1).value_there,
    λ h. ((h _ refl).0.at_bits (first +0 0) are-bits.0.0).never_below.le,
    λ h. different refl (((h _ refl).0.at_bits (first +1 0) are-bits.0.1).below_factor.0 record { lt = tt }),
    λ h. (((h _ refl).0.at_bits (first +0 0) are-bits.0.0).below_factor.1 refl).lt,
    λ h. false-true (((h _ refl).0.at_bits (first +1 0) are-bits.0.1).solves record { lt = tt }).0.1,
    λ h. different refl (((h _ refl).0.at_bits (first +0 0) are-bits.0.0).solves record { lt = tt }).1,
  ),
  (
    λ h. different refl ((h _ refl).0.at_bits (first +1 1) are-bits.1.1).value_there,
    λ h. ((h _ refl).0.at_bits (first +0 1) are-bits.1.0).never_below.le,
    λ h. different refl (((h _ refl).0.at_bits (first +1 1) are-bits.1.1).below_factor.0 record { lt = tt }),
    λ h. (((h _ refl).0.at_bits (first +0 1) are-bits.1.0).below_factor.1 refl).lt,
    λ h. false-true (((h _ refl).0.at_bits (first +1 1) are-bits.1.1).solves record { lt = tt }).0.1,
    λ h. different refl (((h _ refl).0.at_bits (first +0 1) are-bits.1.0).solves record { lt = tt }).1,
  ),
)

-- of all: the solution 0 is at no bits; 1 is no best solution, also below M; 5 says that there is none
pub solutions : both (λ n. (Best (with_row n) Least 0x60000005 → ⊥) × (Best (with_row n) Least 0x60000000 → ⊥) × (Best (with_row n) Least 0x60000005 → ⊥) × (Best (with_row n) Least 0x60000000 → ⊥))
unfolding on_bits distance factor_of factor
solutions = (
  (
    λ h. different refl ((h _ refl).0.reached (first +0 0) solves.0.0).1.2,
    λ h. false-true ((h _ refl).0.best (first +0 0) (first +1 0) solves.0.0 (least _ _ are-bits.0.1).0).0.1,
    λ h. (h _ refl).0.none (first +0 0) (least _ _ are-bits.0.0).1 record { le = tt } (first +0 0) solves.0.0,
    λ h. false-true ((h _ refl).0.some (first +1 0) (least _ _ are-bits.0.1).0 record { lt = tt }).0.1,
  ),
  (
    λ h. different refl ((h _ refl).0.reached (first +0 1) solves.1.0).1.2,
    λ h. false-true ((h _ refl).0.best (first +0 1) (first +1 1) solves.1.0 (least _ _ are-bits.1.1).0).0.1,
    λ h. (h _ refl).0.none (first +0 1) (least _ _ are-bits.1.0).1 record { le = tt } (first +0 1) solves.1.0,
    λ h. false-true ((h _ refl).0.some (first +1 1) (least _ _ are-bits.1.1).0 record { lt = tt }).0.1,
  ),
)

-- without a row 1 is not the least and 0 not the greatest
pub directions : both (λ n. (Best (no_row n) Least 0x60000000 → ⊥) × (Best (no_row n) Greatest 0x60000000 → ⊥))
unfolding on_bits distance factor_of factor
directions = (
  (λ h. (((h _ refl).0.best (first +0 0) (first +1 0) solves.0.1 (least _ _ are-bits.0.3).0).1 (first +0 0) solves.0.1).le, λ h. (((h _ refl).0.best (first +0 0) (first +0 0) solves.0.1 (least _ _ are-bits.0.2).0).1 (first +1 0) solves.0.2).le),
  (λ h. (((h _ refl).0.best (first +0 1) (first +1 1) solves.1.1 (least _ _ are-bits.1.3).0).1 (first +0 1) solves.1.1).le, λ h. (((h _ refl).0.best (first +0 1) (first +0 1) solves.1.1 (least _ _ are-bits.1.2).0).1 (first +1 1) solves.1.2).le),
)

-- of the model behind it, which 0 satisfies and 1 does not
model-0 : both (λ n. SatisfiesModel (at_most_0 n) (first +0 n))
unfolding on_words
model-0 = ((judge_model_says (at_most_0 0) refl (first +0 0)).0 refl, (judge_model_says (at_most_0 1) refl (first +0 1)).0 refl)

pub of_model : both (λ n. (Best (with_row n) Least 0x60000000 → ⊥) × (Best (with_row n) Least 0x60000005 → ⊥) × (Best (with_row n) Least 0x60000000 → ⊥))
unfolding on_words on_bits distance factor_of factor
of_model = (
  (
    λ h. false-true (((h _ refl).1 (at_most_0 0) refl refl (omega arith)).best (first +0 0) (first +1 0) model-0.0 (least _ _ are-bits.0.1).0).0.all_true,
    λ h. ((h _ refl).1 (at_most_0 0) refl refl (omega arith)).none (first +0 0) (least _ _ are-bits.0.0).1 record { le = tt } (first +0 0) model-0.0,
    λ h. false-true (((h _ refl).1 (at_most_0 0) refl refl (omega arith)).some (first +1 0) (least _ _ are-bits.0.1).0 record { lt = tt }).0.all_true,
  ),
  (
    λ h. false-true (((h _ refl).1 (at_most_0 1) refl refl (omega arith)).best (first +0 1) (first +1 1) model-0.1 (least _ _ are-bits.1.1).0).0.all_true,
    λ h. ((h _ refl).1 (at_most_0 1) refl refl (omega arith)).none (first +0 1) (least _ _ are-bits.1.0).1 record { le = tt } (first +0 1) model-0.1,
    λ h. false-true (((h _ refl).1 (at_most_0 1) refl refl (omega arith)).some (first +1 1) (least _ _ are-bits.1.1).0 record { lt = tt }).0.all_true,
  ),
)
