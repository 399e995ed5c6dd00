-- What Satisfied and HandsOver are worth: each is false of wrong values, for models of 1, 2 and 3 variables, with and without auxiliaries.
use Rattle.std.proofs.Common.{◌≡◌, refl, sym, ap, ◌∙◌, false, List, [], ◌∷◌, ◌++◌, ℕ, suc, ◌+◌, arith, ℤ, pos, length, replicate}
use Rattle.integers.specs.Number.{◌≟◌, +0, +1, +2}
use Rattle.integers.proofs.Tests.{false-true, says-equal}
use Rattle.words.specs.Answer.{Answer, refused, written, holds, is_false}
use Rattle.sharing.proofs.OnWords.{on_words}
use Rattle.sharing.proofs.WrongSystems.{three, free, at_most_0, of_0_and_1, first}
use Rattle.filling.specs.Satisfied.{Satisfied}
use Rattle.filling.specs.HandsOver.{HandsOver}
use Rattle.filling.proofs.WrongOutputs.{differs, answers, plain_before, plain, bits_before, with_bits}

-- of the values: the first is another; one behind what is written is another; nothing is written
abbrev Plain : ℕ → Answer → List ℤ → Type 0
Plain n answer after = HandsOver (free n) (first +1 n) answer (plain_before n) after

pub plain_outputs : three (λ n. (Plain n (written (suc n)) (first +0 n ++ (pos 7 ∷ pos 7 ∷ [])) → ⊥) × (Plain n (written (suc n)) (first +1 n ++ (pos 8 ∷ pos 7 ∷ [])) → ⊥) × (Plain n (written (suc n)) (plain_before n) → ⊥))
unfolding on_words
plain_outputs =
    ((differs 0 plain.0 refl, differs 1 plain.0 refl, differs 0 plain.0 refl), (differs 0 plain.1 refl, differs 2 plain.1 refl, differs 0 plain.1 refl), (differs 0 plain.2 refl, differs 3 plain.2 refl, differs 0 plain.2 refl))

-- a value too many or too few was written; "holds"; a fault; a constraint that is false
pub plain_answers : three (λ n. (after : List ℤ) → (Plain n (written (suc (suc n))) after → ⊥) × (Plain n (written n) after → ⊥) × (Plain n holds after → ⊥) × (Plain n (refused 15 0) after → ⊥) × (Plain n (is_false 0) after → ⊥))
unfolding on_words
plain_answers = (
  λ after. (answers plain.0 refl, answers plain.0 refl, answers plain.0 refl, answers plain.0 refl, answers plain.0 refl),
  λ after. (answers plain.1 refl, answers plain.1 refl, answers plain.1 refl, answers plain.1 refl, answers plain.1 refl),
  λ after. (answers plain.2 refl, answers plain.2 refl, answers plain.2 refl, answers plain.2 refl, answers plain.2 refl),
)

-- with auxiliaries: the bits of the other value; only the values are written; the values are counted without them
abbrev Bits : ℕ → Answer → List ℤ → Type 0
Bits n answer after = HandsOver (of_0_and_1 n) (first +1 n) answer (bits_before n) after

pub auxiliaries_too : three (λ n. (Bits n (written (suc n + 2)) (first +1 n ++ (+1 ∷ +0 ∷ pos 7 ∷ [])) → ⊥) × (Bits n (written (suc n + 2)) (first +1 n ++ (pos 7 ∷ pos 7 ∷ pos 7 ∷ [])) → ⊥) × ((after : List ℤ) → Bits n (written (suc n)) after → ⊥))
unfolding on_words
auxiliaries_too = (
  (differs 1 with_bits.0 refl, differs 1 with_bits.0 refl, λ after. answers with_bits.0 refl),
  (differs 2 with_bits.1 refl, differs 2 with_bits.1 refl, λ after. answers with_bits.1 refl),
  (differs 3 with_bits.2 refl, differs 3 with_bits.2 refl, λ after. answers with_bits.2 refl),
)

counted : {a b : ℕ} → (pos a ≟ pos b) ≡ false → a ≡ b → ⊥
counted f e = false-true (sym f ∙ (says-equal _ _).1 (ap pos e))

-- ---- Satisfied: of values in front of another one, where the answer is that they were written

abbrev Written : List ℕ → List ℤ → Type 0
Written model xs = Satisfied model (written (length xs)) (xs ++ (pos 7 ∷ []))

-- a row is false; a value is out of bounds; a value too few, and one too many
pub satisfied : three (λ n. (Written (at_most_0 n) (first +1 n) → ⊥) × (Written (free n) (first +2 n) → ⊥) × (Written (free n) (replicate n +0) → ⊥) × (Written (free n) (first +0 (suc n)) → ⊥))
unfolding on_words
satisfied = (
  (λ h. false-true (h _ refl).all_true, λ h. false-true ((h _ refl).in_bounds 0 (omega arith)), λ h. counted refl (h _ refl).one_each, λ h. counted refl (h _ refl).one_each),
  (λ h. false-true (h _ refl).all_true, λ h. false-true ((h _ refl).in_bounds 0 (omega arith)), λ h. counted refl (h _ refl).one_each, λ h. counted refl (h _ refl).one_each),
  (λ h. false-true (h _ refl).all_true, λ h. false-true ((h _ refl).in_bounds 0 (omega arith)), λ h. counted refl (h _ refl).one_each, λ h. counted refl (h _ refl).one_each),
)

-- with auxiliaries: those of the other value
pub satisfied_auxiliaries : three (λ n. Written (of_0_and_1 n) (first +1 n ++ (+1 ∷ +0 ∷ [])) → ⊥)
unfolding on_words
satisfied_auxiliaries = (λ h. false-true (h _ refl).all_true, λ h. false-true (h _ refl).all_true, λ h. false-true (h _ refl).all_true)
