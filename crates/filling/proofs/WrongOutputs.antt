-- What HandsOver says of an output, and so which outputs and answers it is false of.
use Rattle.std.proofs.Common.{◌≡◌, refl, sym, ap, ◌∙◌, false, List, [], ◌∷◌, ◌++◌, ℕ, ◌+◌, ◌≤◌, arith, ℤ, pos, length, replicate}
use Rattle.integers.specs.Number.{◌≟◌, +0, +1, -1}
use Rattle.integers.specs.Terms.{value}
use Rattle.integers.proofs.Tests.{false-true, says-equal}
use Rattle.words.specs.Answer.{Answer, refused, counts, written, holds, out_of_bounds, is_false}
use Rattle.words.specs.Overlay.{overlay}
use Rattle.words.specs.Variables.{variables}
use Rattle.words.specs.Refusal.{accepted}
use Rattle.models.specs.JudgeModel.{judge_model}
use Rattle.models.specs.Reading.{read_model}
use Rattle.rules.specs.Translation.{auxiliaries, picks}
use Rattle.sharing.specs.SharedSolutions.{Passes}
use Rattle.sharing.proofs.Judged.{judge_model_says}
use Rattle.sharing.proofs.Theorem.{only-fill}
use Rattle.sharing.proofs.OnWords.{on_words}
use Rattle.sharing.proofs.WrongSystems.{three, free, of_0_and_1, first}
use Rattle.filling.specs.HandsOver.{HandsOver}

-- a model that passes, a list that satisfies it, an output with room for it and the auxiliaries, and what stands there then
pub record Filled (model : List ℕ) (vs before after : List ℤ) : Type 0 where
  pub passes : Passes model
  pub read : read_model model ≡ accepted
  pub solves : judge_model model vs ≡ holds
  pub room : length (variables model) + length (auxiliaries model) ≤ length before
  pub laid : overlay before 0 (vs ++ picks model vs) ≡ after

pub says : (model : List ℕ) (vs before right : List ℤ) → Filled model vs before right → (answer : Answer) (after : List ℤ) → HandsOver model vs answer before after →
    (answer ≡ written (length (vs ++ picks model vs))) × (after ≡ right)
says model vs before right f answer after h =
    let x = h f.passes ((judge_model_says model f.read vs).0 f.solves) f.room in
    let same = (only-fill model f.passes vs x.0 x.1).1 in
    (x.3 ∙ ap (λ xs. written (length (vs ++ xs))) same, x.4 ∙ ap (λ xs. overlay before 0 (vs ++ xs)) same ∙ f.laid)

-- an output that differs at place k, and an answer that is not that many values were written
pub differs : (k : ℕ) {model : List ℕ} {vs before right after : List ℤ} {answer : Answer} → Filled model vs before right → (value after k ≟ value right k) ≡ false →
    HandsOver model vs answer before after → ⊥
differs k f d h = false-true (sym d ∙ (says-equal _ _).1 (ap (λ l. value l k) (says _ _ _ _ f _ _ h).1))

-- the number of an answer that values were written, −1 for another one
abbrev pub number : Answer → ℤ
number (refused n p) = -1
number (counts v c a r w) = -1
number (written n) = pos n
number holds = -1
number (out_of_bounds i) = -1
number (is_false i) = -1

pub answers : {model : List ℕ} {vs before right after : List ℤ} {answer : Answer} → Filled model vs before right → (number answer ≟ pos (length (vs ++ picks model vs))) ≡ false →
    HandsOver model vs answer before after → ⊥
answers f d h = false-true (sym d ∙ (says-equal _ _).1 (ap number (says _ _ _ _ f _ _ h).0))

-- the values 1, 0, 0 .. of a model without auxiliaries, and with two bits; room for two more
abbrev pub plain_before : ℕ → List ℤ
plain_before n = pos 7 ∷ (replicate n (pos 7) ++ (pos 7 ∷ pos 7 ∷ []))

pub plain : three (λ n. Filled (free n) (first +1 n) (plain_before n) (first +1 n ++ (pos 7 ∷ pos 7 ∷ [])))
unfolding on_words
plain = (
  record { passes = refl; read = refl; solves = refl; room = omega arith; laid = refl },
  record { passes = refl; read = refl; solves = refl; room = omega arith; laid = refl },
  record { passes = refl; read = refl; solves = refl; room = omega arith; laid = refl },
)

abbrev pub bits_before : ℕ → List ℤ
bits_before n = pos 7 ∷ (replicate n (pos 7) ++ (pos 7 ∷ pos 7 ∷ pos 7 ∷ []))

pub with_bits : three (λ n. Filled (of_0_and_1 n) (first +1 n) (bits_before n) (first +1 n ++ (+0 ∷ +1 ∷ pos 7 ∷ [])))
unfolding on_words
with_bits = (
  record { passes = refl; read = refl; solves = refl; room = omega arith; laid = refl },
  record { passes = refl; read = refl; solves = refl; room = omega arith; laid = refl },
  record { passes = refl; read = refl; solves = refl; room = omega arith; laid = refl },
)
