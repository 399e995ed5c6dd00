-- What a pair's laws are worth: PairHandsOver and RefusedByTable are false of wrong answers, and of each candidate the law of OtherWrote of answers that look at what the
-- other candidate wrote, faulty words and too many words included.
use Rattle.std.proofs.Common.{◌≡◌, refl, sym, ap, ◌∙◌, false, List, [], ◌∷◌, ◌++◌, ℕ, suc, arith, ℤ, pos, length, replicate}
use Rattle.integers.specs.Number.{◌≟◌, +0, +1}
use Rattle.integers.specs.Lists.{any}
use Rattle.integers.proofs.Tests.{false-true, says-equal}
use Rattle.words.specs.Kind as Kind
use Rattle.words.specs.Word.{kind}
use Rattle.words.specs.Answer.{Answer, refused, counts, written, holds, out_of_bounds, is_false}
use Rattle.sharing.proofs.OnWords.{on_words}
use Rattle.sharing.proofs.WrongSystems.{booleans, first}
use Rattle.filling.proofs.WrongOutputs.{differs, answers, plain_before, plain}
use Rattle.pairs.specs.Pair.{separator, separates, ends_table, before, variable_table, first_model, second_model, model_of, pair_fault}
use Rattle.pairs.specs.HandsOver.{PairHandsOver}
use Rattle.pairs.specs.FaultyTable.{length_fault, words_fault, RefusedByTable}
use Rattle.pairs.specs.Alone.{none, begins, OtherWrote, the_second, the_first}

-- ---- PairHandsOver: of a table in 0..1 and n Boolean variables, of which each candidate's model is free n

abbrev table : ℕ → List ℕ
table n = 0x10000000 ∷ 0x20000001 ∷ booleans n []

-- of the first the second candidate is no model, of the second the first has a constraint
abbrev First : ℕ → Answer → List ℤ → Type 0
First n answer after = PairHandsOver 1 (table n ++ (separator ∷ 0x50000000 ∷ [])) (first +1 n) answer (plain_before n) after

abbrev Second : ℕ → Answer → List ℤ → Type 0
Second n answer after = PairHandsOver 2 (table n ++ (0x40000001 ∷ 0x50000000 ∷ 0x50000000 ∷ separator ∷ 0x70000000 ∷ [])) (first +1 n) answer (plain_before n) after

abbrev both : (ℕ → Type 0) → Type 0
both P = P 0 × P 1

wrong_values : both (λ n. (First n (written (suc n)) (first +0 n ++ (pos 7 ∷ pos 7 ∷ [])) → ⊥) × (Second n (written (suc n)) (first +0 n ++ (pos 7 ∷ pos 7 ∷ [])) → ⊥)
    × (First n (written (suc n)) (plain_before n) → ⊥) × (Second n (written (suc n)) (plain_before n) → ⊥))
unfolding on_words separates ends_table before variable_table first_model second_model model_of pair_fault
wrong_values = (
  (λ h. differs 0 plain.0 refl (h refl), λ h. differs 0 plain.0 refl (h refl), λ h. differs 0 plain.0 refl (h refl), λ h. differs 0 plain.0 refl (h refl)),
  (λ h. differs 0 plain.1 refl (h refl), λ h. differs 0 plain.1 refl (h refl), λ h. differs 0 plain.1 refl (h refl), λ h. differs 0 plain.1 refl (h refl)),
)

wrong_answers : both (λ n. (after : List ℤ) → (First n (written n) after → ⊥) × (Second n (written n) after → ⊥) × (First n holds after → ⊥) × (Second n (refused 3 1) after → ⊥))
unfolding on_words separates ends_table before variable_table first_model second_model model_of pair_fault
wrong_answers = (
  λ after. (λ h. answers plain.0 refl (h refl), λ h. answers plain.0 refl (h refl), λ h. answers plain.0 refl (h refl), λ h. answers plain.0 refl (h refl)),
  λ after. (λ h. answers plain.1 refl (h refl), λ h. answers plain.1 refl (h refl), λ h. answers plain.1 refl (h refl), λ h. answers plain.1 refl (h refl)),
)

-- ---- RefusedByTable: a faulty word in the table, 3 at place 1 in front of a candidate's words; of both candidates

-- the number and the place of a fault, and others of another answer
abbrev number : Answer → ℕ
number (refused n p) = n
number (counts v c a r w) = 0
number (written n) = 0
number holds = 0
number (out_of_bounds i) = 0
number (is_false i) = 0

abbrev place : Answer → ℕ
place (refused n p) = p
place (counts v c a r w) = 0
place (written n) = 0
place holds = 0
place (out_of_bounds i) = 0
place (is_false i) = 0

other : {a b : ℕ} → (pos a ≟ pos b) ≡ false → a ≡ b → ⊥
other f e = false-true (sym f ∙ (says-equal _ _).1 (ap pos e))

abbrev faulty : List ℕ
faulty = 0x30000000 ∷ 0x20000000 ∷ separator ∷ 0x70000000 ∷ []

abbrev Refused : ℕ → Answer → Type 0
Refused candidate answer = RefusedByTable candidate faulty answer → ⊥

not-zero : {n : ℕ} → n ≡ 3 → n ≡ 0 → ⊥
not-zero e f = omega (arith, e, f)

refusals : Refused 1 (counts 1 0 0 0 2) × Refused 2 (counts 1 0 0 0 2) × Refused 1 (refused 3 0) × Refused 2 (refused 3 0) × Refused 1 (refused 2 1) × Refused 2 (refused 4 1) × Refused 2 holds × Refused 1 (written 3)
unfolding on_words separates ends_table before variable_table first_model second_model model_of pair_fault length_fault words_fault
refusals = (
  λ h. other refl (ap number (h refl (not-zero refl))),
  λ h. other refl (ap number (h refl (not-zero refl))),
  λ h. other refl (ap place (h refl (not-zero refl))),
  λ h. other refl (ap place (h refl (not-zero refl))),
  λ h. other refl (ap number (h refl (not-zero refl))),
  λ h. other refl (ap number (h refl (not-zero refl))),
  λ h. other refl (ap number (h refl (not-zero refl))),
  λ h. other refl (ap number (h refl (not-zero refl))),
)

-- ---- OtherWrote: an answer that is the same of two pairs that differ in what the other candidate wrote is not the number of words

abbrev Counted : ℕ → List ℕ → List ℕ → Type 0
Counted candidate ws us = (OtherWrote candidate ws us → length ws ≡ length us) → ⊥

-- the second wrote a right model, a faulty word, another separator, an integer variable more, more words than a model may have; of the first even in place of a model
abbrev Second-wrote : List ℕ → Type 0
Second-wrote S = Counted 1 (0x30000000 ∷ separator ∷ []) (0x30000000 ∷ separator ∷ S)

second-wrote : Second-wrote (0x70000000 ∷ []) × Second-wrote (0x20000000 ∷ []) × Second-wrote (separator ∷ []) × Second-wrote (0x10000000 ∷ 0x20000001 ∷ 0x70000000 ∷ []) × Second-wrote (replicate 8193 0x30000000)
unfolding ◌≟◌
second-wrote = (
  λ h. other refl (h (the_second refl (0x30000000 ∷ []) [] (0x70000000 ∷ []))),
  λ h. other refl (h (the_second refl (0x30000000 ∷ []) [] (0x20000000 ∷ []))),
  λ h. other refl (h (the_second refl (0x30000000 ∷ []) [] (separator ∷ []))),
  λ h. other refl (h (the_second refl (0x30000000 ∷ []) [] (0x10000000 ∷ 0x20000001 ∷ 0x70000000 ∷ []))),
  λ h. other refl (h (the_second refl (0x30000000 ∷ []) [] (replicate 8193 0x30000000))),
)

-- the first wrote a constraint in place of no words; a code that is unknown; a constraint that ends too early; more words than a model may have. The second wrote a model, or a faulty word
abbrev First-wrote : List ℕ → Type 0
First-wrote F =
    Counted 2 (0x30000000 ∷ separator ∷ 0x70000000 ∷ []) (0x30000000 ∷ (F ++ (separator ∷ 0x70000000 ∷ []))) × Counted 2 (0x30000000 ∷ separator ∷ 0x20000000 ∷ []) (0x30000000 ∷ (F ++ (separator ∷ 0x20000000 ∷ [])))

wrote : (w : ℕ) (F S : List ℕ) → kind w ≡ Kind.constraint → any separates (w ∷ F) ≡ false → OtherWrote 2 (0x30000000 ∷ separator ∷ S) (0x30000000 ∷ (w ∷ F ++ (separator ∷ S)))
unfolding on_words separates ends_table
wrote w F S k s = the_first (λ e. omega (arith, e)) (0x30000000 ∷ []) [] (w ∷ F) S refl none (begins w F k s)

first-wrote : First-wrote (0x40000001 ∷ (0x50000000 ∷ 0x50000000 ∷ [])) × First-wrote (0x40000000 ∷ []) × First-wrote (0x40000001 ∷ []) × First-wrote (0x40000001 ∷ (replicate 8193 0x50000000))
unfolding on_words separates
first-wrote = (
  (λ h. other refl (h (wrote 0x40000001 (0x50000000 ∷ 0x50000000 ∷ []) (0x70000000 ∷ []) refl refl)), λ h. other refl (h (wrote 0x40000001 (0x50000000 ∷ 0x50000000 ∷ []) (0x20000000 ∷ []) refl refl))),
  (λ h. other refl (h (wrote 0x40000000 [] (0x70000000 ∷ []) refl refl)), λ h. other refl (h (wrote 0x40000000 [] (0x20000000 ∷ []) refl refl))),
  (λ h. other refl (h (wrote 0x40000001 [] (0x70000000 ∷ []) refl refl)), λ h. other refl (h (wrote 0x40000001 [] (0x20000000 ∷ []) refl refl))),
  (λ h. other refl (h (wrote 0x40000001 (replicate 8193 0x50000000) (0x70000000 ∷ []) refl refl)), λ h. other refl (h (wrote 0x40000001 (replicate 8193 0x50000000) (0x20000000 ∷ []) refl refl))),
)
