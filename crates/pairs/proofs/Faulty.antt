-- 02, wish 12: "a faulty word in the table refuses both".
use Rattle.std.proofs.Common.{◌≡◌, refl, sym, ◌∙◌, arith, Bool, true, false, List, [], ◌∷◌, ◌++◌, ℕ, zero, suc, ◌+◌, ltb, eqb, ℤ, length}
use Rattle.integers.specs.Choice.{◌if◌else◌}
use Rattle.words.specs.Refusals.{Refusal}
use Rattle.words.specs.Refusal.{◌at_place◌, accepted, ◌else_refuse◌, fault_or, first_fault}
use Rattle.words.specs.Answer.{Answer, refused, refused_or, ◌else_answer◌}
use Rattle.words.proofs.Reading.{some-fault}
use Rattle.models.specs.Reading.{State, fault_in, after, ended, begin, read_model, read_model_in}
use Rattle.models.specs.InRange.{fault}
use Rattle.models.specs.JudgeModel.{judge_model}
use Rattle.rules.specs.Check.{check_fault, check_fault_in, check, check_in}
use Rattle.rules.specs.Translate.{translate, translate_in, translate_fault_in}
use Rattle.rules.specs.Fill.{fill, fill_in, fill_fault_in}
use Rattle.pairs.specs.Pair.{variable_table, first_model, second_model, model_of, pair_fault}
use Rattle.pairs.specs.Calls.{pair_check, pair_translate, pair_judge, pair_fill}
use Rattle.pairs.specs.FaultyTable.{length_fault, words_fault, table_fault}
use Rattle.pairs.proofs.Models.{first_splits, second_splits}

-- what follows plays no part, where there is one
onward : (s : State) (p : ℕ) (xs ys : List ℕ) → ((words_fault s p xs).number ≡ 0 → ⊥) → first_fault fault after ended s p (xs ++ ys) ≡ words_fault s p xs
unfolding words_fault first_fault fault_in
onward s p [] ys h = absurd (h refl)
onward s p (x ∷ xs) ys h =
    go (fault s x []) (first_fault fault after (λ s. 0) (after s x) (p + 1) xs) (first_fault fault after ended (after s x) (p + 1) (xs ++ ys)) h (onward (after s x) (p + 1) xs ys)
  where
    go : (n : ℕ) (W R : Refusal) → ((fault_or n p W).number ≡ 0 → ⊥) → ((W.number ≡ 0 → ⊥) → R ≡ W) → fault_or n p R ≡ fault_or n p W
    go zero W R k f = f k
    go (suc n) W R k f = refl

-- words with a faulty word at their front are refused with it, unless they are too many
faulty : (xs ys : List ℕ) → ((words_fault begin 0 xs).number ≡ 0 → ⊥) →
    read_model (xs ++ ys) ≡ (1 at_place 0 if ltb 8192 (length (xs ++ ys)) else words_fault begin 0 xs)
unfolding read_model_in
faulty xs ys h = rw (onward begin 0 xs ys h)

-- THE LAW: both models are refused with the table's fault, at its place, or with 1 if they are too long
module _ (ws : List ℕ) (h : (words_fault begin 0 (variable_table ws)).number ≡ 0 → ⊥) where
  pub first-refused : read_model (first_model ws) ≡ (1 at_place 0 if ltb 8192 (length (first_model ws)) else words_fault begin 0 (variable_table ws))
  first-refused = rw (first_splits ws) (faulty (variable_table ws) _ h)

  pub second-refused : read_model (second_model ws) ≡ (1 at_place 0 if ltb 8192 (length (second_model ws)) else words_fault begin 0 (variable_table ws))
  second-refused = rw (second_splits ws) (faulty (variable_table ws) _ h)

-- ---- so the calls are refused

-- a refusal with a fault stands before another, and before an answer
through : (f after : Refusal) → (f.number ≡ 0 → ⊥) → (f else_refuse after) ≡ f
unfolding ◌else_refuse◌
through f after h = sym (some-fault f.number f.place after h)

answers : (f : Refusal) (after : Answer) → (f.number ≡ 0 → ⊥) → (f else_answer after) ≡ refused f.number f.place
unfolding ◌else_answer◌
answers f after h = go f.number h
  where
    go : (n : ℕ) → (n ≡ 0 → ⊥) → refused_or n f.place after ≡ refused n f.place
    go zero h = absurd (h refl)
    go (suc n) h = refl

module _ (M : List ℕ) (f : Refusal) (e : read_model M ≡ f) (h : f.number ≡ 0 → ⊥) where
  fault_checked : check_fault M ≡ f
  unfolding check_fault_in
  fault_checked = rw e (through f _ h)

  check-is : check M ≡ refused f.number f.place
  unfolding check_in
  check-is = rw fault_checked (answers f _ h)

  translate-is : (room : ℕ) → translate M room ≡ refused f.number f.place
  unfolding translate_in translate_fault_in
  translate-is room = rw (fault_checked, through f _ h) (answers f _ h)

  judge-is : (vs : List ℤ) → judge_model M vs ≡ refused f.number f.place
  unfolding judge_model
  judge-is vs = rw (e, through f _ h) (answers f _ h)

  fill-is : (vs : List ℤ) (room : ℕ) → fill M vs room ≡ refused f.number f.place
  unfolding fill_in fill_fault_in
  fill-is vs room = rw (fault_checked, through f _ h) (answers f _ h)

-- THE LAW, of the calls
module _ (candidate : ℕ) (ws : List ℕ) (some : pair_fault ws ≡ accepted) (h : (table_fault ws).number ≡ 0 → ⊥) where
  abbrev M : List ℕ
  M = model_of candidate ws

  abbrev first : Refusal
  first = length_fault M else_refuse table_fault ws

  refused-model : read_model M ≡ (1 at_place 0 if ltb 8192 (length M) else table_fault ws)
  unfolding model_of
  refused-model = go (eqb candidate 1)
    where
      go : (b : Bool) → let m : List ℕ = first_model ws if b else second_model ws in read_model m ≡ (1 at_place 0 if ltb 8192 (length m) else table_fault ws)
      go true = first-refused ws h
      go false = second-refused ws h

  read-is : read_model M ≡ first
  unfolding length_fault ◌else_refuse◌
  read-is = refused-model ∙ go (ltb 8192 (length M))
    where
      go : (b : Bool) → let l : Refusal = 1 at_place 0 if b else accepted in (1 at_place 0 if b else table_fault ws) ≡ fault_or l.number l.place (table_fault ws)
      go true = refl
      go false = refl

  faulty-first : first.number ≡ 0 → ⊥
  unfolding length_fault ◌else_refuse◌
  faulty-first = go (ltb 8192 (length M))
    where
      go : (b : Bool) → let l : Refusal = 1 at_place 0 if b else accepted in (fault_or l.number l.place (table_fault ws)).number ≡ 0 → ⊥
      go true e = omega arith
      go false e = h e

  pub check-refused : pair_check candidate ws ≡ refused first.number first.place
  unfolding pair_check ◌else_answer◌
  check-refused = rw some (check-is M first read-is faulty-first)

  pub translate-refused : (room : ℕ) → pair_translate candidate ws room ≡ refused first.number first.place
  unfolding pair_translate ◌else_answer◌
  translate-refused room = rw some (translate-is M first read-is faulty-first room)

  pub judge-refused : (vs : List ℤ) → pair_judge candidate ws vs ≡ refused first.number first.place
  unfolding pair_judge ◌else_answer◌
  judge-refused vs = rw some (judge-is M first read-is faulty-first vs)

  pub fill-refused : (vs : List ℤ) (room : ℕ) → pair_fill candidate ws vs room ≡ refused first.number first.place
  unfolding pair_fill ◌else_answer◌
  fill-refused vs room = rw some (fill-is M first read-is faulty-first vs room)
