-- 02, wish 12: "nothing that one writes, faulty or not, alters what the other gets, limits included, as long as the first candidate's words are
-- none or begin with kind 4, and hold no D0000000".
use Rattle.std.proofs.Common.{◌≡◌, refl, sym, ap, ◌∙◌, Bool, true, false, ◌||◌, List, [], ◌∷◌, ◌++◌, append_assoc, ℕ, suc, ◌+◌, ◌≤◌, arith, eqb, ℤ, length, take, drop, length-append, drop_at, eq-eqb, ne_eqb}
use lib.Seq.{take-append-le, take-append_seam}
use Rattle.integers.specs.Choice.{◌if◌else◌}
use Rattle.integers.specs.Lists.{any}
use Rattle.integers.proofs.Tests.{false-true}
use Rattle.words.specs.Word.{kind, word}
use Rattle.words.specs.Refusal.{accepted}
use Rattle.words.specs.Answer.{◌else_answer◌}
use Rattle.models.specs.JudgeModel.{judge_model}
use Rattle.rules.specs.Check.{check}
use Rattle.rules.specs.Translate.{translate, translated}
use Rattle.rules.specs.Fill.{fill, filled}
use Rattle.pairs.specs.Pair.{separator, separates, ends_table, before, variable_table, first_model, second_model, model_of, pair_fault}
use Rattle.pairs.specs.Alone.{Table, FirstWords, none, begins, OtherWrote, the_second, the_first}
use Rattle.pairs.specs.Calls.{pair_check, pair_translate, pair_translated, pair_judge, pair_fill, pair_filled}
use Rattle.pairs.proofs.Before.{before-over, before-none}

-- what a candidate gets from the calls is what the model m gets by itself
pub record Gets (candidate : ℕ) (ws m : List ℕ) : Type 0 where
  pub checks : pair_check candidate ws ≡ check m
  pub translates : (room : ℕ) → pair_translate candidate ws room ≡ translate m room
  pub outputs : (out : List ℕ) → pair_translated candidate ws out ≡ translated m out
  pub judges : (vs : List ℤ) → pair_judge candidate ws vs ≡ judge_model m vs
  pub fills : (vs : List ℤ) (room : ℕ) → pair_fill candidate ws vs room ≡ fill m vs room
  pub hands : (vs out : List ℤ) → pair_filled candidate ws vs out ≡ filled m vs out

gets : (candidate : ℕ) (ws m : List ℕ) → pair_fault ws ≡ accepted → model_of candidate ws ≡ m → Gets candidate ws m
unfolding pair_check pair_translate pair_translated pair_judge pair_fill pair_filled ◌else_answer◌
gets candidate ws m e f =
    record {
      checks = rw (e, f);
      translates = λ room. rw (e, f);
      outputs = λ out. rw (e, f);
      judges = λ vs. rw (e, f);
      fills = λ vs room. rw (e, f);
      hands = λ vs out. rw (e, f);
    }

separates-itself : separates separator ≡ true
unfolding separates
separates-itself = refl

separator-ends : ends_table separator ≡ true
unfolding ends_table separates kind
separator-ends = refl

-- ---- the words of a pair: a table, the first candidate's words, D0000000, the second's
module _ (T : List ℕ) (t : Table T) where
  no_separators : (xs : List ℕ) → any ends_table xs ≡ false → any separates xs ≡ false
  unfolding any ends_table
  no_separators [] h = refl
  no_separators (x ∷ xs) h = go (eqb (kind x) 4 || eqb (kind x) 7) (separates x) h (no_separators xs)
    where
      go : (a b : Bool) → ((a || b) || any ends_table xs) ≡ false → (any ends_table xs ≡ false → any separates xs ≡ false) → (b || any separates xs) ≡ false
      go true b e k = false-true (sym e)
      go false true e k = false-true (sym e)
      go false false e k = k e

  constraint-ends : (w : ℕ) → kind w ≡ 4 → ends_table w ≡ true
  unfolding ends_table
  constraint-ends w h = rw (eq-eqb (kind w) 4 h)

  abbrev pub pair_of : List ℕ → List ℕ → List ℕ
  pair_of F S = T ++ (F ++ (separator ∷ S))

  module _ (F S : List ℕ) (f : FirstWords F) where
    held : {F : List ℕ} → FirstWords F → any separates F ≡ false
    unfolding any
    held none = refl
    held (begins w F k h) = h

    ends : {F : List ℕ} → FirstWords F → before ends_table (F ++ (separator ∷ S)) ≡ 0
    ends none = before-none ends_table separator S separator-ends
    ends (begins w F k h) = before-none ends_table w _ (constraint-ends w k)

    at_table : before ends_table (pair_of F S) ≡ length T
    at_table = omega (arith, before-over ends_table T (F ++ (separator ∷ S)) t, ends f)

    at-separator : before separates (pair_of F S) ≡ length (T ++ F)
    at-separator =
        omega (arith, before-over separates T (F ++ (separator ∷ S)) (no_separators T t), before-over separates F (separator ∷ S) (held f), before-none separates separator S separates-itself, length-append T F)

    regroup : pair_of F S ≡ (T ++ F) ++ (separator ∷ S)
    regroup = sym (append_assoc T F _)

    pub no-fault : pair_fault (pair_of F S) ≡ accepted
    unfolding pair_fault
    no-fault =
        rw (ne_eqb (before separates (pair_of F S)) (length (pair_of F S)) (λ e. omega (arith, at-separator, ap length regroup, length-append (T ++ F) (separator ∷ S))))

    first-is : first_model (pair_of F S) ≡ (T ++ F) ++ (word 7 0 ∷ [])
    unfolding first_model
    first-is = rw at-separator (rw regroup (rw (take-append_seam (T ++ F) (separator ∷ S))))

    after : drop (length (T ++ F) + 1) ((T ++ F) ++ (separator ∷ S)) ≡ S
    after =
        let e : length ((T ++ F) ++ (separator ∷ [])) ≡ length (T ++ F) + 1 = length-append (T ++ F) (separator ∷ []) in
        rw (sym (append_assoc (T ++ F) (separator ∷ []) S)) (drop_at ((T ++ F) ++ (separator ∷ [])) S (length (T ++ F) + 1) e)

    second_is : second_model (pair_of F S) ≡ T ++ S
    unfolding second_model variable_table
    second_is = rw (at_table, at-separator, take-append_seam T (F ++ (separator ∷ S))) (ap (λ (l : List ℕ). T ++ drop (length (T ++ F) + 1) l) regroup ∙ ap (λ (l : List ℕ). T ++ l) after)

    -- THE LAW: the first candidate gets what the table, the first's own words and an end word get; the second, what the table and the second's words get
    pub first-gets : Gets 1 (pair_of F S) ((T ++ F) ++ (word 7 0 ∷ []))
    unfolding model_of
    first-gets = gets 1 (pair_of F S) _ no-fault first-is

    pub second-gets : Gets 2 (pair_of F S) (T ++ S)
    unfolding model_of
    second-gets = gets 2 (pair_of F S) _ no-fault second_is

-- ---- what one writes alters nothing of what the other gets

-- the first D0000000 does not depend on what follows it
upto : (ws S : List ℕ) → (before separates (ws ++ (separator ∷ S)) ≡ before separates (ws ++ (separator ∷ []))) × (before separates (ws ++ (separator ∷ S)) ≤ length ws)
unfolding before
upto [] S = rw separates-itself (refl, omega arith)
upto (w ∷ ws) S = go (separates w) (upto ws S)
  where
    go : (b : Bool) → (before separates (ws ++ (separator ∷ S)) ≡ before separates (ws ++ (separator ∷ []))) × (before separates (ws ++ (separator ∷ S)) ≤ length ws) →
        ((0 if b else suc (before separates (ws ++ (separator ∷ S)))) ≡ (0 if b else suc (before separates (ws ++ (separator ∷ []))))) × ((0 if b else suc (before separates (ws ++ (separator ∷ S)))) ≤ suc (length ws))
    go true h = (refl, omega arith)
    go false h = (ap suc h.0, omega (arith, h.1))

-- nothing that the second writes alters the first's model, whatever the first wrote
pub first_unaltered : (ws S S' : List ℕ) → first_model (ws ++ (separator ∷ S)) ≡ first_model (ws ++ (separator ∷ S'))
unfolding first_model
first_unaltered ws S S' = ap (λ (l : List ℕ). l ++ (word 7 0 ∷ [])) (cut S ∙ sym (cut S'))
  where
    cut : (S : List ℕ) → take (before separates (ws ++ (separator ∷ S))) (ws ++ (separator ∷ S)) ≡ take (before separates (ws ++ (separator ∷ []))) ws
    cut S = take-append-le _ ws (separator ∷ S) (upto ws S).1 ∙ ap (λ (n : ℕ). take n ws) (upto ws S).0

-- nothing that the first writes alters the second's, under 02's condition
pub second_unaltered : (T : List ℕ) → Table T → (F F' S : List ℕ) → FirstWords F → FirstWords F' →
    second_model (T ++ (F ++ (separator ∷ S))) ≡ second_model (T ++ (F' ++ (separator ∷ S)))
second_unaltered T t F F' S f f' = second_is T t F S f ∙ sym (second_is T t F' S f')

-- ---- so the calls say the same

-- the model is the same, and both pairs have D0000000
pub record SameModel (candidate : ℕ) (ws us : List ℕ) : Type 0 where
  pub model : model_of candidate ws ≡ model_of candidate us
  pub one : pair_fault ws ≡ accepted
  pub other : pair_fault us ≡ accepted

separated : (ws S : List ℕ) → pair_fault (ws ++ (separator ∷ S)) ≡ accepted
unfolding pair_fault
separated ws S =
    let h : before separates (ws ++ (separator ∷ S)) ≡ length (ws ++ (separator ∷ S)) → ⊥ = λ e. omega (arith, e, (upto ws S).1, length-append ws (separator ∷ S)) in
    rw (ne_eqb (before separates (ws ++ (separator ∷ S))) (length (ws ++ (separator ∷ S))) h)

pub same-model : {candidate : ℕ} {ws us : List ℕ} → OtherWrote candidate ws us → SameModel candidate ws us
unfolding model_of
same-model {candidate} (the_second e ws S S') = record { model = rw (eq-eqb candidate 1 e) (first_unaltered ws S S'); one = separated ws S; other = separated ws S' }
same-model {candidate} (the_first e T F F' S t f f') =
    record { model = rw (ne_eqb candidate 1 e) (second_unaltered T t F F' S f f'); one = no-fault T t F S f; other = no-fault T t F' S f' }

-- THE LAW, of the calls
module _ {candidate : ℕ} {ws us : List ℕ} (o : OtherWrote candidate ws us) where
  abbrev s : SameModel candidate ws us
  s = same-model o

  pub same-check : pair_check candidate ws ≡ pair_check candidate us
  unfolding pair_check
  same-check = rw (s.one, s.other, s.model)

  pub same-translate : (room : ℕ) → pair_translate candidate ws room ≡ pair_translate candidate us room
  unfolding pair_translate
  same-translate room = rw (s.one, s.other, s.model)

  pub same-translated : (out : List ℕ) → pair_translated candidate ws out ≡ pair_translated candidate us out
  unfolding pair_translated
  same-translated out = rw (s.one, s.other, s.model)

  pub same-judge : (vs : List ℤ) → pair_judge candidate ws vs ≡ pair_judge candidate us vs
  unfolding pair_judge
  same-judge vs = rw (s.one, s.other, s.model)

  pub same-fill : (vs : List ℤ) (room : ℕ) → pair_fill candidate ws vs room ≡ pair_fill candidate us vs room
  unfolding pair_fill
  same-fill vs room = rw (s.one, s.other, s.model)

  pub same-filled : (vs out : List ℤ) → pair_filled candidate ws vs out ≡ pair_filled candidate us vs out
  unfolding pair_filled
  same-filled vs out = rw (s.one, s.other, s.model)
