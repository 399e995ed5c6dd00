-- A word without a fault where something is due: what it is, its text, and what is due after it.
use Rattle.std.proofs.Common.{◌≡◌, refl, ◌∙◌, Bool, true, false, List, [], ◌∷◌, ◌++◌, append-nil, append_assoc, ℕ, suc, ◌+◌, ◌-◌, ◌<◌, ◌≤◌, add-zero, arith, eqb, ltb, length, get_or, lt-ltb, le-ltb, ltb-true, ltb-false, le-leb, ne_eqb}
use lib.ListN.{get_or-eq_default}
use Rattle.integers.specs.Choice.{◌if◌else◌}
use Rattle.words.specs.Word.{kind, payload, signed, in_range}
use Rattle.words.specs.Check.{fault_number_in}
use Rattle.words.specs.Limit as Limit
use Rattle.words.proofs.Choices.{not_first, of-kind, of_range}
use Rattle.decimals.specs.Decimal.{numeral}
use Rattle.models.specs.Shape.{argument}
use Rattle.models.specs.Reading.{State, fault_head, after_head, declared, started, fault_variable, fault_count_in, fault_argument_in, fault_due_in, fault_in, after_argument, after_due, after, fault_end, ended}
use Rattle.models.specs.InRange.{fault_count}
use Rattle.models.specs.declared.Due.{Due}
use Rattle.models.specs.declared.Due.TheVariants.{Start, Upper, Arguments, Ended}
use Rattle.models.proofs.Sound.{Sound, Plain, plain, after-plain, reading, is-variable}
use Rattle.tokens.specs.Byte.{bytes}
use Rattle.printing.specs.ModelText.{variable_name, builtin_name, line, head_text, opened, argument_end, numbers_end, variables_end, argument_text, word_text, text_from}

-- a word that is a number in the range
pub record Numeric (w : ℕ) : Type 0 where
  pub kind-is : kind w ≡ 6
  pub range : in_range (signed w) ≡ true

numeric : (w : ℕ) → fault_number_in Limit.range w ≡ 0 → Numeric w
unfolding fault_number_in
numeric w e = let h = of-kind w 6 _ e in record { kind-is = h.0; range = (of_range w 0 h.1).0 }

counted : (w most : ℕ) → fault_count most w ≡ 0 → Numeric w
unfolding fault_count_in
counted w most e = let h = of-kind w 6 _ e in record { kind-is = h.0; range = (of_range w _ h.1).0 }

-- a variable that has a type is declared
declared-of : (ts : List ℕ) (i t : ℕ) → 1 ≤ t → get_or ts i 0 ≡ t → i < length ts
declared-of ts i t l e = go (ltb i (length ts)) refl
  where
    go : (b : Bool) → ltb i (length ts) ≡ b → i < length ts
    go true q = ltb-true _ _ q
    go false q = absurd (omega (arith, get_or-eq_default ts 0 {n = i} (ltb-false _ _ q)))

-- the text of a word before that of the words after it, and the state after it
pub record Turn (s : State) (w : ℕ) (ws : List ℕ) (text : List ℕ) (next : State) : Type 0 where
  pub text-is : text_from s (w ∷ ws) ≡ text ++ text_from next ws
  pub sound : Sound next ws

module _ (ts : List ℕ) (c : ℕ) where
  -- words that start no variable and no constraint
  plain_turn : (d next : Due) (w : ℕ) (ws text : List ℕ) → Sound (reading d ts c) (w ∷ ws) → Plain w → word_text d (length ts) w ≡ text → after_due d w ≡ next →
      Turn (reading d ts c) w ws text (reading next ts c)
  unfolding text_from
  plain_turn d next w ws text h p e f = record {
    text-is = rw (e, after-plain d ts c w p, f);
    sound = rw (after-plain d ts c w p, f) at h.1;
  }

  -- a number of a list
  module _ (n v t code k w : ℕ) (ws : List ℕ) (h : Sound (reading (Arguments (suc n) v t code k) ts c) (w ∷ ws)) where
    pub number_is : Numeric w
    unfolding fault_in fault_due_in
    number_is = numeric w (rw (lt-ltb 0 (suc n) (omega arith)) at h.0)

    pub number-turn : Turn (reading (Arguments (suc n) v t code k) ts c) w ws (numeral (signed w) ++ (44 ∷ [] if ltb 1 (suc n) else numbers_end code k v)) (reading (Arguments n v t code k) ts c)
    unfolding word_text after_due
    number-turn =
        let e : suc n - 1 ≡ n = omega arith in
        plain_turn _ _ w ws _ h (plain number_is.kind-is (omega arith) (omega arith)) (rw (lt-ltb 0 (suc n) (omega arith))) (rw (lt-ltb 0 (suc n) (omega arith), e))

  -- a variable of a list
  module _ (v t code k w : ℕ) (ws : List ℕ) (l : 1 ≤ t) (h : Sound (reading (Arguments 0 (suc v) t code k) ts c) (w ∷ ws)) where
    variable-word : (kind w ≡ 5) × (get_or ts (payload w) 0 ≡ t)
    unfolding fault_in fault_due_in
    variable-word = is-variable w (get_or ts (payload w) 0) t (rw (lt-ltb 0 (suc v) (omega arith)) at h.0)

    pub variable-kind : kind w ≡ 5
    variable-kind = variable-word.0

    pub variable-declared : payload w < length ts
    variable-declared = declared-of ts (payload w) t l variable-word.1

    pub variable-turn : Turn (reading (Arguments 0 (suc v) t code k) ts c) w ws (variable_name (payload w) ++ (44 ∷ [] if ltb 1 (suc v) else variables_end code k)) (reading (Arguments 0 v t code k) ts c)
    unfolding word_text after_due
    variable-turn =
        let e : suc v - 1 ≡ v = omega arith in
        plain_turn _ _ w ws _ h (plain variable-kind (omega arith) (omega arith)) (rw (lt-ltb 0 (suc v) (omega arith))) (rw (lt-ltb 0 (suc v) (omega arith), e))

-- ---- the texts of list elements: one before another, and the last

module _ (ts : List ℕ) (c v t code k w : ℕ) (ws : List ℕ) where
  pub more_numbers : (n : ℕ) → Sound (reading (Arguments (suc (suc n)) v t code k) ts c) (w ∷ ws) →
      text_from (reading (Arguments (suc (suc n)) v t code k) ts c) (w ∷ ws) ≡ numeral (signed w) ++ (44 ∷ text_from (reading (Arguments (suc n) v t code k) ts c) ws)
  more_numbers n h = (number-turn ts c (suc n) v t code k w ws h).text-is ∙ rw (lt-ltb 1 (suc (suc n)) (omega arith)) (append_assoc (numeral (signed w)) (44 ∷ []) _)

  pub last-number : Sound (reading (Arguments 1 v t code k) ts c) (w ∷ ws) →
      text_from (reading (Arguments 1 v t code k) ts c) (w ∷ ws) ≡ numeral (signed w) ++ (numbers_end code k v ++ text_from (reading (Arguments 0 v t code k) ts c) ws)
  last-number h = (number-turn ts c 0 v t code k w ws h).text-is ∙ append_assoc (numeral (signed w)) (numbers_end code k v) _

  pub more-variables : 1 ≤ t → Sound (reading (Arguments 0 (suc (suc v)) t code k) ts c) (w ∷ ws) →
      text_from (reading (Arguments 0 (suc (suc v)) t code k) ts c) (w ∷ ws) ≡ variable_name (payload w) ++ (44 ∷ text_from (reading (Arguments 0 (suc v) t code k) ts c) ws)
  more-variables l h = (variable-turn ts c (suc v) t code k w ws l h).text-is ∙ rw (lt-ltb 1 (suc (suc v)) (omega arith)) (append_assoc (variable_name (payload w)) (44 ∷ []) _)

  pub last-variable : 1 ≤ t → Sound (reading (Arguments 0 1 t code k) ts c) (w ∷ ws) →
      text_from (reading (Arguments 0 1 t code k) ts c) (w ∷ ws) ≡ variable_name (payload w) ++ (variables_end code k ++ text_from (reading (Arguments 0 0 t code k) ts c) ws)
  last-variable l h = (variable-turn ts c 0 t code k w ws l h).text-is ∙ append_assoc (variable_name (payload w)) (variables_end code k) _

-- ---- the word at an argument of a shape

module _ (ts : List ℕ) (c t code k w : ℕ) (ws : List ℕ) (h : Sound (reading (Arguments 0 0 t code k) ts c) (w ∷ ws)) (s : ℕ) (e : argument code k ≡ s) (l : 1 ≤ s) where
  first-fault : (fault_variable (get_or ts (payload w) 0) s w if ltb s 3 else fault_number_in Limit.range w if eqb s 3 else fault_count 27 w if eqb s 4 else fault_count 32 w) ≡ 0
  unfolding fault_in fault_due_in fault_argument_in
  first-fault = rw (e, ne_eqb s 0 (λ z. omega arith)) at h.0

  argument-turn : (text : List ℕ) (next : Due) → Plain w → argument_text s code (k + 1) w ≡ text → after_argument s code (k + 1) w ≡ next →
      Turn (reading (Arguments 0 0 t code k) ts c) w ws text (reading next ts c)
  unfolding word_text after_due
  argument-turn text next p q r = plain_turn ts c (Arguments 0 0 t code k) next w ws text h p (rw (e, ne_eqb s 0 (λ z. omega arith)) q) (rw (e, ne_eqb s 0 (λ z. omega arith)) r)

  -- a variable
  module _ (m : s ≤ 2) where
    alone-word : (kind w ≡ 5) × (get_or ts (payload w) 0 ≡ s)
    alone-word = is-variable w (get_or ts (payload w) 0) s (rw (lt-ltb s 3 (omega arith)) at first-fault)

    pub alone-kind : kind w ≡ 5
    alone-kind = alone-word.0

    pub alone-declared : payload w < length ts
    alone-declared = declared-of ts (payload w) s l alone-word.1

    pub alone-turn : Turn (reading (Arguments 0 0 t code k) ts c) w ws (variable_name (payload w) ++ argument_end code (k + 1)) (reading (Arguments 0 0 0 code (k + 1)) ts c)
    unfolding argument_text after_argument
    alone-turn = argument-turn _ _ (plain alone-kind (omega arith) (omega arith)) (rw (lt-ltb s 3 (omega arith))) (rw (le-leb s 4 (omega arith)))

  -- a number or an exponent
  module _ (m : 2 < s) (n : s ≤ 4) where
    pub amount_is : Numeric w
    amount_is = go (eqb s 3) (rw (le-ltb s 3 (omega arith)) at first-fault)
      where
        go : (b : Bool) → (fault_number_in Limit.range w if b else fault_count 27 w if eqb s 4 else fault_count 32 w) ≡ 0 → Numeric w
        go true q = numeric w q
        go false q = by (eqb s 4) q
          where
            by : (b : Bool) → (fault_count 27 w if b else fault_count 32 w) ≡ 0 → Numeric w
            by true q = counted w 27 q
            by false q = counted w 32 q

    pub amount_turn : Turn (reading (Arguments 0 0 t code k) ts c) w ws (numeral (signed w) ++ argument_end code (k + 1)) (reading (Arguments 0 0 0 code (k + 1)) ts c)
    unfolding argument_text after_argument
    amount_turn = argument-turn _ _ (plain amount_is.kind-is (omega arith) (omega arith)) (rw (le-ltb s 3 (omega arith), le-leb s 4 n)) (rw (le-leb s 4 n))

  -- a list's length
  module _ (m : 4 < s) where
    pub length-is : Numeric w
    length-is = counted w 32 (rw (le-ltb s 3 (omega arith), ne_eqb s 3 (λ z. omega arith), ne_eqb s 4 (λ z. omega arith)) at first-fault)

    list-turn : (text : List ℕ) (next : Due) → argument_text s code (k + 1) w ≡ text → after_argument s code (k + 1) w ≡ next → Turn (reading (Arguments 0 0 t code k) ts c) w ws text (reading next ts c)
    list-turn text next = argument-turn text next (plain length-is.kind-is (omega arith) (omega arith))

-- by the sort of list
module _ (ts : List ℕ) (c t code k w : ℕ) (ws : List ℕ) (h : Sound (reading (Arguments 0 0 t code k) ts c) (w ∷ ws)) where
  pub numbers-turn : (e : argument code k ≡ 5) → Turn (reading (Arguments 0 0 t code k) ts c) w ws (opened code ++ ([] if ltb 0 (payload w) else numbers_end code (k + 1) 0)) (reading (Arguments (payload w) 0 0 code (k + 1)) ts c)
  unfolding argument_text after_argument
  numbers-turn e = list-turn ts c t code k w ws h 5 e (omega arith) (omega arith) _ _ refl refl

  pub parallel-turn : (e : argument code k ≡ 8) →
      Turn (reading (Arguments 0 0 t code k) ts c) w ws (91 ∷ ([] if ltb 0 (payload w) else 93 ∷ 44 ∷ 91 ∷ variables_end code (k + 1))) (reading (Arguments (payload w) (payload w) 1 code (k + 1)) ts c)
  unfolding argument_text after_argument
  parallel-turn e = list-turn ts c t code k w ws h 8 e (omega arith) (omega arith) _ _ refl refl

  pub integers-turn : (e : argument code k ≡ 6) → Turn (reading (Arguments 0 0 t code k) ts c) w ws (91 ∷ ([] if ltb 0 (payload w) else variables_end code (k + 1))) (reading (Arguments 0 (payload w) 1 code (k + 1)) ts c)
  unfolding argument_text after_argument
  integers-turn e = list-turn ts c t code k w ws h 6 e (omega arith) (omega arith) _ _ refl refl

  pub booleans-turn : (e : argument code k ≡ 7) → Turn (reading (Arguments 0 0 t code k) ts c) w ws (91 ∷ ([] if ltb 0 (payload w) else variables_end code (k + 1))) (reading (Arguments 0 (payload w) 2 code (k + 1)) ts c)
  unfolding argument_text after_argument
  booleans-turn e = list-turn ts c t code k w ws h 7 e (omega arith) (omega arith) _ _ refl refl

-- ---- the words of variables, heads and the end

module _ (ts : List ℕ) (c w : ℕ) (ws : List ℕ) where
  any-turn : (d : Due) (text : List ℕ) (next : State) → Sound (reading d ts c) (w ∷ ws) → word_text d (length ts) w ≡ text → after (reading d ts c) w ≡ next → Turn (reading d ts c) w ws text next
  unfolding text_from
  any-turn d text next h e f = record { text-is = rw (e, f); sound = rw f at h.1 }

  pub lower-turn : Sound (reading Start ts c) (w ∷ ws) → kind w ≡ 1 → Turn (reading Start ts c) w ws (bytes "var " ++ (numeral (signed w) ++ bytes "..")) (reading (Upper w) (ts ++ (1 ∷ [])) c)
  unfolding word_text after after_due declared started
  lower-turn h k = any-turn Start _ _ h (rw k) (rw (k, add-zero c))

  pub boolean-turn : Sound (reading Start ts c) (w ∷ ws) → kind w ≡ 3 → Turn (reading Start ts c) w ws (bytes "var bool: " ++ (variable_name (length ts) ++ line)) (reading Start (ts ++ (2 ∷ [])) c)
  unfolding word_text after after_due declared started
  boolean-turn h k = any-turn Start _ _ h (rw k) (rw (k, add-zero c))

  pub upper-turn : (l : ℕ) → Sound (reading (Upper l) ts c) (w ∷ ws) → kind w ≡ 2 → Turn (reading (Upper l) ts c) w ws (numeral (signed w) ++ (bytes ": " ++ (variable_name (length ts - 1) ++ line))) (reading Start ts c)
  unfolding word_text after after_due declared started
  upper-turn l h k = any-turn (Upper l) _ _ h refl (rw (k, append-nil ts, add-zero c))

  -- where a head is due
  module _ (d : Due) (h : Sound (reading d ts c) (w ∷ ws)) (e : word_text d (length ts) w ≡ head_text w) (f : after_due d w ≡ after_head w) where
    pub constraint-turn : kind w ≡ 4 → Turn (reading d ts c) w ws (bytes "constraint " ++ (builtin_name (payload w) ++ (40 ∷ []))) (reading (Arguments 0 0 0 (payload w) 0) ts (c + 1))
    unfolding head_text after after_head declared started
    constraint-turn k = any-turn d _ _ h (e ∙ rw k) (rw (f, k, append-nil ts))

    pub end-turn : kind w ≡ 7 → Turn (reading d ts c) w ws (bytes "solve satisfy" ++ line) (reading Ended ts c)
    unfolding head_text after after_head declared started
    end-turn k = any-turn d _ _ h (e ∙ rw k) (rw (f, k, append-nil ts, add-zero c))

pub end-payload : (c w : ℕ) → fault_head c w ≡ 0 → kind w ≡ 7 → payload w ≡ 0
unfolding fault_head
end-payload c w e k =
    let q : ◌≡◌ {A = ℕ} (5 if ltb 0 (payload w) else 0) 0 = rw k at e in
    omega (arith, ltb-false 0 (payload w) (not_first 4 (ltb 0 (payload w)) 0 q).0)

pub unfinished : (ts : List ℕ) (c n v t code k : ℕ) → Sound (reading (Arguments n v t code k) ts c) [] → ⊥
unfolding ended fault_end
unfinished ts c n v t code k h = omega arith
