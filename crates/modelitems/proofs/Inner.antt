-- Each word inside a constraint, from what is due there to what is due after it.
use Rattle.std.proofs.Common.{◌≡◌, refl, sym, ap, ◌∙◌, true, List, ℕ, zero, suc, ◌+◌, ◌-◌, ◌<◌, ◌≤◌, arith, lt-ltb, le-ltb, le-leb, ne_eqb, eqb-true, length, get_or, take, drop, length-drop, length-take-le, get_or-take, get_or-drop, Result, Ok, Err}
use Rattle.std.specs.Result.{IfOk}
use lib.ListN.{get_or-eq_default}
use Rattle.integers.specs.Lists.{list_of, all}
use Rattle.integers.proofs.Places.{all_more}
use Rattle.integers.proofs.Booleans.{both_true}
use Rattle.words.specs.Word.{kind, payload, word_at}
use Rattle.words.specs.declared.fault.Refusal as error
use Rattle.words.specs.Check.{fault_number_in, step_of, step_over}
use Rattle.words.specs.Limit as Limit
use Rattle.words.proofs.Steps.{passed, over_none, over-fault}
use Rattle.models.specs.Shape.{argument}
use Rattle.models.specs.Reading.{fault_variable, fault_argument_in, fault_end, fault_due_in, after_due, after_argument}
use Rattle.models.specs.InRange.{fault_count}
use Rattle.models.specs.declared.Due.TheVariants.{Arguments}
use Rattle.models.proofs.Sound.{Plain, plain, is-number, is-variable, is-count}
use Rattle.modelitems.specs.Onward.{Placed, StepsTo, arguments_from, NumbersRead, VariablesRead, is_number}
use Rattle.modelitems.proofs.Steps.{step, present, and_then, or-halted, no_word}

module _ (ws ts : List ℕ) (c at : ℕ) (h : at ≤ length ws) where
  abbrev w : ℕ
  w = word_at ws at

  abbrev t : ℕ
  t = get_or ts (payload w) 0

  plain-number : fault_number_in Limit.range w ≡ 0 → Plain w
  plain-number e = plain (is-number w e) (omega arith) (omega arith)

  plain-variable : (type : ℕ) → fault_variable t type w ≡ 0 → Plain w
  plain-variable type e = plain (is-variable w t type e).0 (omega arith) (omega arith)

  plain-count : (most : ℕ) → fault_count most w ≡ 0 → Plain w
  plain-count most e = plain (is-count w most e).0 (omega arith) (omega arith)

  -- of a list
  pub a-number : (n l type code k : ℕ) → 0 < n → StepsTo ws ts c (Arguments n l type code k) at (Arguments (n - 1) l type code k) (step_over (fault_number_in Limit.range w) at)
  unfolding fault_end fault_due_in after_due
  a-number n l type code k p = step h refl plain-number (rw (lt-ltb 0 n p)) (rw (lt-ltb 0 n p))

  pub a-variable : (n type code k : ℕ) → 0 < n → StepsTo ws ts c (Arguments 0 n type code k) at (Arguments 0 (n - 1) type code k) (step_over (fault_variable t type w) at)
  unfolding fault_end fault_due_in after_due
  a-variable n type code k p = step h refl (plain-variable type) (rw (lt-ltb 0 n p)) (rw (lt-ltb 0 n p))

  -- of an argument
  module _ (arg code k : ℕ) (e : arg ≡ argument code k) where
    pub one_variable : 1 ≤ arg → arg < 3 → StepsTo ws ts c (arguments_from code k) at (arguments_from code (k + 1)) (step_over (fault_variable t arg w) at)
    unfolding fault_end fault_due_in after_due fault_argument_in after_argument
    one_variable l m = step h refl (plain-variable arg) (rw (← e, ne_eqb arg 0 (λ z. omega arith), lt-ltb arg 3 m)) (rw (← e, ne_eqb arg 0 (λ z. omega arith), le-leb arg 4 (omega arith)))

    pub one_number : arg ≡ 3 → StepsTo ws ts c (arguments_from code k) at (arguments_from code (k + 1)) (step_over (fault_number_in Limit.range w) at)
    unfolding fault_end fault_due_in after_due fault_argument_in after_argument
    one_number l = step h refl plain-number (rw (← e, l)) (rw (← e, l))

    pub one-exponent : arg ≡ 4 → StepsTo ws ts c (arguments_from code k) at (arguments_from code (k + 1)) (step_over (fault_count 27 w) at)
    unfolding fault_end fault_due_in after_due fault_argument_in after_argument
    one-exponent l = step h refl (plain-count 27) (rw (← e, l)) (rw (← e, l))

    pub a-length : 5 ≤ arg → StepsTo ws ts c (arguments_from code k) at (after_argument arg code (k + 1) w) (step_over (fault_count 32 w) at)
    unfolding fault_end fault_due_in after_due fault_argument_in
    a-length l = step h refl (plain-count 32) (rw (← e, ne_eqb arg 0 (λ z. omega arith), le-ltb arg 3 (omega arith), ne_eqb arg 3 (λ z. omega arith), ne_eqb arg 4 (λ z. omega arith))) (rw (← e, ne_eqb arg 0 (λ z. omega arith)))

-- a length word without a fault is there, and names a length
pub a-short : (r : Result ℕ error.Refusal) {ws : List ℕ} {at : ℕ} → Placed ws at → step_of r ≡ step_over (fault_count 32 (word_at ws at)) at → IfOk r (λ place. Placed ws place × (payload (word_at ws at) ≤ 32))
a-short (Err x) p e = tt
a-short (Ok place) {ws} {at} p e =
    let q = passed _ _ e refl in
    let i = is-count _ 32 q.0 in
    (record { within = omega (arith, present ws at (omega (arith, i.0)), q.1); few = p.few }, i.1)

-- ---- one more word of a list

module _ {ws : List ℕ} {n at left place : ℕ} (p : 0 < left) where
  pub more_numbers : NumbersRead ws n at left (record { number = 0; at = place }) → NumbersRead ws n at (left - 1) (step_over (fault_number_in Limit.range (word_at ws place)) place)
  more_numbers h ts c l type code k = let g = h ts c l type code k in and_then g refl (a-number ws ts c place g.inside left l type code k p)

  pub more-variables : {ts : List ℕ} {type : ℕ} → VariablesRead ws ts type n at left (record { number = 0; at = place }) → VariablesRead ws ts type n at (left - 1) (step_over (fault_variable (get_or ts (payload (word_at ws place)) 0) type (word_at ws place)) place)
  more-variables {ts} {type} h c code k = let g = h c code k in and_then g refl (a-variable ws ts c place g.inside left type code k p)

  -- the words end before it
  pub no-variable : {ts : List ℕ} {type : ℕ} → VariablesRead ws ts type n at left (record { number = 0; at = place }) → length ws ≤ place → VariablesRead ws ts type n at 0 (record { number = 3; at = place })
  unfolding fault_variable word_at kind
  no-variable {ts} {type} h o c code k =
      let z : ◌≡◌ {A = ℕ} 3 0 → ⊥ = λ e. omega arith in
      or-halted (rw (get_or-eq_default ws 0 {n = place} o, over-fault 3 place z) at (more-variables h c code k)) z

-- ---- all words of a list are numbers

module _ (ws : List ℕ) (at n : ℕ) (h : at + n ≤ length ws) where
  abbrev part : List ℕ
  part = take n (drop at ws)

  pub part_length : length part ≡ n
  part_length = length-take-le n (drop at ws) (rw (length-drop at ws) (omega (arith, h)))

  word-here : (k : ℕ) → k < n → word_at part k ≡ word_at ws (at + k)
  unfolding word_at
  word-here k l = get_or-take n (drop at ws) k 0 l ∙ get_or-drop at ws k 0

  pub numbers-passed : (k : ℕ) → k ≤ n → all is_number (list_of (word_at part) k) ≡ true → NumbersRead ws n at (n - k) (record { number = 0; at = at + k })
  unfolding is_number
  numbers-passed zero l e = λ ts c v type code j. let q : n - 0 ≡ n = omega arith in let p : at + 0 ≡ at = omega arith in rw (q, p) (no_word (omega (arith, h)))
  numbers-passed (suc k) l e =
      let s : suc k ≡ k + 1 = omega arith in
      let f = both_true (all is_number (list_of (word_at part) k)) (is_number (word_at part k)) (sym (all_more is_number (word_at part) k) ∙ rw s at e) in
      let z : fault_number_in Limit.range (word_at ws (at + k)) ≡ 0 = ap (fault_number_in Limit.range) (sym (word-here k (omega (arith, l)))) ∙ eqb-true _ 0 f.1 in
      let q : n - k - 1 ≡ n - suc k = omega arith in
      let p : at + k + 1 ≡ at + suc k = omega arith in
      rw (z, over_none 0 (at + k) refl, q, p) at (more_numbers (omega (arith, l)) (numbers-passed k (omega (arith, l)) f.0))
