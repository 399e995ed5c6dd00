-- What is said of the rows is what judge-rows says of the words that translate writes.
use Rattle.std.proofs.Common.{◌≡◌, refl, sym, ap, ◌∙◌, ◌↔◌, Bool, true, false, List, [], ◌∷◌, ◌++◌, map, ℕ, ◌+◌, arith, eqb, ℤ, length, length-append, take}
use mathlib.Core.List.{flat_map}
use Rattle.integers.specs.Choice.{◌if◌else◌}
use Rattle.integers.specs.Bounds.{within, bounds_in}
use Rattle.integers.specs.Terms.{Valuation, value}
use Rattle.integers.specs.declared.Bounds.{Bounds}
use Rattle.integers.proofs.Tests.{false-true}
use Rattle.words.specs.Fault as Fault
use Rattle.words.specs.Variables.{variables}
use Rattle.words.specs.Refusal.{◌at_place◌, accepted, ◌else_refuse◌, count_fault}
use Rattle.words.specs.Answer.{Answer, refused, holds, out_of_bounds, is_false, is_holds, ◌else_answer◌}
use Rattle.words.specs.Judge.{first_false, first_out_of_bounds, judge}
use Rattle.models.specs.Model.{Constraint, constraints, builtin}
use Rattle.models.specs.Meaning.{meaning}
use Rattle.rowsystems.specs.Row.{rename, satisfied}
use Rattle.rowsystems.specs.RowSystem.{rows}
use Rattle.rowsystems.specs.JudgeRows.{judge_rows, judge_accepted}
use Rattle.rules.specs.Block.{numbered}
use Rattle.rules.specs.Shared.{Encoded, none_yet}
use Rattle.rules.specs.Translation.{bounds, shared, block_of, each_block, auxiliaries, system_words}
use Rattle.rules.specs.Fill.{filled_count}
use Rattle.sharing.specs.SharedSolutions.{Passes}
use Rattle.sharing.proofs.Assembly.{after, rows_from}
use Rattle.sharing.proofs.Theorem.{written_read, same-bounds, same-rows}
use Rattle.reasons.specs.Reason.{Reason, refuse, outside, none, because, Explained, explained, in_block, first_failing, answer_or, reason_fault, reason}

-- judge-rows' answer behind a reason
abbrev pub row_answer : Reason → Answer
row_answer (refuse n p) = refused n p
row_answer (outside i) = out_of_bounds i
row_answer none = holds
row_answer (because k j t) = is_false k

-- ---- block after block

module _ (β : ℕ → Bounds) (s : ℕ → Bool) where
  -- a constraint and its block's rows
  abbrev pub explain : ℕ → Encoded → Constraint → Explained
  explain first e c = record { constraint = c; rows = map (rename (numbered first)) (block_of β s e c).rows }

  abbrev pub explained_from : ℕ → Encoded → List Constraint → List Explained
  explained_from first e cs = each_block β s (λ first e c. explain first e c ∷ []) first e cs

  all-rows : (first : ℕ) (e : Encoded) (cs : List Constraint) → flat_map (λ x. x.rows) (explained_from first e cs) ≡ rows_from β s first e cs
  unfolding flat_map each_block
  all-rows first e [] = refl
  all-rows first e (c ∷ cs) = ap (λ l. (explain first e c).rows ++ l) (all-rows (first + length (block_of β s e c).auxiliaries) (after β s first e c) cs)

  all-constraints : (first : ℕ) (e : Encoded) (cs : List Constraint) → map (λ x. x.constraint) (explained_from first e cs) ≡ cs
  unfolding each_block
  all-constraints first e [] = refl
  all-constraints first e (c ∷ cs) = ap (λ l. c ∷ l) (all-constraints (first + length (block_of β s e c).auxiliaries) (after β s first e c) cs)

-- the explained rows are those of the row system, the explained constraints the model's
pub explained-rows : (ws : List ℕ) → Passes ws → flat_map (λ x. x.rows) (explained ws) ≡ rows (system_words ws)
unfolding explained bounds
explained-rows ws passes = all-rows (bounds_in (variables ws)) (shared ws) (length (variables ws)) none_yet (constraints ws) ∙ sym (same-rows ws passes)

pub explained-constraints : (ws : List ℕ) → map (λ x. x.constraint) (explained ws) ≡ constraints ws
unfolding explained
explained-constraints ws = all-constraints (bounds ws) (shared ws) (length (variables ws)) none_yet (constraints ws)

module _ {A : Type 0} (t : A → Bool) where
  -- the first false one of two lists
  either : (k j : ℕ) (b : Bool) (xs ys : List A) (after : Reason) → row_answer after ≡ first_false t (k + length xs) ys →
      row_answer (in_block (first_false t k xs) j b after) ≡ first_false t k (xs ++ ys)
  unfolding first_false
  either k j b [] ys after h = h ∙ (let e : k + 0 ≡ k = omega arith in rw e)
  either k j b (x ∷ xs) ys after h =
      go (t x) (let e : k + length (x ∷ xs) ≡ k + 1 + length xs = omega arith in either (k + 1) j b xs ys after (rw e at h))
    where
      go : (s : Bool) → row_answer (in_block (first_false t (k + 1) xs) j b after) ≡ first_false t (k + 1) (xs ++ ys) →
          row_answer (in_block (first_false t (k + 1) xs if s else is_false k) j b after) ≡ (first_false t (k + 1) (xs ++ ys) if s else is_false k)
      go true e = e
      go false e = refl

failing-row : (σ ρ : Valuation) (k j : ℕ) (xs : List Explained) → row_answer (first_failing σ ρ k j xs) ≡ first_false (satisfied ρ) k (flat_map (λ x. x.rows) xs)
unfolding first_failing first_false flat_map
failing-row σ ρ k j [] = refl
failing-row σ ρ k j (x ∷ xs) =
    either (satisfied ρ) k j (meaning σ (builtin x.constraint)) x.rows (flat_map (λ x. x.rows) xs) _ (failing-row σ ρ (k + length x.rows) _ xs)

-- ---- faults and bounds first

bounds_first : (σ : Valuation) (k : ℕ) (Bs : List Bounds) (x : Reason) → row_answer (answer_or (first_out_of_bounds σ k Bs holds) x) ≡ first_out_of_bounds σ k Bs (row_answer x)
unfolding first_out_of_bounds
bounds_first σ k [] x = refl
bounds_first σ k (B ∷ Bs) x = go (within B (σ k)) (bounds_first σ (k + 1) Bs x)
  where
    go : (s : Bool) → row_answer (answer_or (first_out_of_bounds σ (k + 1) Bs holds) x) ≡ first_out_of_bounds σ (k + 1) Bs (row_answer x) →
        row_answer (answer_or (first_out_of_bounds σ (k + 1) Bs holds if s else out_of_bounds k) x) ≡ (first_out_of_bounds σ (k + 1) Bs (row_answer x) if s else out_of_bounds k)
    go true e = e
    go false e = refl

counted : (b : Bool) (a : Answer) (x : Reason) (after : Answer) → row_answer (answer_or a x) ≡ after →
    row_answer (answer_or ((accepted if b else Fault.wrong_value_count at_place 0) else_answer a) x) ≡ ((accepted if b else Fault.wrong_value_count at_place 0) else_answer after)
unfolding ◌else_answer◌
counted true a x after h = h
counted false a x after h = refl

-- ---- a model that passes the check

module _ (ws : List ℕ) (passes : Passes ws) where
  pub all-bounds : variables ws ++ auxiliaries ws ≡ variables (system_words ws)
  unfolding auxiliaries bounds
  all-bounds = sym (same-bounds ws passes)

  all-count : filled_count ws ≡ length (variables (system_words ws))
  unfolding filled_count
  all-count = sym (length-append (variables ws) (auxiliaries ws)) ∙ ap length all-bounds

  -- the reason names the fault, the variable or the row that judge-rows answers
  pub same_answer : (vs : List ℤ) → row_answer (reason ws vs) ≡ judge_rows (system_words ws) vs
  unfolding reason reason_fault judge_rows judge_accepted judge ◌else_refuse◌ count_fault
  same_answer vs =
      rw (passes, written_read ws passes, all-count, all-bounds, ← explained-rows ws passes)
      (counted (eqb (length vs) (length (variables (system_words ws)))) _ _ _
      (bounds_first (value vs) 0 (variables (system_words ws)) _
      ∙ ap (first_out_of_bounds (value vs) 0 (variables (system_words ws)))
      (failing-row (value (take (length (variables ws)) vs)) (value vs) 0 0 (explained ws))))

  -- a reason's row is the one that judge-rows names
  pub same_row : (vs : List ℤ) (k j : ℕ) (t : Bool) → reason ws vs ≡ because k j t → judge_rows (system_words ws) vs ≡ is_false k
  same_row vs k j t e = sym (same_answer vs) ∙ ap row_answer e

-- ---- "none"

not-holds : (a : Answer) → is_holds a ≡ false → a ≡ holds → ⊥
unfolding is_holds
not-holds a h e = false-true (sym h ∙ ap is_holds e)

none_only : (x : Reason) → row_answer x ≡ holds → x ≡ none
unfolding is_holds
none_only (refuse n p) h = absurd (not-holds (refused n p) refl h)
none_only (outside i) h = absurd (not-holds (out_of_bounds i) refl h)
none_only none h = refl
none_only (because k j t) h = absurd (not-holds (is_false k) refl h)

-- "No failing row gives "none"": exactly where judge-rows says "holds"
pub none-holds : (ws : List ℕ) → Passes ws → (vs : List ℤ) → (reason ws vs ≡ none) ↔ (judge_rows (system_words ws) vs ≡ holds)
none-holds ws passes vs = (
  λ e. sym (same_answer ws passes vs) ∙ ap row_answer e,
  λ h. none_only (reason ws vs) (same_answer ws passes vs ∙ h),
)
