-- The result, then the first factor, then the second, up to the first fault.
use Rattle.std.proofs.Common.{◌≡◌, refl, List, ℕ, ◌+◌, ◌≤◌, arith, length, Result, Ok}
use Rattle.std.specs.Prelude.{IfOk}
use Rattle.std.proofs.lemmas.Result.{err_from_is_err_and, IfOk-weaker}
use Rattle.words.specs.Word.{word_at}
use Rattle.words.specs.declared.fault.Refusal.{Refusal}
use Rattle.words.specs.Check.{step_of, step_over}
use Rattle.rowsystems.specs.Reading.{fault_variable, fault_result}
use Rattle.rowsystems.specs.RowSystem.{variable_at}
use Rattle.rowsystems.specs.declared.Due.TheVariants as due
use Rattle.rowreading.specs.Item.{Declared}
use Rattle.rowreading.specs.Onward.{StepsTo}
use Rattle.rowreading.proofs.Answered.{step-on, step-out, step-then, passed, passed_to, declared, declared-result}
use Rattle.rowreading.proofs.Inner.{product-result, first-factor, second-factor}
use Rattle.rowreading.proofs.items.read_product.Goals as goal

module _ (ws : List ℕ) (n at : ℕ) (h : at ≤ length ws) (r : Result ℕ Refusal)
    (e : step_of r ≡ step_over (fault_result n (word_at ws at) (word_at ws (at + 1)) (word_at ws (at + 2))) at) where
  result : StepsTo ws n due.Result at due.FirstFactor (step_of r)
  result = rw e (product-result ws n at h)

  module _ (k : ℕ) (s : Result ℕ Refusal) (p : r ≡ Ok k) (f : step_of s ≡ step_over (fault_variable n (word_at ws k)) k) where
    first : StepsTo ws n due.Result at due.SecondFactor (step_of s)
    first = step-then result refl p (rw f (first-factor ws n k (step-on result p).inside))

    module _ (l : ℕ) (t : Result ℕ Refusal) (q : s ≡ Ok l) (g : step_of t ≡ step_over (fault_variable n (word_at ws l)) l) where
      second : StepsTo ws n due.Result at due.Item (step_of t)
      second = step-then first refl q (rw g (second-factor ws n l (step-on first q).inside))

      all : IfOk t (λ m. (m ≡ at + 3) × Declared ws n at)
      unfolding variable_at
      all =
          let a = passed_to _ at e p in
          let b = passed_to _ k f q in
          let x : l ≡ at + 2 = omega arith in
          IfOk-weaker t _ _ (λ m c. (omega arith, (declared-result n (word_at ws at) _ _ a.0, rw a.1 at (declared n (word_at ws k) b.0), rw x at (declared n (word_at ws l) c.0)))) (passed t _ l g)

pub returns-in_err-first-clause-step : goal.returns-in_err-first-clause-step
returns-in_err-first-clause-step c =
    let p = err_from_is_err_and c.from_residual.result c.from_residual.ensures.1 in
    rw (p.1, p.2) (step-out (result _ _ _ c.requires.within _ c.result_at.ensures) c.in_err-first.was)

pub variable_at-requires : goal.variable_at-requires
variable_at-requires c =
    omega (arith, (step-on (result _ _ _ c.requires.within _ c.result_at.ensures) c.in_ok-first.was).inside, c.requires.few)

pub returns-in_err-second-clause-step : goal.returns-in_err-second-clause-step
returns-in_err-second-clause-step c =
    let p = err_from_is_err_and c.from_residual-in_err-second.result c.from_residual-in_err-second.ensures.1 in
    rw (p.1, p.2) (step-out (first _ _ _ c.requires.within _ c.result_at.ensures _ _ c.in_ok-first.was c.variable_at.ensures) c.in_err-second.was)

pub variable_at-requires-2 : goal.variable_at-requires-2
variable_at-requires-2 c =
    omega (arith, (step-on (first _ _ _ c.requires.within _ c.result_at.ensures _ _ c.in_ok-first.was c.variable_at.ensures) c.in_ok-second.was).inside, c.requires.few)

pub returns-clause-step : goal.returns-clause-step
returns-clause-step c =
    second _ _ _ c.requires.within _ c.result_at.ensures _ _ c.in_ok-first.was c.variable_at.ensures _ _ c.in_ok-second.was c.variable_at-2.ensures

pub returns-clause-end : goal.returns-clause-end
returns-clause-end c =
    all _ _ _ c.requires.within _ c.result_at.ensures _ _ c.in_ok-first.was c.variable_at.ensures _ _ c.in_ok-second.was c.variable_at-2.ensures
