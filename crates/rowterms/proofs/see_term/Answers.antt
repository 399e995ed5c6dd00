-- Past the variable, past the coefficient, or to the fault of one of the two.
use Rattle.std.proofs.Common.{◌≡◌, refl, sym, ◌∙◌, arith, ℕ, suc, eqb-true, ◌+◌}
use borrow.Author.Tests.{eqb-false}
use Rattle.integers.proofs.Fits.{back}
use Rattle.words.specs.Word.{word_at}
use Rattle.words.specs.Limit as Limit
use Rattle.words.specs.Check.{fault_number_in, step_over}
use Rattle.rowsystems.specs.Reading.{fault_variable}
use Rattle.rowsystems.specs.RowSystem.{number_at, variable_at}
use Rattle.rowsystems.specs.declared.Due.TheVariants.{Terms, Coefficient}
use Rattle.rowreading.specs.Onward.{StepsTo}
use Rattle.rowreading.proofs.Answered.{declared}
use Rattle.rowreading.proofs.Inner.{term-variable, term-coefficient}
use Rattle.rowreading.proofs.Steps.{and_then}
use Rattle.rowterms.proofs.Steps.{step-halts, step-goes}
use Rattle.rowterms.proofs.see_term.Goals.{After-from-x, After-from-c}
use Rattle.rowterms.proofs.see_term.Goals as goal

variable : (c : After-from-x) (left : ℕ) → let a = c.args in StepsTo a.ws.now a.n (Terms (suc left)) a.place (Coefficient left) (step_over (fault_variable a.n c.from-x.result) a.place)
unfolding word_at
variable c left = rw c.from-x.ensures (term-variable c.args.ws.now c.args.n c.args.place (omega (arith, c.requires.1)) left)

coefficient : (c : After-from-c) (left : ℕ) → let a = c.args in fault_variable a.n c.from-x.result ≡ 0 → StepsTo a.ws.now a.n (Terms (suc left)) a.place (Terms left) (step_over (fault_number_in Limit.range c.from-c.result) (a.place + 1))
unfolding word_at
coefficient c left z =
    let v = step-goes c.args.place (rw c.from-x.ensures (term-variable c.args.ws.now c.args.n c.args.place (omega (arith, c.requires.1)) left)) z in
    rw c.from-c.ensures (and_then v refl refl (term-coefficient c.args.ws.now c.args.n (c.args.place + 1) v.inside left))

pub returns-then-not-is_variable-clause-steps : goal.returns-then-not-is_variable-clause-steps
returns-then-not-is_variable-clause-steps c left =
    rw c.variable_fault-fault.ensures
    (step-halts (variable (goal.at.returns-then-not-is_variable-clause-steps c).After-from-x left) (eqb-false _ _ (sym c.is_variable.ensures ∙ c.if-not-is_variable.true)))

pub returns-then-not-is_number-clause-steps : goal.returns-then-not-is_number-clause-steps
returns-then-not-is_number-clause-steps c left =
    let z = eqb-true _ _ (sym c.is_variable.ensures ∙ c.if-not-is_variable.false) in
    rw c.number_fault-fault.ensures
    (step-halts (coefficient (goal.at.returns-then-not-is_number-clause-steps c).After-from-c left z) (eqb-false _ _ (sym c.is_number.ensures ∙ c.if-not-is_number.true)))

pub term_of-requires : goal.term_of-requires
term_of-requires c =
    let z = eqb-true _ _ (sym c.is_variable.ensures ∙ c.if-not-is_variable.false) in
    let h = declared c.args.n c.from-x.result (sym z) in
    rw c.payload.ensures (omega (arith, h, c.requires.0.0), c.requires.0.1 _ h)

pub returns-clause-steps : goal.returns-clause-steps
returns-clause-steps c left =
    let e : c.args.place + 1 + 1 ≡ c.args.place + 2 = omega arith in
    let z = eqb-true _ _ (sym c.is_variable.ensures ∙ c.if-not-is_variable.false) in
    let y = eqb-true _ _ (sym c.is_number.ensures ∙ c.if-not-is_number.false) in
    rw e at (step-goes (c.args.place + 1) (coefficient (goal.at.returns-clause-steps c).After-from-c left z) y)

pub returns-clause-value : goal.returns-clause-value
unfolding number_at variable_at word_at
returns-clause-value c = rw (back c.term_of.result c.term_of.type_inv, c.term_of.ensures.value, c.payload.ensures, c.from-x.ensures, c.from-c.ensures)
