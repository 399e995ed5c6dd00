-- The variable, and if it has no fault the coefficient.
use Rattle.std.proofs.Common.{refl, ℕ, suc, arith}
use Rattle.std.proofs.lemmas.Result.{err_from_is_err_and}
use Rattle.words.specs.Check.{step_of}
use Rattle.rowsystems.specs.declared.Due.TheVariants.{Terms, Coefficient}
use Rattle.rowreading.specs.Onward.{StepsTo}
use Rattle.rowreading.proofs.Answered.{step-on, step-out, step-then}
use Rattle.rowreading.proofs.Inner.{term-variable, term-coefficient}
use Rattle.rowreading.proofs.items.read_term.Goals.{After-variable_at}
use Rattle.rowreading.proofs.items.read_term.Goals as goal

-- the variable read
variable : (c : After-variable_at) (left : ℕ) → StepsTo c.args.ws.now c.args.n (Terms (suc left)) c.args.at (Coefficient left) (step_of c.variable_at.result)
variable c left = rw c.variable_at.ensures (term-variable c.args.ws.now c.args.n c.args.at c.requires.within left)

pub returns-in_err-next-clause-steps : goal.returns-in_err-next-clause-steps
returns-in_err-next-clause-steps c =
    let p = err_from_is_err_and c.from_residual.result c.from_residual.ensures.1 in
    rw (p.1, p.2) (λ left. step-out (variable (goal.at.returns-in_err-next-clause-steps c).After-variable_at left) c.in_err-next.was)

pub number_at-requires : goal.number_at-requires
number_at-requires c = omega (arith, (step-on (variable (goal.at.number_at-requires c).After-variable_at 0) c.in_ok-next.was).inside, c.requires.few)

pub returns-clause-steps : goal.returns-clause-steps
returns-clause-steps c =
    let v = variable (goal.at.returns-clause-steps c).After-variable_at in
    λ left. step-then (v left) refl c.in_ok-next.was (rw c.number_at.ensures (term-coefficient c.args.ws.now c.args.n c.in_ok-next.next (step-on (v left) c.in_ok-next.was).inside left))
