use Rattle.std.proofs.Common.{arith, refl, ◌∙◌}
use Rattle.std.proofs.lemmas.List.{map-set}
use Rattle.std.proofs.lemmas.Result.{err_from_is_err_and}
use lib.ListN.{length-map}
use Rattle.words.specs.Check.{step_of}
use Rattle.words.proofs.Faulty.{fault-number}
use Rattle.models.specs.Shapes.{shape_number}
use Rattle.modelitems.specs.Variable.{Declares}
use Rattle.modelreading.proofs.Loop.{opening, opening-halted, opened, all-opened, typed}
use Rattle.modelreading.proofs.read_variables.Goals.{After-variable_at, In_ok-next}
use Rattle.modelreading.proofs.read_variables.Goals as goal

pub loop-declared-init : goal.loop-declared-init
loop-declared-init c = opening c.requires (length-map c.args.types.now shape_number ∙ c.told-types)

-- the variable read
variable : (c : After-variable_at) → Declares c.args.ws.now c.loop-declared.v c.loop-declared.at (shape_number c.in-Some.declared) (step_of c.variable_at.result)
variable c = c.variable_at.ensures (shape_number c.in-Some.declared) c.in-Some.ensures (typed c.in-Some.declared)

passed : (c : In_ok-next) → Declares c.args.ws.now c.loop-declared.v c.loop-declared.at (shape_number c.in-Some.declared) (record { number = 0; at = c.in_ok-next.next })
passed c = c.in_ok-next.ensures (shape_number c.in-Some.declared) c.in-Some.ensures (typed c.in-Some.declared)

pub returns-in_err-next : goal.returns-in_err-next
returns-in_err-next c =
    let p = err_from_is_err_and c.from_residual.result c.from_residual.ensures.1 in
    rw (p.1, p.2) (opening-halted c.loop-declared.invariant.0 c.loop-declared.invariant.1 (c.in_err-next.ensures (shape_number c.in-Some.declared) c.in-Some.ensures (typed c.in-Some.declared)) (fault-number _))

pub bounds-types-v : goal.bounds-types-v
bounds-types-v c = (passed (goal.at.bounds-types-v c).In_ok-next).room refl

pub loop-declared-smaller : goal.loop-declared-smaller
loop-declared-smaller c = let g = passed (goal.at.loop-declared-smaller c).In_ok-next in omega (arith, g.on refl, g.inside refl)

pub loop-declared-preserved : goal.loop-declared-preserved
loop-declared-preserved c =
    rw (map-set shape_number c.loop-declared.types c.loop-declared.v c.in-Some.declared) (opened c.loop-declared.invariant.0 c.loop-declared.invariant.1 (passed (goal.at.loop-declared-preserved c).In_ok-next) refl)

pub returns : goal.returns
returns c = all-opened c.loop-declared.invariant.1 (rw c.at-w.ensures at c.in_default.ensures)
