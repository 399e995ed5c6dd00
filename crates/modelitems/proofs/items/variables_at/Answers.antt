use Rattle.std.proofs.Common.{◌≡◌, refl, ◌+◌, ◌-◌, arith, map}
use Rattle.std.proofs.lemmas.Result.{err_from_is_err_and}
use Rattle.words.specs.Word.{word_at}
use Rattle.words.specs.Check.{step_of}
use Rattle.words.proofs.Steps.{passed}
use Rattle.models.specs.Shapes.{shape_number}
use Rattle.modelitems.specs.Onward.{VariablesRead}
use Rattle.modelitems.proofs.Steps.{no_word, or-refused}
use Rattle.modelitems.proofs.Inner.{more-variables, no-variable}
use Rattle.modelitems.proofs.items.variables_at.Goals.{After-over}
use Rattle.modelitems.proofs.items.variables_at.Goals as goal

pub loop-place-init : goal.loop-place-init
loop-place-init c d code k = let q : c.args.at + c.args.n - c.args.at ≡ c.args.n = omega arith in rw q (no_word c.requires.0.within)

-- one more
turn : (c : After-over) → VariablesRead c.args.ws.now (map shape_number c.args.types.now) (shape_number c.args.wanted) c.args.n c.args.at (c.args.at + c.args.n - (c.loop-place.place + 1)) (step_of c.over.result)
unfolding word_at
turn c =
    let q : c.args.at + c.args.n - c.loop-place.place - 1 ≡ c.args.at + c.args.n - (c.loop-place.place + 1) = omega arith in
    rw (← q, c.over.ensures, c.check_variable.ensures, c.from.ensures) (more-variables (omega (arith, c.loop-place-test.true, c.min-end.ensures)) c.loop-place.invariant)

pub returns-in_err-over : goal.returns-in_err-over
returns-in_err-over c d code k =
    let p = err_from_is_err_and c.from_residual.result c.from_residual.ensures.1 in
    rw (p.1, p.2) (or-refused (turn (goal.at.returns-in_err-over c).After-over d code k) _ (rw c.in_err-over.was refl))

pub loop-place-preserved : goal.loop-place-preserved
loop-place-preserved c = rw (c.in_ok-over.was, (passed _ _ c.over.ensures c.in_ok-over.was).1) at (turn (goal.at.loop-place-preserved c).After-over)

pub returns-then-end-at : goal.returns-then-end-at
returns-then-end-at c =
    let e : c.loop-place.place ≡ c.min-end.result = omega (arith, c.loop-place-test.false, c.loop-place.auto.place-end, c.min-end.ensures, c.requires.0.within) in
    rw e at (no-variable (omega (arith, c.if-end-at.true)) c.loop-place.invariant (omega (arith, c.if-end-at.true, c.min-end.ensures)))

pub returns : goal.returns
returns c =
    let e : c.loop-place.place ≡ c.min-end.result = omega (arith, c.loop-place-test.false, c.loop-place.auto.place-end, c.min-end.ensures, c.requires.0.within) in
    let z : c.args.at + c.args.n - c.min-end.result ≡ 0 = omega (arith, c.if-end-at.false) in
    rw (e, z) at c.loop-place.invariant
