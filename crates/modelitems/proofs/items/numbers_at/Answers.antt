use Rattle.std.proofs.Common.{◌≡◌, refl, sym, ◌∙◌, ◌+◌, ◌-◌, arith}
use Rattle.std.proofs.lemmas.Result.{err_from_is_err_and}
use Rattle.words.specs.Check.{step_of}
use Rattle.words.proofs.Steps.{passed}
use Rattle.modelitems.specs.Onward.{NumbersRead}
use Rattle.modelitems.proofs.Steps.{no_word, or-refused}
use Rattle.modelitems.proofs.Inner.{part_length, numbers-passed, more_numbers}
use Rattle.modelitems.proofs.items.numbers_at.Goals.{After-over}
use Rattle.modelitems.proofs.items.numbers_at.Goals as goal

pub returns-then-are_numbers : goal.returns-then-are_numbers
returns-then-are_numbers c =
    let ws = c.args.ws.now in
    let at = c.args.at in
    let n = c.args.n in
    let m : at + n - at ≡ n = omega arith in
    let z : n - n ≡ 0 = omega arith in
    let all_numbers = rw (m, part_length ws at n c.if-end-ws.true) at (sym c.are_numbers.ensures ∙ c.if-are_numbers.true) in
    rw z at (numbers-passed ws at n c.if-end-ws.true n (omega arith) all_numbers)

pub loop-place-init : goal.loop-place-init
loop-place-init c ts d l type code k = let q : c.args.at + c.args.n - c.args.at ≡ c.args.n = omega arith in rw q (no_word c.requires.0.within)

-- one more
turn : (c : After-over) → NumbersRead c.args.ws.now c.args.n c.args.at (c.args.at + c.args.n - (c.loop-place.place + 1)) (step_of c.over.result)
turn c =
    let q : c.args.at + c.args.n - c.loop-place.place - 1 ≡ c.args.at + c.args.n - (c.loop-place.place + 1) = omega arith in
    rw (← q, c.over.ensures, c.check_number.ensures, c.at.ensures) (more_numbers (omega (arith, c.loop-place-test.true)) c.loop-place.invariant)

pub returns-in_err-over : goal.returns-in_err-over
returns-in_err-over c ts d l type code k =
    let p = err_from_is_err_and c.from_residual.result c.from_residual.ensures.1 in
    rw (p.1, p.2) (or-refused (turn (goal.at.returns-in_err-over c).After-over ts d l type code k) _ (rw c.in_err-over.was refl))

pub loop-place-preserved : goal.loop-place-preserved
loop-place-preserved c = rw (c.in_ok-over.was, (passed _ _ c.over.ensures c.in_ok-over.was).1) at (turn (goal.at.loop-place-preserved c).After-over)

pub returns : goal.returns
returns c =
    let e : c.loop-place.place ≡ c.args.at + c.args.n = omega (arith, c.loop-place-test.false, c.loop-place.auto.place-end) in
    let z : c.args.at + c.args.n - (c.args.at + c.args.n) ≡ 0 = omega arith in
    rw (e, z) at c.loop-place.invariant
