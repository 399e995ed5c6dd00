use Rattle.std.proofs.Common.{◌≡◌, sym, ap, ◌∙◌, ◌+◌, arith, refl, eqb-true}
use Rattle.std.proofs.lemmas.Result.{err_from_is_err_and}
use borrow.Author.Tests.{eqb-false}
use lib.ListN.{length-map}
use Rattle.words.proofs.Faulty.{fault-number}
use Rattle.words.specs.Faults.{number_of}
use Rattle.words.specs.Word.{kind, word_at}
use Rattle.words.specs.Check.{Step}
use Rattle.models.specs.Reading.{fault_head}
use Rattle.models.specs.Shapes.{shape_number}
use Rattle.words.proofs.Steps.{passed, refused}
use Rattle.modelreading.proofs.Loop.{head-halted, head-here, posing-one, arguments-halted, posing-on, after-end, seen}
use Rattle.modelreading.proofs.read_constraints.Goals.{After-over, In_ok-first, Else-is, Then-is}
use Rattle.modelreading.proofs.read_constraints.Goals as goal

-- the head's fault
head : (c : After-over) → number_of c.check_head.result ≡ fault_head c.loop-first.c (word_at c.args.ws.now c.loop-first.at)
head c = rw c.at-head.ensures at c.check_head.ensures

pub returns-in_err-first : goal.returns-in_err-first
returns-in_err-first c =
    let p = err_from_is_err_and c.from_residual.result c.from_residual.ensures.1 in
    let q = refused _ _ c.over.ensures c.in_err-first.was in
    rw (p.1, p.2) (rw (ap (λ (s : Step). s.number) q.1, ap (λ (s : Step). s.at) q.1) (head-halted c.loop-first.invariant (head (goal.at.returns-in_err-first c).After-over) q.0))

-- a head without a fault
none : (c : In_ok-first) → (number_of c.check_head.result ≡ 0) × (c.in_ok-first.first ≡ c.loop-first.at + 1)
none c = passed _ _ c.over.ensures c.in_ok-first.was

-- it is no end
not_end : (c : Else-is) → kind (word_at c.args.ws.now c.loop-first.at) ≡ 7 → ⊥
not_end c = eqb-false _ 7 (rw c.at-head.ensures at (sym c.is.ensures ∙ c.if-is.false))

pub bounds-heads-c : goal.bounds-heads-c
bounds-heads-c c =
    let g = goal.at.bounds-heads-c c in
    (posing-one c.loop-first.invariant (head g.After-over) (none g.In_ok-first).0 (not_end g.Else-is)).0

pub arguments_at-requires : goal.arguments_at-requires
arguments_at-requires c =
    let g = goal.at.arguments_at-requires c in
    let l = head-here c.loop-first.invariant (head g.After-over) (none g.In_ok-first).0 in
    (record { within = omega (arith, l, (none g.In_ok-first).1); few = c.loop-first.invariant.placed.few }, c.table-table.ensures)

pub returns-in_err-at : goal.returns-in_err-at
returns-in_err-at c =
    let p = err_from_is_err_and c.from_residual-in_err-at.result c.from_residual-in_err-at.ensures.1 in
    let g = goal.at.returns-in_err-at c in
    rw (p.1, p.2)
    (arguments-halted c.loop-first.invariant (head g.After-over) (none g.In_ok-first).0 (not_end g.Else-is) (rw (c.payload.ensures, c.at-head.ensures, (none g.In_ok-first).1) at c.in_err-at.ensures) (fault-number _))

pub loop-first-preserved : goal.loop-first-preserved
loop-first-preserved c =
    let g = goal.at.loop-first-preserved c in
    posing-on c.loop-first.invariant (head g.After-over) (none g.In_ok-first).0 (not_end g.Else-is) (rw (c.payload.ensures, c.at-head.ensures, (none g.In_ok-first).1) at c.in_ok-at.ensures) refl

pub loop-first-smaller : goal.loop-first-smaller
loop-first-smaller c =
    let g = goal.at.loop-first-smaller c in
    let s = c.in_ok-at.ensures 0 in
    omega (arith, s.on, s.inside, (none g.In_ok-first).1)

-- the end word
ended : (c : Then-is) → kind (word_at c.args.ws.now c.loop-first.at) ≡ 7
ended c = eqb-true _ 7 (rw c.at-head.ensures at (sym c.is.ensures ∙ c.if-is.true))

pub returns-then-at-ws : goal.returns-then-at-ws
returns-then-at-ws c =
    let g = goal.at.returns-then-at-ws c in
    after-end c.loop-first.invariant (head g.After-over) (none g.In_ok-first).0 (ended g.Then-is) c.if-at-ws.true

pub returns : goal.returns
returns c =
    let g = goal.at.returns c in
    rw (← length-map c.args.types.now shape_number) (seen c.loop-first.invariant (head g.After-over) (none g.In_ok-first).0 (ended g.Then-is) c.if-at-ws.false)
