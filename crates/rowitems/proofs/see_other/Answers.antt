-- The head of a product is followed by its variables; any other head without a fault is the end.
use Rattle.std.proofs.Common.{◌≡◌, refl, sym, arith, ◌+◌, ◌≤◌, eqb-true, length}
use borrow.Author.Tests.{eqb-false}
use Rattle.integers.specs.Terms.{value}
use Rattle.words.specs.Kind as Kind
use Rattle.words.specs.Word.{kind}
use Rattle.words.specs.Check.{step_over}
use Rattle.words.proofs.Faulty.{fault-number}
use Rattle.rowsystems.specs.Reading.{started}
use Rattle.rowreading.proofs.Inner.{after-end}
use Rattle.rowitems.proofs.Passing.{Head, head-there, head-stops, head-then, none-started, product-row, product-due, product-true, end-due, seen-row}
use Rattle.rowitems.proofs.see_other.Goals.{In_default, Then-is}
use Rattle.rowitems.proofs.see_other.Goals as goal

pub returns-in-Err-clause-step : goal.returns-in-Err-clause-step
returns-in-Err-clause-step c = head-stops (record { within = c.requires.0.within; word = c.requires.1; fault = c.in-Err.ensures }) (fault-number _)

-- the head has no fault, so there is a word, and it starts no variable
head : (c : In_default) → Head c.args.ws.now c.args.sources c.args.n c.args.at c.args.head 0
head c = record { within = c.requires.0.within; word = c.requires.1; fault = c.in_default.ensures }

there : (c : In_default) → c.args.at + 1 ≤ length c.args.ws.now
there c = omega (arith, head-there (head c) refl)

none : (c : In_default) → c.args.n ≡ c.args.n + started c.args.head
none c = omega (arith, none-started c.args.head c.requires.3)

product : (c : Then-is) → kind c.args.head ≡ Kind.product
product c = eqb-true _ _ (sym c.if-is.ensures)

pub see_factors-requires : goal.see_factors-requires
see_factors-requires c = (record { within = there (goal.at.see_factors-requires c).In_default; few = c.requires.0.few }, c.requires.2)

pub returns-then-is-clause-step : goal.returns-then-is-clause-step
returns-then-is-clause-step c =
    let g = goal.at.returns-then-is-clause-step c in
    head-then (head g.In_default) refl (none g.In_default) (rw (product-due c.args.head (product g.Then-is)) c.see_factors.ensures.step)

pub returns-then-is-clause-truth : goal.returns-then-is-clause-truth
returns-then-is-clause-truth c =
    let k = product (goal.at.returns-then-is-clause-truth c).Then-is in
    seen-row _ c.args.head (product-row c.args.head k) (product-true (value c.args.values.now) c.args.ws.now c.args.head (c.args.at + 1) k) c.see_factors.ensures.truth

pub returns-clause-step : goal.returns-clause-step
unfolding step_over
returns-clause-step c =
    let g = goal.at.returns-clause-step c in
    let e = end-due c.args.sources c.args.n c.args.head c.requires.3 c.requires.4 (eqb-false _ _ (sym c.if-is.ensures)) c.in_default.ensures in
    head-then (head g.In_default) refl (none g.In_default) (rw e (after-end c.args.ws.now c.args.n (c.args.at + 1) (there g.In_default)))
