-- The head, then the upper bound of a pair; a Boolean has none.
use Rattle.std.proofs.Common.{◌≡◌, refl, sym, ◌∙◌, arith, ◌+◌, ◌≤◌, eqb-true, to_z-of_z, length}
use borrow.Author.Tests.{eqb-false}
use Rattle.words.proofs.Faulty.{fault-number}
use Rattle.words.specs.Kind as Kind
use Rattle.words.specs.Variables.{starts_pair}
use Rattle.words.specs.Word.{kind}
use Rattle.variables.specs.Start.{pair_bounds}
use Rattle.rowsystems.specs.Reading.{after_due, after_item, started}
use Rattle.rowfaults.proofs.Heads.{boolean-kind}
use Rattle.rowreading.specs.Item.{start_due}
use Rattle.rowreading.proofs.Inner.{source-upper, auxiliary-upper, no_word}
use Rattle.rowitems.proofs.Passing.{Head, head-there, head-stops, head-then, one-started}
use Rattle.rowitems.proofs.see_variable.Goals.{In_default, Then-is, Then-is-2, Else-is-2}
use Rattle.rowitems.proofs.see_variable.Goals as goal

pub returns-in-Err-clause-step : goal.returns-in-Err-clause-step
returns-in-Err-clause-step c = head-stops (record { within = c.requires.0.within; word = c.requires.1; fault = c.in-Err.ensures }) (fault-number _)

-- the head has no fault, so there is a word, and it starts one variable
head : (c : In_default) → Head c.args.ws.now c.args.sources c.args.n c.args.at c.args.head 0
head c = record { within = c.requires.0.within; word = c.requires.1; fault = c.in_default.ensures }

there : (c : In_default) → c.args.at + 1 ≤ length c.args.ws.now
there c = omega (arith, head-there (head c) refl)

one : (c : In_default) → c.args.n + 1 ≡ c.args.n + started c.args.head
one c = omega (arith, one-started c.args.head c.requires.2)

-- its kind
auxiliary : (c : Then-is) → kind c.args.head ≡ Kind.auxiliary_lower
auxiliary c = eqb-true _ _ (sym c.if-is.ensures)

source : (c : Then-is-2) → kind c.args.head ≡ Kind.lower
source c = eqb-true _ _ (sym c.if-is-2.ensures)

boolean : (c : Else-is-2) → kind c.args.head ≡ Kind.boolean
boolean c = boolean-kind c.args.head c.requires.2 (eqb-false _ _ (sym c.if-is-2.ensures)) (eqb-false _ _ (sym c.if-is.ensures))

pub see_upper-requires : goal.see_upper-requires
see_upper-requires c = omega (arith, there (goal.at.see_upper-requires c).In_default, c.requires.0.few)

pub returns-then-is-clause-step : goal.returns-then-is-clause-step
unfolding after_due after_item start_due
returns-then-is-clause-step c =
    let g = goal.at.returns-then-is-clause-step c in
    head-then (head g.In_default) refl (one g.In_default) (rw (auxiliary g.Then-is, c.see_upper.ensures.step) (auxiliary-upper c.args.ws.now (c.args.n + 1) (c.args.at + 1) (there g.In_default) c.args.head))

pub returns-then-is-clause-truth : goal.returns-then-is-clause-truth
unfolding pair_bounds starts_pair
returns-then-is-clause-truth c = rw (auxiliary (goal.at.returns-then-is-clause-truth c).Then-is) (rw (to_z-of_z c.ranges.v) at c.see_upper.ensures.truth)

pub see_upper-requires-then-is-2 : goal.see_upper-requires-then-is-2
see_upper-requires-then-is-2 c = omega (arith, there (goal.at.see_upper-requires-then-is-2 c).In_default, c.requires.0.few)

pub returns-then-is-2-clause-step : goal.returns-then-is-2-clause-step
unfolding after_due after_item start_due
returns-then-is-2-clause-step c =
    let g = goal.at.returns-then-is-2-clause-step c in
    head-then (head g.In_default) refl (one g.In_default) (rw (source g.Then-is-2, c.see_upper-then-is-2.ensures.step) (source-upper c.args.ws.now (c.args.n + 1) (c.args.at + 1) (there g.In_default) c.args.head))

pub returns-then-is-2-clause-truth : goal.returns-then-is-2-clause-truth
unfolding pair_bounds starts_pair
returns-then-is-2-clause-truth c = rw (source (goal.at.returns-then-is-2-clause-truth c).Then-is-2) (rw (to_z-of_z c.ranges.v) at c.see_upper-then-is-2.ensures.truth)

pub returns-clause-step : goal.returns-clause-step
unfolding after_due after_item start_due
returns-clause-step c =
    let g = goal.at.returns-clause-step c in
    head-then (head g.In_default) refl (one g.In_default) (rw (boolean g.Else-is-2) (no_word c.args.ws.now (c.args.n + 1) (c.args.at + 1) (there g.In_default)))

pub returns-clause-truth : goal.returns-clause-truth
unfolding pair_bounds starts_pair
returns-clause-truth c = c.between.ensures ∙ rw (boolean (goal.at.returns-clause-truth c).Else-is-2, to_z-of_z c.ranges.v)
