-- 15, the sources' bounds, the auxiliaries', the rows.
use Rattle.std.proofs.Common.{◌≡◌, refl, sym, ◌∙◌, true, ◌+◌, arith, length, take}
use Rattle.integers.specs.Terms.{value}
use Rattle.integers.proofs.Tests.{false-true}
use Rattle.words.specs.Answer.{holds, is_holds}
use Rattle.words.specs.Faults.{said_of}
use Rattle.words.specs.Judge.{first_out_of_bounds}
use Rattle.words.specs.Variables.{variables}
use Rattle.rules.specs.Translation.{auxiliaries}
use Rattle.sharing.proofs.Theorem.{few_in_all}
use Rattle.reasoning.proofs.Counted.{inside-said}
use Rattle.reasoning.proofs.Whole.{wrong-count, source-outside, auxiliary-outside, rows_next, values-small}
use Rattle.reasoning.proofs.reason_passed.Goals.{Else-values-sources, After-first_out_of_bounds-found, In_default, In_default-said}
use Rattle.reasoning.proofs.reason_passed.Goals as goal

counted : (c : Else-values-sources) → length c.args.values.now ≡ length (variables c.args.read.now.ws.now) + length (auxiliaries c.args.read.now.ws.now)
counted c = omega (arith, c.if-values-sources.false, c.requires.2, c.requires.0.0.seen.variables_counted)

sources : (c : After-first_out_of_bounds-found) →
    let vs = take (length (variables c.args.read.now.ws.now)) c.args.values.now in
    said_of c.first_out_of_bounds-found.result ≡ first_out_of_bounds (value vs) 0 (variables c.args.read.now.ws.now) holds
sources c = rw c.requires.0.0.seen.variables_counted at c.first_out_of_bounds-found.ensures

inside : (c : In_default) → is_holds (said_of c.first_out_of_bounds-found.result) ≡ true
inside c = inside-said _ 0 _ _ c.first_out_of_bounds-found.ensures c.in_default.not-OutOfBounds

all-inside : (c : In_default-said) → is_holds (said_of c.walk-stopped.result.said) ≡ true
all-inside c = inside-said _ _ _ _ (c.walk-stopped.ensures.outside refl) c.in_default-said.not-OutOfBounds

pub overflow_add-sources : goal.overflow_add-sources
overflow_add-sources c =
    record { fits = omega (arith, c.requires.0.0.seen.variables_counted, c.requires.2, few_in_all c.args.read.now.ws.now c.requires.1) }

pub returns-then-values-sources : goal.returns-then-values-sources
returns-then-values-sources c =
    wrong-count c.args.read.now.ws.now c.requires.1 c.args.values.now (λ e. c.if-values-sources.true (omega (arith, e, c.requires.0.0.seen.variables_counted, c.requires.2)))

pub returns-in-OutOfBounds : goal.returns-in-OutOfBounds
unfolding is_holds
returns-in-OutOfBounds c =
    let g = goal.at.returns-in-OutOfBounds c in
    source-outside c.args.read.now.ws.now c.requires.1 c.args.values.now (counted g.Else-values-sources) (rw c.in-OutOfBounds.is at (sources g.After-first_out_of_bounds-found)) refl

pub walk-stopped-requires : goal.walk-stopped-requires
walk-stopped-requires c =
    (record { passes = c.requires.1; listed = c.requires.0; counted = counted (goal.at.walk-stopped-requires c).Else-values-sources }, λ e. false-true (sym e))

pub returns-in-OutOfBounds-said : goal.returns-in-OutOfBounds-said
unfolding is_holds
returns-in-OutOfBounds-said c =
    let g = goal.at.returns-in-OutOfBounds-said c in
    auxiliary-outside c.args.read.now.ws.now c.requires.1 c.args.values.now (counted g.Else-values-sources) (sources g.After-first_out_of_bounds-found) (inside g.In_default) (rw c.in-OutOfBounds-said.is at (c.walk-stopped.ensures.outside refl)) refl

pub first_failing-requires : goal.first_failing-requires
first_failing-requires c =
    let g = goal.at.first_failing-requires c in
    (record { passes = c.requires.1; listed = c.requires.0; counted = counted g.Else-values-sources }, values-small c.args.read.now.ws.now c.requires.1 c.args.values.now (counted g.Else-values-sources) (sources g.After-first_out_of_bounds-found) (inside g.In_default) (c.walk-stopped.ensures.outside refl) (all-inside g.In_default-said))

pub returns : goal.returns
returns c =
    let g = goal.at.returns c in
    c.first_failing.ensures ∙ rows_next c.args.read.now.ws.now c.requires.1 c.args.values.now (counted g.Else-values-sources) (sources g.After-first_out_of_bounds-found) (inside g.In_default) (c.walk-stopped.ensures.outside refl) (all-inside g.In_default-said)
