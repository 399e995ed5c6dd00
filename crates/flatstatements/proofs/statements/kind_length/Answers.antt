-- A token of a type, and the first that is none.
use Rattle.std.proofs.Common.{sym, ◌∙◌, ◌+◌, map, drop}
use Rattle.std.specs.List.{prefix_len}
use Rattle.flattokens.specs.Token.{token}
use Rattle.flatstatements.specs.Reading.{in_kind}
use Rattle.flatstatements.proofs.Lists.{seen_front, run_more, run_stops}
use Rattle.flatstatements.proofs.statements.kind_length.Goals as goal

pub loop-i-preserved : goal.loop-i-preserved
loop-i-preserved c =
    let L = map token c.args.tokens.now in
    let i = c.loop-i.i in
    run_more in_kind (drop i L) (drop (i + 1) L) _ i (prefix_len in_kind L) (seen_front token c.args.tokens.now i _ c.loop-i-test.true) c.loop-i.invariant (sym c.in_kind.ensures ∙ c.if-not-in_kind.false)

pub returns-then-not-in_kind-clause-value : goal.returns-then-not-in_kind-clause-value
returns-then-not-in_kind-clause-value c =
    let L = map token c.args.tokens.now in
    let i = c.loop-i.i in
    run_stops in_kind (drop i L) (drop (i + 1) L) _ i (prefix_len in_kind L) (seen_front token c.args.tokens.now i _ c.loop-i-test.true) c.loop-i.invariant (sym c.in_kind.ensures ∙ c.if-not-in_kind.true)
