use Rattle.std.proofs.Common.{◌≡◌, map, ◌++◌, [], ◌∷◌}
use Rattle.std.proofs.lemmas.List.{map_push}
use Rattle.std.proofs.lemmas.Result.{err_from_is_err_and}
use Rattle.flatzinc.specs.Seen.{row, value}
use Rattle.flatrewriting.specs.Arguments.{given, arguments}
use Rattle.flatrewriting.proofs.Walks.{fails_none, fails_as}
use Rattle.flatrewriting.proofs.GivenLaws.{arguments_on, arguments_stop, arguments_left, arguments_done, sort-at, past_sorts}
use Rattle.flatrewriting.proofs.arguments.arguments_of.Goals as goal

pub returns-in_err-argument : goal.returns-in_err-argument
returns-in_err-argument c =
    let p = err_from_is_err_and c.from_residual.result c.from_residual.ensures.1 in
    let s = sort-at c.sorts_of-wanted-items.result.now (row c.args.code).sorts c.sorts_of-wanted-items.ensures c.loop-wanted.wanted-index c.loop-wanted-test.true in
    rw (p.1, p.2) (fails_as c.in_err-argument.field-0.0 _ _ (λ n. arguments_stop (map given c.loop-wanted.arguments.items) (row c.args.code).sorts c.loop-wanted.wanted-index
    (arguments (row c.args.code).sorts (map value c.args.values.now)) (map value c.loop-wanted.rest.now) _ s.0 s.1 n c.loop-wanted.invariant) c.in_err-argument.ensures)

pub loop-wanted-preserved : goal.loop-wanted-preserved
loop-wanted-preserved c =
    let s = sort-at c.sorts_of-wanted-items.result.now (row c.args.code).sorts c.sorts_of-wanted-items.ensures c.loop-wanted.wanted-index c.loop-wanted-test.true in
    let a = c.in_ok-argument.argument in
    let e : map given c.push.new.self.items ≡ map given c.loop-wanted.arguments.items ++ given a ∷ [] = rw c.in_ok-push.ensures.items (map_push _ c.loop-wanted.arguments.items a) in
    rw e (arguments_on (map given c.loop-wanted.arguments.items) (row c.args.code).sorts c.loop-wanted.wanted-index
    (arguments (row c.args.code).sorts (map value c.args.values.now)) (map value c.loop-wanted.rest.now) _ (record { argument = given a; rest = map value c.in_ok-argument.after.now })
    s.0 s.1 c.in_ok-argument.ensures c.loop-wanted.invariant)

pub returns-then-rest-gt0 : goal.returns-then-rest-gt0
returns-then-rest-gt0 c =
    fails_none c.fault.result _ (arguments_left (map given c.loop-wanted.arguments.items) (row c.args.code).sorts c.loop-wanted.wanted-index
    (arguments (row c.args.code).sorts (map value c.args.values.now)) c.loop-wanted.rest.now c.if-rest-gt0.true
    (past_sorts c.sorts_of-wanted-items.result.now (row c.args.code).sorts c.sorts_of-wanted-items.ensures c.loop-wanted.wanted-index c.loop-wanted-test.false) c.loop-wanted.invariant)

pub returns : goal.returns
returns c =
    arguments_done (map given c.loop-wanted.arguments.items) (row c.args.code).sorts c.loop-wanted.wanted-index
    (arguments (row c.args.code).sorts (map value c.args.values.now)) c.loop-wanted.rest.now c.if-rest-gt0.false
    (past_sorts c.sorts_of-wanted-items.result.now (row c.args.code).sorts c.sorts_of-wanted-items.ensures c.loop-wanted.wanted-index c.loop-wanted-test.false) c.loop-wanted.invariant
