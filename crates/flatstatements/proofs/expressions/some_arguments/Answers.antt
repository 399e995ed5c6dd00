-- No item, no comma and no bracket, the closing bracket, a comma; more items than tokens there are not.
use Rattle.std.proofs.Common.{◌≡◌, sym, ◌∙◌, [], ◌∷◌, ◌++◌, map, drop}
use Rattle.std.proofs.lemmas.Result.{err_from_is_err_and}
use Rattle.std.proofs.lemmas.List.{map_push}
use Rattle.flatstatements.specs.Statement.{expression_of}
use Rattle.flattokens.specs.Token.{token}
use Rattle.flatstatements.specs.Reading.{expression_at, some_at}
use Rattle.flatstatements.proofs.Lists.{left}
use Rattle.flatstatements.proofs.Items.{starts_some, goes_on, is_done, item_fails, separator_fails, runs_out}
use Rattle.flatstatements.proofs.expressions.some_arguments.Goals as goal

pub loop-init : goal.loop-init
loop-init c = rw c.new-found.ensures.items (starts_some expression_at 41 c.saturating_sub-count.result (drop c.args.at (map token c.args.tokens.now)) (c.saturating_sub-count.ensures ∙ sym (left token c.args.tokens.now c.args.at)))

pub returns-in_err-item : goal.returns-in_err-item
returns-in_err-item c =
    let p = err_from_is_err_and c.from_residual.result c.from_residual.ensures.1 in
    rw (p.1, p.2) (item_fails expression_at 41 (map expression_of c.loop.found.items) c.saturating_sub-count.result c.loop.counter (drop c.loop.place (map token c.args.tokens.now)) (some_at expression_at 41 (drop c.args.at (map token c.args.tokens.now))) c.loop-test.true c.loop.invariant c.in_err-item.field-0.0 c.in_err-item.ensures)

pub returns-in_err-goes_on : goal.returns-in_err-goes_on
returns-in_err-goes_on c =
    let p = err_from_is_err_and c.from_residual-in_err-goes_on.result c.from_residual-in_err-goes_on.ensures.1 in
    rw (p.1, p.2) (separator_fails expression_at 41 (map expression_of c.loop.found.items) c.saturating_sub-count.result c.loop.counter (drop c.loop.place (map token c.args.tokens.now)) (some_at expression_at 41 (drop c.args.at (map token c.args.tokens.now))) c.loop-test.true c.loop.invariant (expression_of c.in_ok-item.item) (drop c.in_ok-item.behind (map token c.args.tokens.now)) c.in_ok-item.ensures c.in_err-goes_on.field-0.0 c.in_err-goes_on.ensures)

pub returns-then-not-goes_on : goal.returns-then-not-goes_on
returns-then-not-goes_on c =
    let e : map expression_of c.push.new.self.items ≡ map expression_of c.loop.found.items ++ (expression_of c.in_ok-item.item ∷ []) = rw c.in_ok-push.ensures.items (map_push _ c.loop.found.items c.in_ok-item.item) in
    rw e (is_done expression_at 41 (map expression_of c.loop.found.items) c.saturating_sub-count.result c.loop.counter (drop c.loop.place (map token c.args.tokens.now)) (some_at expression_at 41 (drop c.args.at (map token c.args.tokens.now))) c.loop-test.true c.loop.invariant (expression_of c.in_ok-item.item) (drop c.in_ok-item.behind (map token c.args.tokens.now)) c.in_ok-item.ensures (drop c.in_ok-goes_on.next (map token c.args.tokens.now)) (rw c.if-not-goes_on.true at c.in_ok-goes_on.ensures))

pub loop-preserved : goal.loop-preserved
loop-preserved c =
    let e : map expression_of c.push.new.self.items ≡ map expression_of c.loop.found.items ++ (expression_of c.in_ok-item.item ∷ []) = rw c.in_ok-push.ensures.items (map_push _ c.loop.found.items c.in_ok-item.item) in
    rw e (goes_on expression_at 41 (map expression_of c.loop.found.items) c.saturating_sub-count.result c.loop.counter (drop c.loop.place (map token c.args.tokens.now)) (some_at expression_at 41 (drop c.args.at (map token c.args.tokens.now))) c.loop-test.true c.loop.invariant (expression_of c.in_ok-item.item) (drop c.in_ok-item.behind (map token c.args.tokens.now)) c.in_ok-item.ensures (drop c.in_ok-goes_on.next (map token c.args.tokens.now)) (rw c.if-not-goes_on.false at c.in_ok-goes_on.ensures))

pub returns : goal.returns
returns c = runs_out expression_at 41 (map expression_of c.loop.found.items) c.saturating_sub-count.result c.loop.counter (drop c.loop.place (map token c.args.tokens.now)) (some_at expression_at 41 (drop c.args.at (map token c.args.tokens.now))) c.loop-test.false c.loop.invariant
