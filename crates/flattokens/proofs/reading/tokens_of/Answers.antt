-- A semicolon, a token, the end of the text within a statement or behind all.
use Rattle.std.proofs.Common.{◌≡◌, ◌<◌, sym, ap, ◌∙◌, ℕ, ◌++◌, [], ◌∷◌, map, length, vec_len, eqb, drop, length-drop, arith}
use Rattle.std.proofs.lemmas.Result.{err_from_is_err_and}
use Rattle.std.proofs.lemmas.List.{map_push, length-map}
use Rattle.flattokens.specs.Token.{token}
use Rattle.flattokens.specs.Reading.{statement_from, next_statement}
use Rattle.flattokens.proofs.Statements.{ahead, ahead-push, ahead-ends, semicolon, token_read, token_fails, front_read, other_read, not_empty, empty_is, ends_between, ends_within}
use Rattle.flattokens.proofs.reading.tokens_of.Goals as goal

pub returns-then-at_or-eq59-clause-read : goal.returns-then-at_or-eq59-clause-read
unfolding next_statement
returns-then-at_or-eq59-clause-read c =
    let bs = c.loop-rest.rest.now in
    let ts = map token c.loop-rest.tokens.items in
    let inside : 0 < length bs = not_empty bs c.is_empty.result c.is_empty.ensures c.loop-rest-test.true in
    rw c.after.ensures (sym c.loop-rest.invariant.same ∙ ap (ahead ts) (semicolon bs inside c.loop-rest.invariant.no_gap (front_read bs c.at_or.result 59 c.at_or.ensures c.if-at_or-eq59.true)) ∙ ahead-ends ts (drop 1 bs))

pub returns-in_err-token-clause-read : goal.returns-in_err-token-clause-read
unfolding next_statement
returns-in_err-token-clause-read c =
    let bs = c.loop-rest.rest.now in
    let inside : 0 < length bs = not_empty bs c.is_empty.result c.is_empty.ensures c.loop-rest-test.true in
    let p = err_from_is_err_and c.from_residual.result c.from_residual.ensures.1 in
    rw (p.1, p.2) (token_fails bs inside c.loop-rest.invariant.no_gap (other_read bs c.at_or.result 59 c.at_or.ensures c.if-at_or-eq59.false) (map token c.loop-rest.tokens.items) c.in_err-token.field-0.0 (statement_from 0 c.args.bytes.now) c.in_err-token.ensures.read c.loop-rest.invariant.same)

pub loop-rest-preserved : goal.loop-rest-preserved
loop-rest-preserved c =
    let bs = c.loop-rest.rest.now in
    let ts = map token c.loop-rest.tokens.items in
    let t = c.in_ok-token.token in
    let n = c.in_ok-token.count in
    let inside : 0 < length bs = not_empty bs c.is_empty.result c.is_empty.ensures c.loop-rest-test.true in
    let pushed : map token c.push.new.self.items ≡ ts ++ (token t ∷ []) = rw c.in_ok-push.ensures.items (map_push _ c.loop-rest.tokens.items t) in
    let gap = c.past_gaps-rest-in-loop-rest.ensures in
    let read = token_read bs inside c.loop-rest.invariant.no_gap (other_read bs c.at_or.result 59 c.at_or.ensures c.if-at_or-eq59.false) (token t) n c.in_ok-token.ensures.size.0 c.in_ok-token.ensures.read in
    record {
      same = rw (pushed, gap.same, c.after-in-loop-rest.ensures) (ahead-push ts (token t) (statement_from 0 (drop n bs)) ∙ ap (ahead ts) (sym read) ∙ c.loop-rest.invariant.same);
      no_gap = gap.no_gap;
      size = omega (arith, gap.size, ap length c.after-in-loop-rest.ensures, length-drop n bs, c.loop-rest.invariant.size);
    }

pub returns-then-is_empty-clause-read : goal.returns-then-is_empty-clause-read
unfolding next_statement
returns-then-is_empty-clause-read c =
    let ts = c.loop-rest.tokens.items in
    let len : vec_len c.loop-rest.tokens ≡ length ts = omega (arith, c.loop-rest.tokens.ok.0) in
    ends_between c.loop-rest.rest.now (map token ts) (statement_from 0 c.args.bytes.now) c.loop-rest.invariant.same (empty_is c.loop-rest.rest.now c.is_empty.result c.is_empty.ensures c.loop-rest-test.false) (ap (map token) (empty_is ts c.is_empty-2.result (c.is_empty-2.ensures ∙ ap (λ (n : ℕ). eqb n 0) len) c.if-is_empty.true))

pub returns-clause-read : goal.returns-clause-read
unfolding next_statement
returns-clause-read c =
    let ts = c.loop-rest.tokens.items in
    let len : vec_len c.loop-rest.tokens ≡ length ts = omega (arith, c.loop-rest.tokens.ok.0) in
    let some : 0 < length (map token ts) = rw length-map (not_empty ts c.is_empty-2.result (c.is_empty-2.ensures ∙ ap (λ (n : ℕ). eqb n 0) len) c.if-is_empty.false) in
    ends_within c.loop-rest.rest.now (map token ts) (statement_from 0 c.args.bytes.now) c.loop-rest.invariant.same (empty_is c.loop-rest.rest.now c.is_empty.result c.is_empty.ensures c.loop-rest-test.false) some
