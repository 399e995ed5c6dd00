use Rattle.std.proofs.Common.{◌≡◌, eqb, rules}
use Rattle.tokens.specs.Sorts.{sort_number}
use Rattle.labels.proofs.NamesOf.{more, ends}
use Rattle.labels.proofs.named.names_of.Goals as goal

pub loop-token-preserved : goal.loop-token-preserved
loop-token-preserved c =
    let colon : c.eq-after_colon.result ≡ eqb (sort_number c.in-Some.token.sort) 58 = search rules in
    record {
      inside = c.in-Some.ensures.inside;
      same = rw colon (more c.loop-token.after_colon c.args.text.now c.loop-token.names.items _ _ c.in-Some.token _ c.in-Some.ensures c.in_ok-add.ensures c.loop-token.invariant.same);
    }

pub returns : goal.returns
returns c = ends c.loop-token.after_colon c.args.text.now c.loop-token.names.items _ _ c.in_default.ensures c.loop-token.invariant.same
