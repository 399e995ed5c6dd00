-- A token of the annotations, one behind them, the end.
use Rattle.std.proofs.Common.{◌+◌, sym, ◌∙◌, map, length, drop, arith}
use Rattle.std.proofs.lemmas.List.{length-map}
use Rattle.flattokens.specs.Token.{token}
use Rattle.flatstatements.specs.Reading.{notes_length}
use Rattle.flatstatements.proofs.Lists.{seen_front}
use Rattle.flatstatements.proofs.Noted.{goes_on, stops, over, step_shallow}
use Rattle.flatstatements.proofs.notes.notes_length.Goals as goal

pub loop-i-preserved : goal.loop-i-preserved
loop-i-preserved c =
    let ts = c.args.tokens.now in
    let i = c.loop-i.i in
    record {
      same = goes_on c.loop-i.place (drop i (map token ts)) (drop (i + 1) (map token ts)) _ i (notes_length c.args.start (map token ts)) (seen_front token ts i _ c.loop-i-test.true) c.loop-i.invariant.same c.in-Some.next (sym c.step.ensures ∙ c.in-Some.is);
      shallow = step_shallow c.loop-i.place _ c.in-Some.next (i + 1) (omega arith) c.loop-i.invariant.shallow (sym c.step.ensures ∙ c.in-Some.is);
    }

pub returns-in-None-clause-read : goal.returns-in-None-clause-read
returns-in-None-clause-read c =
    let ts = c.args.tokens.now in
    let i = c.loop-i.i in
    rw (stops c.loop-i.place (drop i (map token ts)) (drop (i + 1) (map token ts)) _ i (notes_length c.args.start (map token ts)) (seen_front token ts i _ c.loop-i-test.true) c.loop-i.invariant.same (sym c.step.ensures ∙ c.in-None.is)) c.ended.ensures

pub returns-clause-read : goal.returns-clause-read
returns-clause-read c =
    let ts = c.args.tokens.now in
    let i = c.loop-i.i in
    rw (over c.loop-i.place (map token ts) i (length ts) (notes_length c.args.start (map token ts)) (omega arith) (rw length-map c.loop-i-test.false) c.loop-i.invariant.same) c.ended-2.ensures
