-- A gap after another.
use Rattle.std.proofs.Common.{true, false, sym, ap, ◌∙◌, ℕ, length, drop, length-drop, arith}
use Rattle.flattokens.specs.Reading.{statement_from}
use Rattle.flattokens.proofs.Statements.{gap_inside, gap_on, gap_read}
use Rattle.flattokens.proofs.reading.past_gaps.Goals as goal

pub gap_length-requires : goal.gap_length-requires
gap_length-requires c = gap_inside c.loop-rest.rest.now (gap_read c.loop-rest.rest.now c.at_or.result c.is_gap.result true c.at_or.ensures c.is_gap.ensures c.loop-rest-test.true)

pub loop-rest-preserved : goal.loop-rest-preserved
loop-rest-preserved c =
    let bs = c.loop-rest.rest.now in
    let e = c.after-rest.ensures in record {
      same = ap (statement_from 0) e ∙ ap (λ (n : ℕ). statement_from 0 (drop n bs)) c.gap_length.ensures.value ∙ sym (gap_on bs (gap_read bs c.at_or.result c.is_gap.result true c.at_or.ensures c.is_gap.ensures c.loop-rest-test.true)) ∙ c.loop-rest.invariant.same;
      size = omega (arith, ap length e, length-drop c.gap_length.result bs, c.loop-rest.invariant.size);
    }

pub returns-clause-no_gap : goal.returns-clause-no_gap
returns-clause-no_gap c = gap_read c.loop-rest.rest.now c.at_or.result c.is_gap.result false c.at_or.ensures c.is_gap.ensures c.loop-rest-test.false
