use Rattle.std.proofs.Common.{sym, ◌∙◌, arith}
use Rattle.decimals.proofs.Ahead.{column_first, no-columns, length-ahead}
use Rattle.decimals.proofs.Page.ahead.Goals as goal

pub loop-left-preserved : goal.loop-left-preserved
loop-left-preserved c = record {
  same_bytes = c.loop-left.invariant.same_bytes;
  place = c.loop-left.invariant.place;
  over =
      rw (c.put.ensures, c.byte_of.ensures, c.minus_after-hyphen.ensures)
      (sym (column_first _ _ c.loop-left.left c.loop-left.hyphen c.loop-left.digits c.loop-left-test.true) ∙ c.loop-left.invariant.over);
}

pub returns-clause-text : goal.returns-clause-text
returns-clause-text c = record {
  laid = record {
    over = sym (no-columns _ _ _ _ _ c.loop-left-test.false) ∙ c.loop-left.invariant.over;
    ends = omega (arith, c.loop-left.invariant.place, length-ahead c.args.columns c.args.minus c.args.rest);
  };
  same_bytes = c.loop-left.invariant.same_bytes;
}
