use Rattle.std.proofs.Common.{arith, add-one}
use Rattle.decimals.proofs.Printed.{prints_none, then_prints}
use Rattle.lines.proofs.Lines.{words_more}
use Rattle.lines.specs.Lines.{word_lines}
use Rattle.lines.proofs.put_words.Goals as goal

pub loop-w-init : goal.loop-w-init
unfolding word_lines
loop-w-init c = record { text = prints_none _; end = omega arith }

pub loop-w-preserved : goal.loop-w-preserved
loop-w-preserved c = record {
  text = rw (add-one, words_more c.args.words.now c.loop-w.w-index c.loop-w-test.true) (then_prints c.loop-w.invariant.text c.put_word.ensures.text);
  end = omega (arith, c.put_word.ensures.end, c.loop-w.invariant.end);
}
