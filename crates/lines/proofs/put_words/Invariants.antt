-- The lines of the words before the next one are printed.
use Rattle.std.proofs.Common.{◌≡◌, ◌+◌, ◌*◌, take}
use Rattle.decimals.specs.Printed.{Prints}
use Rattle.lines.specs.Lines.{word_lines}
use Rattle.lines.proofs.put_words.Given as goal

abbrev pub invariant-loop-w : goal.invariant-loop-w
invariant-loop-w l = record {
  text : Prints l.initial.page (word_lines (take l.w-index l.words)) l.page;
  end : l.page.at ≡ l.initial.page.at + 9 * l.w-index;
}
