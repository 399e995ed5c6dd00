-- The digits, then the line feed.
use Rattle.decimals.proofs.Printed.{then_prints}
use Rattle.lines.specs.Lines.{word_line}
use Rattle.lines.proofs.put_word.Goals as goal

pub returns-clause-text : goal.returns-clause-text
unfolding word_line
returns-clause-text c = then_prints (rw c.hex_digits.ensures.text at c.text.ensures.text) c.byte.ensures.text
