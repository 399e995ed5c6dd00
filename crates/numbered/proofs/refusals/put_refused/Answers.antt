-- The parts of the line, one after another.
use Rattle.integers.specs.Lists.{list_of}
use Rattle.words.specs.Bytes.{bytes}
use Rattle.decimals.proofs.Printed.{then_prints}
use Rattle.lines.specs.Lines.{refusal_line}
use Rattle.numbered.proofs.refusals.put_refused.Goals as goal

pub returns-clause-text : goal.returns-clause-text
unfolding refusal_line bytes list_of
returns-clause-text c =
    then_prints c.text.ensures.text (then_prints c.decimal.ensures.text (then_prints c.byte.ensures.text (then_prints c.decimal-2.ensures.text c.byte-2.ensures.text)))
