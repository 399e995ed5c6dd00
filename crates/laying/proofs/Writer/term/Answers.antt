-- What `part` put is the part's words.
use Rattle.std.proofs.Common.{sym, to_z-of_z}
use Rattle.integers.proofs.Booleans.{and-true}
use Rattle.integers.specs.Lists.{all}
use Rattle.laying.specs.Part.{term, part_words, part_numbers, part_auxiliaries, part_rows}
use Rattle.laying.proofs.Written.{wrote-one}
use Rattle.laying.proofs.Writer.term.Goals as goal

pub returns : goal.returns
unfolding part_words part_numbers part_auxiliaries part_rows all
returns c = wrote-one (term c.args.coefficient c.args.v) (simp (c.bits.ensures, c.new.ensures, c.bits-2.ensures, c.of_number.ensures, c.in_range.ensures, to_z-of_z c.ranges.coefficient) at c.part.ensures.went) c.part.ensures.list (sym (and-true _))
