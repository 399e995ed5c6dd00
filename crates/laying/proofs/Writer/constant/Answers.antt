-- What `part` put is the part's words.
use Rattle.std.proofs.Common.{sym, to_z-of_z}
use Rattle.integers.proofs.Booleans.{and-true}
use Rattle.integers.specs.Lists.{all}
use Rattle.laying.specs.Part.{constant, part_words, part_numbers, part_auxiliaries, part_rows}
use Rattle.laying.proofs.Written.{wrote-one}
use Rattle.laying.proofs.Writer.constant.Goals as goal

pub returns : goal.returns
unfolding part_words part_numbers part_auxiliaries part_rows all
returns c = wrote-one (constant c.args.c) (simp (c.bits.ensures, c.of_number.ensures, c.in_range.ensures, to_z-of_z c.ranges.c) at c.part.ensures.went) c.part.ensures.list (sym (and-true _))
