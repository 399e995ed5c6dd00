-- What `part` put is the part's words.
use Rattle.std.proofs.Common.{ap, sym, ◌&&◌, to_z-of_z}
use Rattle.integers.proofs.Booleans.{and-true}
use Rattle.words.specs.Word.{in_range}
use Rattle.integers.specs.Lists.{all}
use Rattle.laying.specs.Part.{bound, part_words, part_numbers, part_auxiliaries, part_rows}
use Rattle.laying.proofs.Written.{wrote-one}
use Rattle.laying.proofs.Writer.bound.Goals as goal

pub returns : goal.returns
unfolding part_words part_numbers part_auxiliaries part_rows all
returns c = wrote-one (bound c.args.lower c.args.upper) (simp (c.bits.ensures, c.of_number.ensures, c.bits-2.ensures, c.of_number-2.ensures, c.are_in_range.ensures, to_z-of_z c.ranges.lower, to_z-of_z c.ranges.upper) at c.part.ensures.went) c.part.ensures.list (ap (λ b. in_range c.args.lower && b) (sym (and-true _)))
