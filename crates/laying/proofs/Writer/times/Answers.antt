-- What `part` put is the part's words.
use Rattle.std.proofs.Common.{refl}
use Rattle.integers.specs.Lists.{all}
use Rattle.laying.specs.Part.{times, part_words, part_numbers, part_auxiliaries, part_rows}
use Rattle.laying.proofs.Written.{wrote-one}
use Rattle.laying.proofs.Writer.times.Goals as goal

pub returns : goal.returns
unfolding part_words part_numbers part_auxiliaries part_rows all
returns c = wrote-one (times c.args.r c.args.f c.args.g) (simp (c.bits.ensures, c.new.ensures, c.bits-2.ensures, c.new-2.ensures, c.bits-3.ensures, c.new-3.ensures, c.bits-4.ensures, c.new-4.ensures) at c.part.ensures.went) c.part.ensures.list refl
