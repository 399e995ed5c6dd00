-- What `part` put is the part's words.
use Rattle.std.proofs.Common.{refl}
use Rattle.integers.specs.Lists.{all}
use Rattle.laying.specs.Part.{head, part_words, part_numbers, part_auxiliaries, part_rows}
use Rattle.laying.proofs.Written.{wrote-one}
use Rattle.laying.proofs.Writer.head.Goals as goal

pub returns : goal.returns
unfolding part_words part_numbers part_auxiliaries part_rows all
returns c = wrote-one (head _ c.args.n) (simp (c.bits.ensures, c.new.ensures) at c.part.ensures.went) c.part.ensures.list refl
