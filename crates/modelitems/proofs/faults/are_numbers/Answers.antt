use Rattle.std.proofs.Common.{refl}
use Rattle.integers.specs.Lists.{list_of, all}
use Rattle.integers.proofs.Places.{all_more}
use Rattle.words.specs.Word.{word_at}
use Rattle.modelitems.specs.Onward.{is_number}
use Rattle.modelitems.proofs.faults.are_numbers.Goals as goal

pub loop-w-init : goal.loop-w-init
unfolding list_of all
loop-w-init c = refl

pub loop-w-preserved : goal.loop-w-preserved
unfolding word_at is_number
loop-w-preserved c = rw (all_more, c.loop-w.invariant, c.is_number-so_far.ensures, c.into.ensures)
