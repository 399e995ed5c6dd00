use Rattle.laying.proofs.Counts.{pair_put}
use Rattle.laying.proofs.terms.put_pair.Goals as goal

pub returns : goal.returns
returns c = rw (c.bits.ensures, c.new.ensures, c.bits-2.ensures, c.new-2.ensures, c.bits-3.ensures, c.of_number.ensures, c.bits-4.ensures, c.new-3.ensures, c.bits-5.ensures, c.of_number-2.ensures, c.bits-6.ensures, c.of_number-3.ensures) (pair_put _ _ _ _)
