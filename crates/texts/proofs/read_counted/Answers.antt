-- The length is written before the elements.
use Rattle.std.proofs.Common.{refl}
use Rattle.texts.proofs.Opening.{counted}
use Rattle.texts.proofs.read_counted.Goals as goal

pub returns-clause-list : goal.returns-clause-list
returns-clause-list c = counted refl refl c.in_ok-stop.ensures.list refl (rw (c.bits.ensures, c.new.ensures) at c.put.ensures) refl
