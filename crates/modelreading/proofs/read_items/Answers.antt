use Rattle.modelreading.proofs.Loop.{front-seen}
use Rattle.modelreading.proofs.read_items.Goals as goal

pub read_constraints-requires : goal.read_constraints-requires
read_constraints-requires c = front-seen c.read_variables.new.types c.read_variables.array_long c.in_ok-variables.ensures
