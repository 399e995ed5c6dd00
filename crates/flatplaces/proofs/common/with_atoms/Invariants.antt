-- those of all are those so far and of the atoms that are left
use Rattle.std.proofs.Common.{◌≡◌, drop}
use Rattle.flatplaces.specs.Common.{with_atoms}
use Rattle.flatplaces.specs.SeenCommon.{common_of, places}
use Rattle.flatplaces.proofs.common.with_atoms.Given as goal

abbrev pub invariant-loop-atom : goal.invariant-loop-atom
invariant-loop-atom l = with_atoms (places l.introduced) (common_of l.common) l.atoms ≡ with_atoms (places l.introduced) (common_of l.found) (drop l.atom-index l.atoms)
