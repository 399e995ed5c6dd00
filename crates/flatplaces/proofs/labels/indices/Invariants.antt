-- the indices so far, and those by the sets that are left
use Rattle.std.proofs.Common.{◌≡◌, ◌++◌, drop}
use Rattle.std.specs.Prelude.{option_map}
use Rattle.flatplaces.specs.Label.{indices}
use Rattle.flatplaces.proofs.labels.indices.Given as goal

abbrev pub invariant-loop-set : goal.invariant-loop-set
invariant-loop-set l = indices l.sets l.k ≡ option_map (λ is. l.found.items ++ is) (indices (drop l.set-index l.sets) l.left)
