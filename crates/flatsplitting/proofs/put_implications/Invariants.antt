use Rattle.std.proofs.Common.{[], ◌∷◌, map, take, Some}
use Rattle.models.specs.Builtin.{bool_clause}
use Rattle.flatsplitting.specs.Added.{Adds}
use Rattle.flatsplitting.proofs.put_implications.Given as goal

abbrev pub invariant-loop-x : goal.invariant-loop-x
invariant-loop-x l = Adds l.fn.model l.model [] (map (λ x. Some (bool_clause (l.part ∷ []) (x ∷ []))) (take l.x-index l.first))
