-- the names of all elements are those so far and those of the elements that are left
use Rattle.std.proofs.Common.{◌≡◌, drop}
use Rattle.std.specs.Prelude.{map}
use Rattle.flattext.specs.SeenCalled.{called}
use Rattle.flattext.specs.Elements.{labelled_from}
use Rattle.flattext.proofs.elements.label_elements.Given as goal

abbrev pub invariant-loop-k : goal.invariant-loop-k
invariant-loop-k l = labelled_from (map called l.initial.names) l.array.name.now l.array.sets.now 0 l.atoms ≡ labelled_from (map called l.names) l.array.name.now l.array.sets.now l.k (drop l.k l.atoms)
