-- the elements so far, and those that are still to come
use Rattle.std.proofs.Common.{◌≡◌, ◌++◌, drop}
use Rattle.flatplaces.specs.Path.{begin, elements_from}
use Rattle.flatplaces.proofs.paths.elements.Given as goal

abbrev pub invariant-loop-at : goal.invariant-loop-at
invariant-loop-at l = elements_from begin 0 l.path ≡ l.found.items ++ elements_from l.progress l.at (drop l.at l.path)
