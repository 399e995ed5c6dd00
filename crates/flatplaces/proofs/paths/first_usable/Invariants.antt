-- the first of all is the first of those that are left
use Rattle.std.proofs.Common.{◌≡◌, drop}
use Rattle.std.specs.Prelude.{None}
use Rattle.flatplaces.specs.Path.{first_usable}
use Rattle.flatplaces.proofs.paths.first_usable.Given as goal

abbrev pub invariant-loop-element : goal.invariant-loop-element
invariant-loop-element l = first_usable l.folder l.path None l.elements ≡ first_usable l.folder l.path l.declared (drop l.element-index l.elements)
