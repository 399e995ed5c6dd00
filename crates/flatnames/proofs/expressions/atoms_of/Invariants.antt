-- The invariant: the atoms so far and those of the rest are those of all.
use Rattle.std.proofs.Common.{◌≡◌, map, option_map, ◌++◌, drop}
use Rattle.flatstatements.specs.Statement.{element_of}
use Rattle.flatnames.specs.Scope.{atoms_of}
use Rattle.flatnames.specs.Seen.{scope_of}
use Rattle.flatnames.proofs.expressions.atoms_of.Given as goal

abbrev pub invariant-loop-element : goal.invariant-loop-element
invariant-loop-element l =
    option_map (λ as₁. l.out.items ++ as₁) (atoms_of (scope_of l.scope) (map element_of (drop l.element-index l.elements)))
    ≡ atoms_of (scope_of l.scope) (map element_of l.elements)
