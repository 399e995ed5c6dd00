-- The invariant: the names passed are declared.
use Rattle.std.proofs.Common.{◌≡◌, map, drop, is_some}
use Rattle.integers.specs.Lists.{all}
use Rattle.flatstatements.specs.Statement.{element_of}
use Rattle.flatnames.specs.Scope.{element_known}
use Rattle.flatnames.specs.Seen.{scope_of}
use Rattle.flatnames.proofs.expressions.all_declared.Given as goal

abbrev pub invariant-loop-element : goal.invariant-loop-element
invariant-loop-element l =
    all (λ e. is_some (element_known (scope_of l.scope) e)) (map element_of (drop l.element-index l.elements))
    ≡ all (λ e. is_some (element_known (scope_of l.scope) e)) (map element_of l.elements)
