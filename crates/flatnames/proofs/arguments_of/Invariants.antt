-- The invariant: the values so far and those of the rest are those of all.
use Rattle.std.proofs.Common.{◌≡◌, map, option_map, ◌++◌, drop}
use Rattle.flatstatements.specs.Statement.{expression_of}
use Rattle.flatzinc.specs.Seen.{value}
use Rattle.flatnames.specs.Scope.{arguments}
use Rattle.flatnames.specs.Seen.{scope_of}
use Rattle.flatnames.proofs.arguments_of.Given as goal

abbrev pub invariant-loop-expression : goal.invariant-loop-expression
invariant-loop-expression l =
    option_map (λ vs. map value l.out.items ++ vs) (arguments (scope_of l.scope) (map expression_of (drop l.expression-index l.expressions)))
    ≡ arguments (scope_of l.scope) (map expression_of l.expressions)
