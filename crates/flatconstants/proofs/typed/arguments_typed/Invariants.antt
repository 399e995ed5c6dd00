use Rattle.std.proofs.Common.{◌≡◌, map, drop}
use Rattle.flatrewriting.specs.Sorts.{sort}
use Rattle.flatrewriting.specs.Arguments.{given}
use Rattle.flatconstants.specs.Typed.{givens_typed}
use Rattle.flatconstants.proofs.typed.arguments_typed.Given as goal

abbrev pub invariant-loop-k : goal.invariant-loop-k
invariant-loop-k l = givens_typed l.fn.variables (map sort (drop l.k l.sorts)) (map given (drop l.k l.arguments)) ≡ givens_typed l.fn.variables (map sort l.sorts) (map given l.arguments)
