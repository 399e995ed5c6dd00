use Rattle.std.proofs.Common.{◌≡◌, ◌++◌, map, drop}
use Rattle.flatrewriting.specs.Arguments.{given}
use Rattle.flatconstants.specs.Numbers.{givens_atoms}
use Rattle.flatconstants.proofs.atoms.put_arguments.Given as goal

abbrev pub invariant-loop-argument : goal.invariant-loop-argument
invariant-loop-argument l = l.atoms.items ++ givens_atoms (map given (drop l.argument-index l.arguments)) ≡ l.fn.atoms.items ++ givens_atoms (map given l.arguments)
