-- The variables so far.
use Rattle.std.proofs.Common.{◌≡◌, map, take}
use Rattle.flattening.specs.Variables.{model_variable}
use Rattle.flattening.proofs.variables.model_variables.Given as goal

abbrev pub invariant-loop-declared : goal.invariant-loop-declared
invariant-loop-declared l = l.out.items ≡ map model_variable (take l.declared-index l.variables)
