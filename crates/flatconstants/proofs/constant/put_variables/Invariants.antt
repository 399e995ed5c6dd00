use Rattle.std.proofs.Common.{◌≡◌, ◌++◌, map, drop}
use Rattle.flatconstants.specs.Numbers.{constant_variable}
use Rattle.flatconstants.proofs.constant.put_variables.Given as goal

abbrev pub invariant-loop-constant : goal.invariant-loop-constant
invariant-loop-constant l = l.variables.items ++ map constant_variable (drop l.constant-index l.constants) ≡ l.fn.variables.items ++ map constant_variable l.constants
