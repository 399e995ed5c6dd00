use Rattle.std.proofs.Common.{◌≡◌, ◌+◌, drop}
use Rattle.flatzinc.specs.Calls.{built_all}
use Rattle.flatconstants.specs.Constants.{clauses_from}
use Rattle.flatconstants.specs.Numbers.{and_built}
use Rattle.flatconstants.proofs.constant.put_constants.Given as goal

abbrev pub invariant-loop-k : goal.invariant-loop-k
invariant-loop-k l = and_built (built_all l.calls.items) (clauses_from (l.first + l.k) (drop l.k l.constants)) ≡ and_built (built_all l.fn.calls.items) (clauses_from l.first l.constants)
