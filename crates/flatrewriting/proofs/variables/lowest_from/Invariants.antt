use Rattle.std.proofs.Common.{◌≡◌, drop}
use Rattle.flatrewriting.specs.Variables.{lowest_from}
use Rattle.flatrewriting.proofs.variables.lowest_from.Given as goal

abbrev pub invariant-loop-number : goal.invariant-loop-number
invariant-loop-number l = lowest_from l.lowest (drop l.number-index l.others) ≡ lowest_from l.fn.first l.fn.others
