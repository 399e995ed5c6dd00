use Rattle.std.proofs.Common.{◌≡◌, drop}
use Rattle.flatrewriting.specs.Variables.{highest_from}
use Rattle.flatrewriting.proofs.variables.highest_from.Given as goal

abbrev pub invariant-loop-number : goal.invariant-loop-number
invariant-loop-number l = highest_from l.highest (drop l.number-index l.others) ≡ highest_from l.fn.first l.fn.others
