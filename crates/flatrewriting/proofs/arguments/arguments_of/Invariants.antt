use Rattle.std.proofs.Common.{◌≡◌, map, drop}
use Rattle.flatzinc.specs.Seen.{row, value}
use Rattle.flatrewriting.specs.Arguments.{given, arguments}
use Rattle.flatrewriting.proofs.Walks.{fronted}
use Rattle.flatrewriting.proofs.arguments.arguments_of.Given as goal

abbrev pub invariant-loop-wanted : goal.invariant-loop-wanted
invariant-loop-wanted l = fronted (map given l.arguments.items) (arguments (drop l.wanted-index (row l.fn.code).sorts) (map value l.rest)) ≡ arguments (row l.fn.code).sorts (map value l.fn.values)
