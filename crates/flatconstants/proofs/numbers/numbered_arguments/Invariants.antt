use Rattle.std.proofs.Common.{◌≡◌, ◌++◌, map, drop}
use Rattle.flatrewriting.specs.Arguments.{given}
use Rattle.flatconstants.specs.Constants.{number_of}
use Rattle.flatconstants.specs.Numbers.{over_numbers}
use Rattle.flatconstants.proofs.numbers.numbered_arguments.Given as goal

abbrev pub invariant-loop-argument : goal.invariant-loop-argument
invariant-loop-argument l = map given l.numbered.items ++ map (over_numbers (number_of l.fn.others l.fn.table.constants.items)) (map given (drop l.argument-index l.arguments)) ≡ map (over_numbers (number_of l.fn.others l.fn.table.constants.items)) (map given l.arguments)
