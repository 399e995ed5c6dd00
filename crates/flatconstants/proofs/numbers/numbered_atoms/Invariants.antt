use Rattle.std.proofs.Common.{◌≡◌, ◌++◌, map, drop}
use Rattle.flatzinc.specs.declared.Atom.TheVariants.{Variable}
use Rattle.flatconstants.specs.Constants.{number_of}
use Rattle.flatconstants.proofs.numbers.numbered_atoms.Given as goal

abbrev pub invariant-loop-atom : goal.invariant-loop-atom
invariant-loop-atom l = l.variables.items ++ map (λ a. Variable (number_of l.fn.others l.fn.table.constants.items a)) (drop l.atom-index l.atoms) ≡ map (λ a. Variable (number_of l.fn.others l.fn.table.constants.items a)) l.atoms
