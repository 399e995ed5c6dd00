use Rattle.std.proofs.Common.{◌≡◌, ◌++◌, drop}
use Rattle.flatconstants.specs.Numbers.{calls_atoms}
use Rattle.flatconstants.proofs.atoms.atoms_of.Given as goal

abbrev pub invariant-loop-call : goal.invariant-loop-call
invariant-loop-call l = l.atoms.items ++ calls_atoms (drop l.call-index l.calls) ≡ calls_atoms l.calls
