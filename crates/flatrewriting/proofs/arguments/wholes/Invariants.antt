use Rattle.std.proofs.Common.{◌≡◌, drop}
use Rattle.flatzinc.specs.Items.{wholes}
use Rattle.flatrewriting.proofs.Walks.{fronted}
use Rattle.flatrewriting.proofs.arguments.wholes.Given as goal

abbrev pub invariant-loop-atom : goal.invariant-loop-atom
invariant-loop-atom l = fronted l.numbers.items (wholes (drop l.atom-index l.atoms)) ≡ wholes l.atoms
