use Rattle.std.proofs.Common.{◌≡◌, drop}
use Rattle.std.proofs.Common.{[]}
use Rattle.flatconstants.specs.Constants.{collected}
use Rattle.flatconstants.specs.Indexed.{Indexed}
use Rattle.flatconstants.proofs.table.table_of.Given as goal

abbrev pub invariant-loop-atom : goal.invariant-loop-atom
invariant-loop-atom l = Indexed l.table × (collected l.table.constants.items (drop l.atom-index l.atoms) ≡ collected [] l.atoms)
