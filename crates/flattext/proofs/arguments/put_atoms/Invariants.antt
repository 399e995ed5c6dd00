-- the text before, what is put so far, and what is still to come
use Rattle.std.proofs.Common.{◌≡◌, ◌++◌, drop, eqb}
use Rattle.std.specs.Prelude.{map}
use Rattle.integers.specs.Choice.{◌if◌else◌}
use Rattle.flattext.specs.SeenCalled.{called}
use Rattle.flattext.specs.CallText.{joined_by, more_by, atom_text}
use Rattle.flattext.proofs.arguments.put_atoms.Given as goal

abbrev pub invariant-loop-at : goal.invariant-loop-at
invariant-loop-at l = l.initial.out.items ++ joined_by (atom_text (map called l.names)) l.atoms ≡ l.out.items ++ (joined_by (atom_text (map called l.names)) (drop l.at l.atoms) if eqb l.at 0 else more_by (atom_text (map called l.names)) (drop l.at l.atoms))
