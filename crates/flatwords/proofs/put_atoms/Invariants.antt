use Rattle.std.proofs.Common.{◌≡◌, ◌++◌, map, take}
use Rattle.flatwords.specs.CallWords.{atom_word}
use Rattle.flatwords.proofs.put_atoms.Given as goal

abbrev pub invariant-loop-a : goal.invariant-loop-a
invariant-loop-a l = l.out.items ≡ l.fn.out.items ++ map atom_word (take l.a-index l.atoms)
