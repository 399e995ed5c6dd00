use Rattle.std.proofs.Common.{◌≡◌, ◌++◌, map, take}
use Rattle.flatwords.specs.CallWords.{atom_word}
use Rattle.flatwords.proofs.put_factors.Given as goal

abbrev pub invariant-loop-p : goal.invariant-loop-p
invariant-loop-p l = l.out.items ≡ l.fn.out.items ++ map (λ p. atom_word p.atom) (take l.p-index l.products)
