use Rattle.std.proofs.Common.{◌≡◌, ◌++◌, drop}
use Rattle.flatrewriting.specs.Rewritten.{without}
use Rattle.flatrewriting.proofs.clauses.without.Given as goal

abbrev pub invariant-loop-atom : goal.invariant-loop-atom
invariant-loop-atom l = l.others.items ++ without l.fn.truth (drop l.atom-index l.atoms) ≡ without l.fn.truth l.atoms
