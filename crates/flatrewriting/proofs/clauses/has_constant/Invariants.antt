use Rattle.std.proofs.Common.{◌≡◌, drop}
use Rattle.integers.specs.Lists.{any}
use Rattle.flatrewriting.specs.Rewritten.{is_constant}
use Rattle.flatrewriting.proofs.clauses.has_constant.Given as goal

abbrev pub invariant-loop-atom : goal.invariant-loop-atom
invariant-loop-atom l = any (is_constant l.fn.truth) (drop l.atom-index l.atoms) ≡ any (is_constant l.fn.truth) l.atoms
