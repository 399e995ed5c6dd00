use Rattle.std.proofs.Common.{◌≡◌, drop}
use Rattle.integers.specs.Lists.{all}
use Rattle.flatconstants.specs.Typed.{is_typed}
use Rattle.flatconstants.proofs.typed.are_typed.Given as goal

abbrev pub invariant-loop-atom : goal.invariant-loop-atom
invariant-loop-atom l = all (is_typed l.fn.variables l.fn.is_boolean) (drop l.atom-index l.atoms) ≡ all (is_typed l.fn.variables l.fn.is_boolean) l.atoms
