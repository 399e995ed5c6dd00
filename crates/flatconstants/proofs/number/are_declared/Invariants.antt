use Rattle.std.proofs.Common.{◌≡◌, drop}
use Rattle.integers.specs.Lists.{all}
use Rattle.flatconstants.specs.Numbers.{is_declared}
use Rattle.flatconstants.proofs.number.are_declared.Given as goal

abbrev pub invariant-loop-atom : goal.invariant-loop-atom
invariant-loop-atom l = all (is_declared l.fn.others) (drop l.atom-index l.atoms) ≡ all (is_declared l.fn.others) l.atoms
