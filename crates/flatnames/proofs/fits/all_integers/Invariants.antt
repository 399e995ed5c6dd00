-- The invariant: those passed are such.
use Rattle.std.proofs.Common.{◌≡◌, map, drop}
use Rattle.integers.specs.Lists.{all}
use Rattle.flatzinc.specs.Seen.{declared}
use Rattle.flatnames.specs.Due.{is_integer}
use Rattle.flatnames.proofs.fits.all_integers.Given as goal

abbrev pub invariant-loop-atom : goal.invariant-loop-atom
invariant-loop-atom l = all (is_integer (map declared l.variables)) (drop l.atom-index l.atoms) ≡ all (is_integer (map declared l.variables)) l.atoms
