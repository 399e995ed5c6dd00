-- The invariant: those passed are such.
use Rattle.std.proofs.Common.{◌≡◌, drop}
use Rattle.integers.specs.Lists.{all}
use Rattle.flatnames.specs.Due.{is_number}
use Rattle.flatnames.proofs.fits.all_numbers.Given as goal

abbrev pub invariant-loop-atom : goal.invariant-loop-atom
invariant-loop-atom l = all is_number (drop l.atom-index l.atoms) ≡ all is_number l.atoms
