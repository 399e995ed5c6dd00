-- The invariant: those passed are such.
use Rattle.std.proofs.Common.{◌≡◌, drop}
use Rattle.integers.specs.Lists.{all}
use Rattle.flatnames.specs.Due.{in_range}
use Rattle.flatnames.proofs.fits.all_in_range.Given as goal

abbrev pub invariant-loop-number : goal.invariant-loop-number
invariant-loop-number l = all in_range (drop l.number-index l.numbers) ≡ all in_range l.numbers
