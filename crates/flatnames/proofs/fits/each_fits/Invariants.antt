-- The invariant: the values passed fit.
use Rattle.std.proofs.Common.{◌≡◌, map, drop}
use Rattle.flatzinc.specs.Seen.{value, declared}
use Rattle.flatnames.specs.Due.{each_fits}
use Rattle.flatnames.specs.SeenDue.{due_of}
use Rattle.flatnames.proofs.fits.each_fits.Given as goal

abbrev pub invariant-loop-place : goal.invariant-loop-place
invariant-loop-place l =
    each_fits (map declared l.variables) (map due_of (drop l.place l.due)) (map value (drop l.place l.values))
    ≡ each_fits (map declared l.variables) (map due_of l.due) (map value l.values)
