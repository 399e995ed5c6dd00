-- The invariant: the values from the place on were the last ones, and are the first ones now.
use Rattle.std.proofs.Common.{◌≡◌, length}
use Rattle.integers.specs.Bounds.{bounds_in}
use Rattle.solutions.proofs.Stepping.{Stepping}
use Rattle.solutions.proofs.step.Given as goal

abbrev pub invariant-loop-k : goal.invariant-loop-k
invariant-loop-k l = (length l.values ≡ length l.initial.values) × Stepping (bounds_in l.domains) l.initial.values l.values l.k
