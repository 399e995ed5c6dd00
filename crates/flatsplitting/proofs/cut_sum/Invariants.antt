use Rattle.std.proofs.Common.{◌≤◌, ◌-◌, length, map, drop}
use Rattle.flatsplitting.specs.Added.{term}
use Rattle.flatsplitting.specs.Pieces.{of_sum}
use Rattle.flatsplitting.proofs.Going.{Going}
use Rattle.flatsplitting.proofs.cut_sum.Given as goal

abbrev pub invariant-cutting : goal.invariant-cutting
invariant-cutting l = record {
  within : l.at ≤ length l.terms.items;
  going : Going of_sum l.fn.model l.model (map term l.fn.terms.items) (drop l.at (map term l.terms.items));
}

abbrev pub decreases-cutting : goal.decreases-cutting
decreases-cutting l = length l.terms.items - l.at
