use Rattle.std.proofs.Common.{◌≤◌, ◌-◌, length, drop}
use Rattle.flatsplitting.specs.Pieces.{of_list}
use Rattle.flatsplitting.proofs.Going.{Going}
use Rattle.flatsplitting.proofs.cut_list.Given as goal

abbrev pub invariant-cutting : goal.invariant-cutting
invariant-cutting l = record {
  within : l.at ≤ length l.numbers.items;
  going : Going (of_list l.reading) l.fn.model l.model l.fn.numbers.items (drop l.at l.numbers.items);
}

abbrev pub decreases-cutting : goal.decreases-cutting
decreases-cutting l = length l.numbers.items - l.at
