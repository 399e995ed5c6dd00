-- The loop's invariant: reading went on past the numbers passed.
use Rattle.std.proofs.Common.{◌-◌}
use Rattle.modelitems.specs.Onward.{NumbersRead}
use Rattle.modelitems.proofs.items.numbers_at.Given as goal

abbrev pub invariant-loop-place : goal.invariant-loop-place
invariant-loop-place l = NumbersRead l.ws l.n l.at (l.end - l.place) (record { number = 0; at = l.place })
