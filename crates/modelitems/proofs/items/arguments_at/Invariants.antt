-- The loop's invariant: reading went on past the arguments before the k-th.
use Rattle.std.proofs.Common.{ℕ, map}
use Rattle.models.specs.Shapes.{shape_number}
use Rattle.modelitems.specs.Onward.{StepsTo, arguments_from}
use Rattle.modelitems.proofs.items.arguments_at.Given as goal

abbrev pub invariant-loop-k : goal.invariant-loop-k
invariant-loop-k l = (d : ℕ) → StepsTo l.ws (map shape_number l.types) d (arguments_from l.code 0) l.at (arguments_from l.code l.k) (record { number = 0; at = l.place })
