-- those of all are those so far and of the arguments that are left
use Rattle.std.proofs.Common.{◌≡◌, drop}
use Rattle.std.specs.Prelude.{map}
use Rattle.flatzinc.specs.Seen.{value}
use Rattle.flatplaces.specs.Common.{with_values}
use Rattle.flatplaces.specs.SeenCommon.{common_of, places}
use Rattle.flatplaces.proofs.common.with_values.Given as goal

abbrev pub invariant-loop-value : goal.invariant-loop-value
invariant-loop-value l = with_values (places l.introduced) (common_of l.common) (map value l.values) ≡ with_values (places l.introduced) (common_of l.found) (map value (drop l.value-index l.values))
