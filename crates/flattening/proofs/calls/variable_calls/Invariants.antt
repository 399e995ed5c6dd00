-- The calls so far place what the variables so far ask.
use Rattle.std.proofs.Common.{◌≡◌, map, take}
use Rattle.flatzinc.specs.Seen.{declared}
use Rattle.flatzinc.specs.Calls.{placed_all}
use Rattle.flattening.specs.Flattened.{variable_items}
use Rattle.flattening.proofs.calls.variable_calls.Given as goal

abbrev pub invariant-loop-number : goal.invariant-loop-number
invariant-loop-number l = placed_all l.calls.items ≡ variable_items 0 (map declared (take l.number l.variables))
