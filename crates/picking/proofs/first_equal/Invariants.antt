-- The loop's invariant: no variable before place k has the value.
use Rattle.std.proofs.Common.{◌≡◌, false, ℕ, ◌+◌, ◌<◌}
use Rattle.integers.specs.Number.{◌≟◌}
use Rattle.integers.specs.Terms.{value}
use Rattle.models.specs.Model.{var}
use Rattle.picking.proofs.first_equal.Given as goal

abbrev pub invariant-loop-k : goal.invariant-loop-k
invariant-loop-k l = (j : ℕ) → j < l.k → (value l.near.instance.values.now (var l.near.instance.args.now (l.i + 1 + j)) ≟ l.v) ≡ false
