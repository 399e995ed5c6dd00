-- The loop's invariant: the test so far is that over the places passed.
use Rattle.std.proofs.Common.{◌≡◌, ◌+◌}
use lib.Signed.{le_z}
use Rattle.integers.specs.Choice.{◌if◌else◌}
use Rattle.integers.specs.Lists.{list_of, all}
use Rattle.integers.specs.Terms.{value}
use Rattle.models.specs.Model.{var}
use Rattle.arguments.proofs.instance.Instance.none_past.Given as goal

abbrev pub invariant-loop-k : goal.invariant-loop-k
invariant-loop-k l = l.so_far ≡ all (λ x. le_z (value l.self.values.now x) l.m if l.up else le_z l.m (value l.self.values.now x)) (list_of (λ j. var l.self.args.now (l.i + 1 + j)) l.k)
