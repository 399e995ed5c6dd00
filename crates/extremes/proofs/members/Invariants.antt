-- The loop's invariant is `Rising`: the members found stand in the list, and the rest follows.
use Rattle.std.proofs.Common.{◌-◌}
use Rattle.integers.specs.Bounds.{◌to◌}
use Rattle.models.specs.Model.{nums}
use Rattle.rules.specs.Parts.{members}
use Rattle.extremes.proofs.Rising.{Rising}
use Rattle.extremes.proofs.members.Given as goal

abbrev pub invariant-loop-k : goal.invariant-loop-k
invariant-loop-k l = Rising (nums l.args l.i) l.fn.upper (members (nums l.args l.i) (l.fn.lower to l.fn.upper)) l.initial.out l.out l.k (l.n - l.k) l.from
