-- no name is taken yet
use Rattle.std.proofs.Common.{◌≡◌}
use Rattle.flattext.proofs.names.Names.fresh.Given as goal

abbrev pub invariant-loop-k : goal.invariant-loop-k
invariant-loop-k l = l.self.used ≡ l.initial.self.used
