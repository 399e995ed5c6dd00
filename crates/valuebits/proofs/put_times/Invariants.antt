-- The loop's invariant: the first products are laid.
use Rattle.std.proofs.Common.{map, ◌*◌}
use Rattle.words.proofs.Rest.{FirstLaid}
use Rattle.valuebits.proofs.put_times.Given as goal

abbrev pub invariant-loop-b : goal.invariant-loop-b
invariant-loop-b l = FirstLaid l.initial.out l.at (map (λ g. l.f * g) l.gs) l.out l.b
