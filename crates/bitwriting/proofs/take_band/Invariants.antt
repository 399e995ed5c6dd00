-- The invariant is `Passing`: the lines passed are taken.
use Rattle.std.proofs.Common.{◌+◌, ◌-◌}
use Rattle.bittaking.specs.Taking.{LineTaken}
use Rattle.bitwriting.proofs.Band.{Passing}
use Rattle.bitwriting.proofs.take_band.Given as goal

abbrev pub invariant-loop-q : goal.invariant-loop-q
invariant-loop-q l = Passing (λ q. LineTaken l.taken.times l.taken.added.now (l.i + q) (l.n - (l.i + q))) l.n l.initial.band l.band l.q
