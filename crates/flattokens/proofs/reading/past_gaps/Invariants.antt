-- The invariant: behind the gaps so far a statement's tokens are those from the start on. The measure: the bytes left.
use Rattle.std.proofs.Common.{◌≡◌, ◌≤◌, length}
use Rattle.flattokens.specs.Reading.{statement_from}
use Rattle.flattokens.proofs.reading.past_gaps.Given as goal

abbrev pub invariant-loop-rest : goal.invariant-loop-rest
invariant-loop-rest l = record {
  same : statement_from 0 l.rest ≡ statement_from 0 l.bytes;
  size : length l.rest ≤ length l.bytes;
}

abbrev pub decreases-loop-rest : goal.decreases-loop-rest
decreases-loop-rest l = length l.rest
