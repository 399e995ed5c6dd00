-- The invariant: the tokens so far, before those of the rest, are those of the whole; the rest begins with no gap. The measure: the bytes left.
use Rattle.std.proofs.Common.{◌≡◌, ◌≤◌, false, map, length}
use Rattle.tokens.specs.Byte.{front}
use Rattle.flattokens.specs.Byte.{is_gap}
use Rattle.flattokens.specs.Token.{token}
use Rattle.flattokens.specs.Reading.{statement_from}
use Rattle.flattokens.proofs.Statements.{ahead}
use Rattle.flattokens.proofs.reading.tokens_of.Given as goal

abbrev pub invariant-loop-rest : goal.invariant-loop-rest
invariant-loop-rest l = record {
  same : ahead (map token l.tokens.items) (statement_from 0 l.rest) ≡ statement_from 0 l.bytes;
  no_gap : is_gap (front l.rest) ≡ false;
  size : length l.rest ≤ length l.bytes;
}

abbrev pub decreases-loop-rest : goal.decreases-loop-rest
decreases-loop-rest l = length l.rest
