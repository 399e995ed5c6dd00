-- The invariant: the digits left, after the number so far, spell the number, and it has its bound.
use Rattle.std.proofs.Common.{◌≡◌, ◌+◌, ◌*◌, ◌^◌, ◌≤◌, drop}
use Rattle.flattokens.specs.Reading.{digits_from}
use Rattle.flattokens.proofs.reading.digits_from.Given as goal

abbrev pub invariant-loop-b : goal.invariant-loop-b
invariant-loop-b l = record {
  same : digits_from l.n (drop l.b-index l.spelled) ≡ digits_from 0 l.spelled;
  size : l.n + 23 ≤ 23 * 10 ^ l.b-index;
}
