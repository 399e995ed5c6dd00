-- The position after the bytes before the next one; no line and no column is beyond them.
use Rattle.std.proofs.Common.{◌≡◌, ◌+◌, ◌≤◌, take}
use Rattle.labels.specs.Position.{after_all, start}
use Rattle.labels.proofs.position.position_of.Given as goal

abbrev pub invariant-loop-b : goal.invariant-loop-b
invariant-loop-b l = record {
  same : l.p ≡ after_all start (take l.b-index l.front);
  line : l.p.line ≤ l.b-index + 1;
  column : l.p.column ≤ l.b-index + 1;
}
