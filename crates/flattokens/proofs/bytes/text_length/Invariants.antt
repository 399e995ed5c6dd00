-- The invariant: the bytes so far and those of the rest are those of the whole.
use Rattle.std.proofs.Common.{◌≡◌, false, drop}
use Rattle.flattokens.specs.Reading.{text_length}
use Rattle.flattokens.proofs.Runs.{counted}
use Rattle.flattokens.proofs.bytes.text_length.Given as goal

abbrev pub invariant-loop-i : goal.invariant-loop-i
invariant-loop-i l = counted l.i (text_length l.escaped (drop l.i l.bytes)) ≡ text_length false l.bytes
