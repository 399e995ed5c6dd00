-- The invariant: the tokens so far and those of the rest are those of the whole; no more brackets are open than tokens are read.
use Rattle.std.proofs.Common.{◌≡◌, ◌+◌, map, drop}
use Rattle.flattokens.specs.Token.{token}
use Rattle.flatstatements.specs.Reading.{IsShallow, notes_length}
use Rattle.flatstatements.proofs.Noted.{counted}
use Rattle.flatstatements.proofs.notes.notes_length.Given as goal

abbrev pub invariant-loop-i : goal.invariant-loop-i
invariant-loop-i l = record {
  same : counted l.i (notes_length l.place (drop l.i (map token l.tokens))) ≡ notes_length l.fn.start (map token l.tokens);
  shallow : IsShallow l.place (l.i + 1);
}
