-- The invariant: laying what is left of the columns gives what laying all of them gives; the place stays.
use Rattle.std.proofs.Common.{◌≡◌}
use Rattle.words.specs.Overlay.{overlay}
use Rattle.decimals.specs.Ahead.{ahead}
use Rattle.decimals.proofs.Page.ahead.Given as goal

abbrev pub invariant-loop-left : goal.invariant-loop-left
invariant-loop-left l = record {
  same_bytes : l.self.bytes.ghost_name ≡ l.initial.self.bytes.ghost_name;
  place : l.self.at ≡ l.initial.self.at;
  over : overlay l.self.bytes.now l.self.at (ahead l.left l.hyphen l.digits) ≡ overlay l.initial.self.bytes.now l.initial.self.at (ahead l.columns l.minus l.rest);
}
