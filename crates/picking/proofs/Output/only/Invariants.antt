-- The loop's invariant: the numbers before place k are written, and the place stays.
use Rattle.std.proofs.Common.{◌≡◌}
use Rattle.words.proofs.Rest.{FirstLaid}
use Rattle.picking.specs.Only.{only_at}
use Rattle.picking.proofs.Output.only.Given as goal

abbrev pub invariant-loop-k : goal.invariant-loop-k
invariant-loop-k l = record {
  place : l.self.at ≡ l.initial.self.at;
  laid : FirstLaid l.initial.self.list.now l.initial.self.at (only_at l.n l.h l.v) l.self.list.now l.k;
  same_list : l.self.list.ghost_name ≡ l.initial.self.list.ghost_name;
}
