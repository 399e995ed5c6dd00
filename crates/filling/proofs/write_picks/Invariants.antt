-- The invariant: writing the picks of the constraints that are left gives what writing those of all gives; the list is the same one.
use Rattle.std.proofs.Common.{◌≡◌}
use Rattle.models.specs.Model.{constraints}
use Rattle.picking.proofs.Picks.{Filling}
use Rattle.filling.proofs.write_picks.Given as goal

abbrev pub invariant-loop-k : goal.invariant-loop-k
invariant-loop-k l = record {
  filling : Filling l.read.domains l.read.uses l.values (constraints l.read.ws.now) l.initial.output.at l.initial.output.list.now l.output.list.now l.k l.output.at l.encoded;
  same_list : l.output.list.ghost_name ≡ l.initial.output.list.ghost_name;
}
