-- The invariant: reading on from here finds what reading from the start finds, and n variables stand before; in a row, with so many terms left.
use Rattle.std.proofs.Common.{◌≡◌, ◌-◌, ◌≤◌, length}
use Rattle.rowreading.specs.Item.{start_due, due_with}
use Rattle.rowreading.specs.Onward.{onward, Placed}
use Rattle.rowreading.proofs.Counts.{CountedFrom}
use Rattle.rowreading.proofs.read_on.Given as goal

abbrev pub invariant-loop : goal.invariant-loop
invariant-loop l =
    record {
      placed : Placed l.ws l.at;
      count : CountedFrom l.ws l.before l.start l.n l.at;
      past : l.initial.at ≤ l.at;
      reads : onward (due_with l.item (l.end - l.counter)) l.n l.at l.ws ≡ onward (start_due l.first) l.before l.start l.ws;
    }

abbrev pub invariant-items : goal.invariant-items
invariant-items l =
    record {
      placed : Placed l.ws l.at;
      count : CountedFrom l.ws l.before l.start l.n l.at;
      reads : onward (start_due l.sources) l.n l.at l.ws ≡ onward (start_due l.first) l.before l.start l.ws;
    }

abbrev pub decreases-items : goal.decreases-items
decreases-items l = length l.ws - l.at
