-- The invariants: reading on from here finds what reading from the start finds, and the pass has judged what stands between; in a row, reading goes on at
-- the terms that are left, and the total is the sum of those before, each at most 2^54 from 0.
use Rattle.std.proofs.Common.{◌≡◌, ◌+◌, ◌-◌, ◌*◌, ◌≤◌, nat_abs, length, drop}
use Rattle.integers.specs.Terms.{value, sum}
use Rattle.rowsystems.specs.RowSystem.{terms_in}
use Rattle.rowsystems.specs.declared.Due.TheVariants.{Terms}
use Rattle.rowreading.specs.Item.{start_due}
use Rattle.rowreading.specs.Onward.{onward, Placed, StepsTo}
use Rattle.rowjudge.proofs.Judging.{Judging}
use Rattle.rowjudge.proofs.judge_on.Given as goal

abbrev pub invariant-items : goal.invariant-items
invariant-items l = record {
  placed : Placed l.ws l.at;
  reads : onward (start_due l.sources) l.n l.at l.ws ≡ onward (start_due l.first) l.before l.start l.ws;
  judging : Judging l.ws l.values l.before l.start l.k l.n l.rows l.said l.at;
}

abbrev pub decreases-items : goal.decreases-items
decreases-items l = length l.ws - l.at

abbrev pub invariant-loop-term : goal.invariant-loop-term
invariant-loop-term l = record {
  reads : StepsTo l.ws l.n (Terms l.terms) (l.at + 1) (Terms (l.terms - l.term)) (record { number = 0; at = l.at + 1 + 2 * l.term });
  total : l.total ≡ sum (value l.values) (terms_in (drop (l.at + 1) l.ws) l.term);
  size : nat_abs l.total ≤ l.term * 18014398509481984;
}
