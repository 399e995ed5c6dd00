-- The invariant: reading goes on at the terms that are left.
use Rattle.std.proofs.Common.{◌≡◌, ◌+◌, ◌-◌, ◌*◌}
use Rattle.rowsystems.specs.declared.Due.TheVariants.{Terms}
use Rattle.rowreading.specs.Onward.{StepsTo}
use Rattle.rowterms.proofs.see_cut.Given as goal

abbrev pub invariant-loop : goal.invariant-loop
invariant-loop l =
    record {
      place : l.at ≡ l.start + 2 * l.counter;
      reads : StepsTo l.ws l.n (Terms l.terms) l.start (Terms (l.terms - l.counter)) (record { number = 0; at = l.at });
    }
