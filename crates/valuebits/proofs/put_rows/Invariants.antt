-- The loop's invariant is `Walking`: the own bits of the rows passed are laid.
use Rattle.integers.specs.Bounds.{bounds_in}
use Rattle.integers.specs.Terms.{value}
use Rattle.valuebits.proofs.Rows.{Walking}
use Rattle.valuebits.proofs.put_rows.Given as goal

abbrev pub invariant-loop-at : goal.invariant-loop-at
invariant-loop-at l = Walking (bounds_in l.domains) (value l.values.list.now) l.ws l.initial.out l.out l.start l.to l.at
