-- The loop's invariant is `Encoding`: the bits of the variables passed are put.
use Rattle.integers.specs.Bounds.{bounds_in}
use Rattle.integers.specs.Terms.{value}
use Rattle.valuebits.proofs.Variables.{Encoding}
use Rattle.valuebits.proofs.put_variables.Given as goal

abbrev pub invariant-loop-v : goal.invariant-loop-v
invariant-loop-v l = Encoding (bounds_in l.domains) (value l.values.list.now) l.n l.initial.out l.out l.at l.v
