-- the text before, the numbers so far, and those that are still to come
use Rattle.std.proofs.Common.{◌≡◌, ◌++◌, drop, eqb}
use Rattle.integers.specs.Choice.{◌if◌else◌}
use Rattle.flatplaces.specs.Label.{joined, more}
use Rattle.flatplaces.proofs.labels.put_joined.Given as goal

abbrev pub invariant-loop-at : goal.invariant-loop-at
invariant-loop-at l = l.initial.out.items ++ joined l.numbers ≡ l.out.items ++ (joined (drop l.at l.numbers) if eqb l.at 0 else more (drop l.at l.numbers))
