-- the text before, what is put so far, and what is still to come
use Rattle.std.proofs.Common.{◌≡◌, ◌++◌, drop, eqb}
use Rattle.integers.specs.Choice.{◌if◌else◌}
use Rattle.flattext.specs.CallText.{joined_by, more_by, product_coefficient}
use Rattle.flattext.proofs.arguments.put_coefficients.Given as goal

abbrev pub invariant-loop-at : goal.invariant-loop-at
invariant-loop-at l = l.initial.out.items ++ joined_by product_coefficient l.products ≡ l.out.items ++ (joined_by product_coefficient (drop l.at l.products) if eqb l.at 0 else more_by product_coefficient (drop l.at l.products))
