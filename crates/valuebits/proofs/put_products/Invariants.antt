-- The loop's invariant is `Crossing`: the products of the bits passed are laid.
use Rattle.valuebits.proofs.Products.{Crossing}
use Rattle.valuebits.proofs.put_products.Given as goal

abbrev pub invariant-loop-f : goal.invariant-loop-f
invariant-loop-f l = Crossing l.initial.out l.at l.fs l.gs l.out l.to l.f-index
