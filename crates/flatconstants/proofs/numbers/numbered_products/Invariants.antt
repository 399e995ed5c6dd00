use Rattle.std.proofs.Common.{◌≡◌, ◌++◌, map, drop}
use Rattle.flatzinc.specs.declared.Atom.TheVariants.{Variable}
use Rattle.flatconstants.specs.Constants.{number_of}
use Rattle.flatconstants.proofs.numbers.numbered_products.Given as goal

abbrev pub invariant-loop-product : goal.invariant-loop-product
invariant-loop-product l = l.terms.items ++ map (λ p. record { coefficient = p.coefficient; atom = Variable (number_of l.fn.others l.fn.table.constants.items p.atom) }) (drop l.product-index l.products) ≡ map (λ p. record { coefficient = p.coefficient; atom = Variable (number_of l.fn.others l.fn.table.constants.items p.atom) }) l.products
