use Rattle.std.proofs.Common.{◌≡◌, ◌++◌, drop}
use Rattle.flatzinc.specs.Calls.{atoms_in}
use Rattle.flatconstants.proofs.atoms.put_products.Given as goal

abbrev pub invariant-loop-product : goal.invariant-loop-product
invariant-loop-product l = l.atoms.items ++ atoms_in (drop l.product-index l.products) ≡ l.fn.atoms.items ++ atoms_in l.products
