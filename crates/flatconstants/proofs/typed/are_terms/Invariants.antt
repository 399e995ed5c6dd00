use Rattle.std.proofs.Common.{◌≡◌, false, drop}
use Rattle.integers.specs.Lists.{all}
use Rattle.flatzinc.specs.Calls.{atoms_in}
use Rattle.flatconstants.specs.Typed.{is_typed}
use Rattle.flatconstants.proofs.typed.are_terms.Given as goal

abbrev pub invariant-loop-product : goal.invariant-loop-product
invariant-loop-product l = all (is_typed l.fn.variables false) (atoms_in (drop l.product-index l.products)) ≡ all (is_typed l.fn.variables false) (atoms_in l.products)
