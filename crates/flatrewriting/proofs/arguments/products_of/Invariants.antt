use Rattle.std.proofs.Common.{◌≡◌, get_or}
use Rattle.integers.specs.Number.{+0}
use Rattle.integers.specs.Lists.{list_of}
use Rattle.flatzinc.specs.declared.Atom.TheVariants.{Whole}
use Rattle.flatrewriting.proofs.arguments.products_of.Given as goal

abbrev pub invariant-loop-k : goal.invariant-loop-k
invariant-loop-k l = l.products.items ≡ list_of (λ j. record { coefficient = get_or l.numbers j +0; atom = get_or l.atoms j (Whole +0) }) l.k
