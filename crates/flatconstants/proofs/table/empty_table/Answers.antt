use Rattle.std.proofs.Common.{◌∙◌, refl}
use Rattle.integers.specs.Lists.{any}
use Rattle.flatconstants.specs.Numbers.{found}
use Rattle.flatconstants.proofs.table.empty_table.Goals as goal

pub returns-clause-indexed : goal.returns-clause-indexed
unfolding found any
returns-clause-indexed c = record {
  wholes = λ n. c.no_places.ensures n ∙ rw c.new.ensures.items refl;
  no = rw c.new.ensures.items refl;
  yes = rw c.new.ensures.items refl;
}
