-- The code's table has the place of each constant.
use Rattle.std.specs.Prelude.{◌≡◌, ℤ, true, false}
use Rattle.std.specs.Ordering.{int_cmp}
use Rattle.std.specs.BTreeMap as btree
use Rattle.flatzinc.specs.declared.Atom.TheVariants.{Whole, Truth}
use Rattle.flatconstants.specs.declared.table.Table.{Table}
use Rattle.flatconstants.specs.Numbers.{found}

pub record Indexed (t : Table) : Type 0 where
  pub wholes : (n : ℤ) → btree.get int_cmp t.wholes n ≡ found t.constants.items (Whole n)
  pub no : t.no ≡ found t.constants.items (Truth false)
  pub yes : t.yes ≡ found t.constants.items (Truth true)
