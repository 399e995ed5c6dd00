-- The model that a system is split into: its variables' bounds are those of the system and of the parts, its calls are built as the builtins of the split one.
use Rattle.std.specs.Prelude.{◌≡◌, List, ◌++◌, Some}
use Rattle.integers.specs.declared.Bounds.{Bounds}
use Rattle.models.specs.Builtin.{Builtin}
use Rattle.flatzinc.specs.Numbers.{bounds_of}
use Rattle.flatzinc.specs.Calls.{built_all}
use Rattle.flatsplitting.specs.declared.Parted.{Parted}
use Rattle.flatsplitting.specs.Split.{split_all, enough}

pub record IsSplit (Bs : List Bounds) (bs : List Builtin) (model : Parted) : Type 0 where
  pub bounds : bounds_of model.variables.items ≡ Bs ++ (split_all (enough bs) Bs bs).bounds
  pub builtins : built_all model.calls.items ≡ Some (split_all (enough bs) Bs bs).builtins
