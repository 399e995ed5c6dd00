-- What the code's lists stand for: calls as builtins, weighted variables as terms; and what is added to a model.
use Rattle.std.specs.Prelude.{◌≡◌, List, [], ◌∷◌, ◌++◌, map, ℕ, length, Option, Some}
use Rattle.integers.specs.Terms.{Term, ◌·◌}
use Rattle.integers.specs.declared.Bounds.{Bounds}
use Rattle.models.specs.Builtin.{Builtin}
use Rattle.models.specs.declared.code.Code.{Code}
use Rattle.flatzinc.specs.declared.Argument.{Argument}
use Rattle.flatzinc.specs.declared.Call.{Call}
use Rattle.flatzinc.specs.declared.Atom.TheVariants.{Variable}
use Rattle.flatzinc.specs.declared.Product.{Product}
use Rattle.flatzinc.specs.Numbers.{number_of, bounds_of}
use Rattle.flatzinc.specs.Seen.{row}
use Rattle.flatzinc.specs.Calls.{built_arguments, built_call}
use Rattle.flatsplitting.specs.Pieces.{Cutting}
use Rattle.flatsplitting.specs.declared.Parted.{Parted}
use Rattle.flatsplitting.specs.declared.Weighted.{Weighted}

abbrev pub built : List Call → List (Option Builtin)
built cs = map built_call cs

-- the builtin of a code and arguments
abbrev pub built_of : Code → List Argument → Option Builtin
built_of c gs = built_arguments (row c).sorts (row c).make gs

abbrev pub term : Weighted → Term ℕ
term w = w.coefficient · w.variable

abbrev pub product : Weighted → Product
product w = record { coefficient = w.coefficient; atom = Variable w.variable }

abbrev pub weighted : Product → Weighted
weighted p = record { coefficient = p.coefficient; variable = number_of p.atom }

abbrev pub product_term : Product → Term ℕ
product_term p = p.coefficient · number_of p.atom

abbrev pub bounds : Parted → List Bounds
bounds S = bounds_of S.variables.items

-- variables with these bounds are added, and calls of these builtins
pub record Adds (old new : Parted) (Ps : List Bounds) (os : List (Option Builtin)) : Type 0 where
  pub parts : bounds new ≡ bounds old ++ Ps
  pub calls : built new.calls.items ≡ built old.calls.items ++ os

-- the part of the first elements of a list is added, with the calls that define it
abbrev pub AddsPart : {A : Type 0} → Cutting A → Parted → Parted → List A → Type 0
AddsPart C old new first = Adds old new (C.part (bounds old) first ∷ []) (map Some (C.defining (length (bounds old)) first))
