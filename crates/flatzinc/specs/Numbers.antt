-- The number of an atom that is a variable, and the bounds of a model's variables.
use Rattle.std.specs.Prelude.{Bool, true, false, List, map, ℕ}
use Rattle.integers.specs.Bounds.{bit}
use Rattle.integers.specs.declared.Bounds.{Bounds}
use Rattle.flatzinc.specs.declared.Atom.{Atom}
use Rattle.flatzinc.specs.declared.Atom.TheVariants.{Whole, Truth, Variable}
use Rattle.flatzinc.specs.declared.ModelVariable.{ModelVariable}

-- of an atom that is no variable 0
abbrev pub number_of : Atom → ℕ
number_of (Whole n) = 0
number_of (Truth b) = 0
number_of (Variable v) = v

abbrev pub variable_bounds : Bool → Bounds → Bounds
variable_bounds true B = bit
variable_bounds false B = B

abbrev pub limits : ModelVariable → Bounds
limits v = variable_bounds v.is_boolean v.bounds

abbrev pub bounds_of : List ModelVariable → List Bounds
bounds_of vs = map limits vs
