-- Whether calls of variables are those of builtins, each variable of the type that its place asks.
use Rattle.std.specs.Prelude.{Bool, true, false, not, ◌&&◌, List, [], ◌∷◌, map, nat_lt, pos, length, get_or}
use Rattle.integers.specs.Number.{◌≟◌, +0, +1}
use Rattle.integers.specs.Lists.{all}
use Rattle.integers.specs.Bounds.{◌to◌}
use Rattle.models.specs.Table.{Sort, integer, boolean, number, exponent, numbers, set, integers, booleans, parallel}
use Rattle.flatzinc.specs.declared.Atom.{Atom}
use Rattle.flatzinc.specs.declared.Atom.TheVariants.{Whole, Truth, Variable}
use Rattle.flatzinc.specs.declared.ModelVariable.{ModelVariable}
use Rattle.flatzinc.specs.declared.Call.{Call}
use Rattle.flatzinc.specs.Seen.{row}
use Rattle.flatzinc.specs.Calls.{atoms_in}
use Rattle.flatrewriting.specs.Arguments.{Given, atom, whole, list, atoms, products, given}

-- a Boolean variable has the bounds 0 and 1
unfoldable pub fits_type : Bool → ModelVariable → Bool
fits_type true V = V.is_boolean && ((V.bounds.lower ≟ +0) && (V.bounds.upper ≟ +1))
fits_type false V = not V.is_boolean

abbrev pub no_variable : ModelVariable
no_variable = record { is_boolean = false; bounds = +0 to +0 }

module _ (Vs : List ModelVariable) where
  unfoldable pub is_typed : Bool → Atom → Bool
  is_typed t (Whole n) = false
  is_typed t (Truth b) = false
  is_typed t (Variable v) = nat_lt v (length Vs) && fits_type t (get_or Vs v no_variable)

  unfoldable pub given_typed : Sort → Given → Bool
  given_typed integer (atom a) = is_typed false a
  given_typed boolean (atom a) = is_typed true a
  given_typed number (whole n) = true
  given_typed exponent (whole (pos k)) = true
  given_typed numbers (list ns) = true
  given_typed set (list ns) = true
  given_typed integers (atoms xs) = all (is_typed false) xs
  given_typed booleans (atoms xs) = all (is_typed true) xs
  given_typed parallel (products ps) = all (is_typed false) (atoms_in ps)
  given_typed s g = false

  unfoldable pub givens_typed : List Sort → List Given → Bool
  givens_typed [] [] = true
  givens_typed [] (g ∷ gs) = false
  givens_typed (s ∷ ss) [] = false
  givens_typed (s ∷ ss) (g ∷ gs) = given_typed s g && givens_typed ss gs

  abbrev pub call_typed : Call → Bool
  call_typed c = givens_typed (row c.code).sorts (map given c.arguments.items)
