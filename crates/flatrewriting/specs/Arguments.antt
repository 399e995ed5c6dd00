-- The arguments of a builtin with a code, made of FlatZinc's values by their sorts.
use Rattle.std.specs.Prelude.{List, [], ◌∷◌, ◌++◌, ◌+◌, ℤ, pos, length, eqb, get_or, Option, Some, None, option_and_then}
use Rattle.integers.specs.Choice.{◌if◌else◌}
use Rattle.integers.specs.Number.{+0}
use Rattle.integers.specs.Lists.{list_of}
use Rattle.integers.specs.Bounds.{◌to◌}
use Rattle.integers.specs.declared.Bounds.{Bounds}
use Rattle.integers.specs.Terms.{◌·◌}
use Rattle.models.specs.Table.{Sort, integer, boolean, number, exponent, numbers, set, integers, booleans, parallel, Takes, Code}
use Rattle.flatzinc.specs.declared.Atom.{Atom}
use Rattle.flatzinc.specs.declared.Atom.TheVariants.{Whole}
use Rattle.flatzinc.specs.declared.Product.{Product}
use Rattle.flatzinc.specs.declared.Argument.{Argument}
use Rattle.flatzinc.specs.declared.Argument.TheVariants.{One, Number, Numbers, Many, Sum}
use Rattle.flatzinc.specs.Calls.{At, atoms_in}
use Rattle.flatzinc.specs.Items.{Value, one, many, members, range, wholes, Placed, places_from}
use Rattle.flatrewriting.specs.Range.{short_values}

-- an argument without where it lies in memory
pub data Given : Type 0 where
  atom : (a : Atom) → Given
  whole : (n : ℤ) → Given
  list : (ns : List ℤ) → Given
  atoms : (as₁ : List Atom) → Given
  products : (ps : List Product) → Given

abbrev pub given : Argument → Given
given (One a) = atom a
given (Number n) = whole n
given (Numbers ns) = list ns.items
given (Many xs) = atoms xs.items
given (Sum ps) = products ps.items

-- ---- an argument of one value

unfoldable pub as_atom : Value → Option Given
as_atom (one a) = Some (atom a)
as_atom v = None

unfoldable pub as_whole : Value → Option Given
as_whole (one (Whole n)) = Some (whole n)
as_whole v = None

unfoldable pub as_exponent : Value → Option Given
as_exponent (one (Whole (pos k))) = Some (whole (pos k))
as_exponent v = None

unfoldable pub list_in : Value → Option (List Atom)
list_in (many xs) = Some xs
list_in v = None

abbrev pub as_atoms : Value → Option Given
as_atoms v = option_and_then (λ xs. Some (atoms xs)) (list_in v)

abbrev pub as_numbers : Value → Option Given
as_numbers v = option_and_then (λ xs. option_and_then (λ ns. Some (list ns)) (wholes xs)) (list_in v)

abbrev pub as_range : Bounds → Option Given
as_range B = option_and_then (λ ns. Some (list ns)) (short_values B)

unfoldable pub as_set : Value → Option Given
as_set (members S) = Some (list S)
as_set (range lo hi) = as_range (lo to hi)
as_set v = None

unfoldable pub given_by : Sort → Value → Option Given
given_by integer v = as_atom v
given_by boolean v = as_atom v
given_by number v = as_whole v
given_by exponent v = as_exponent v
given_by numbers v = as_numbers v
given_by set v = as_set v
given_by integers v = as_atoms v
given_by booleans v = as_atoms v
given_by parallel v = None

-- a sum, of two lists of one length
abbrev pub products_of : List ℤ → List Atom → List Product
products_of ns xs = list_of (λ k. record { coefficient = get_or ns k +0; atom = get_or xs k (Whole +0) }) (length xs)

abbrev pub summed : List ℤ → List Atom → Option Given
summed ns xs = Some (products (products_of ns xs)) if eqb (length ns) (length xs) else None

abbrev pub paired : Value → Value → Option Given
paired v w = option_and_then (λ cs. option_and_then (λ ns. option_and_then (λ xs. summed ns xs) (list_in w)) (wholes cs)) (list_in v)

-- the argument of a sort at the front of values, and the values after it
pub record Front : Type 0 where
  pub argument : Given
  pub rest : List Value

abbrev pub before : Option Given → List Value → Option Front
before o vs = option_and_then (λ g. Some (record { argument = g; rest = vs })) o

unfoldable pub front_pair : List Value → Option Front
front_pair [] = None
front_pair (v ∷ []) = None
front_pair (v ∷ w ∷ vs) = before (paired v w) vs

unfoldable pub front_one : Sort → List Value → Option Front
front_one s [] = None
front_one s (v ∷ vs) = before (given_by s v) vs

unfoldable pub front : Sort → List Value → Option Front
front integer vs = front_one integer vs
front boolean vs = front_one boolean vs
front number vs = front_one number vs
front exponent vs = front_one exponent vs
front numbers vs = front_one numbers vs
front set vs = front_one set vs
front integers vs = front_one integers vs
front booleans vs = front_one booleans vs
front parallel vs = front_pair vs

-- all arguments
unfoldable pub arguments : List Sort → List Value → Option (List Given)
arguments [] [] = Some []
arguments [] (v ∷ vs) = None
arguments (s ∷ ss) vs = option_and_then (λ f. option_and_then (λ gs. Some (f.argument ∷ gs)) (arguments ss f.rest)) (front s vs)

-- ---- the builtin of arguments, over the places of their atoms

unfoldable pub at_given : (s : Sort) → List Atom → Given → Option (At s)
at_given integer as₁ (atom a) = Some (record { argument = length as₁; atoms = as₁ ++ a ∷ [] })
at_given boolean as₁ (atom a) = Some (record { argument = length as₁; atoms = as₁ ++ a ∷ [] })
at_given number as₁ (whole n) = Some (record { argument = n; atoms = as₁ })
at_given exponent as₁ (whole (pos k)) = Some (record { argument = k; atoms = as₁ })
at_given numbers as₁ (list ns) = Some (record { argument = ns; atoms = as₁ })
at_given set as₁ (list ns) = Some (record { argument = ns; atoms = as₁ })
at_given integers as₁ (atoms xs) = Some (record { argument = places_from as₁ xs; atoms = as₁ ++ xs })
at_given booleans as₁ (atoms xs) = Some (record { argument = places_from as₁ xs; atoms = as₁ ++ xs })
at_given parallel as₁ (products ps) =
    Some (record { argument = list_of (λ k. (get_or ps k (record { coefficient = +0; atom = Whole +0 })).coefficient · (length as₁ + k)) (length ps); atoms = as₁ ++ atoms_in ps })
at_given s as₁ g = None

unfoldable pub placed_given : List Atom → (ss : List Sort) → Takes ss → List Given → Option Placed
placed_given as₁ [] b [] = Some (record { builtin = b; atoms = as₁ })
placed_given as₁ [] b (g ∷ gs) = None
placed_given as₁ (s ∷ ss) f [] = None
placed_given as₁ (s ∷ ss) f (g ∷ gs) = option_and_then (λ t. placed_given t.atoms ss (f t.argument) gs) (at_given s as₁ g)

abbrev pub placed_of : Code → List Given → Option Placed
placed_of c gs = placed_given [] c.sorts c.make gs
