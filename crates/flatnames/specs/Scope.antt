-- What the names of a FlatZinc text stand for, and what its expressions stand for by them.
use Rattle.std.specs.Prelude.{List, [], ◌∷◌, ℕ, Option, Some, None, is_some, option_and_then}
use Rattle.std.specs.Str.{bytes_eq}
use Rattle.integers.specs.Choice.{◌if◌else◌}
use Rattle.integers.specs.Lists.{all}
use Rattle.flatzinc.specs.declared.Atom.{Atom}
use Rattle.flatzinc.specs.declared.Atom.TheVariants.{Whole, Truth, Variable}
use Rattle.flatzinc.specs.Items.{Value, one, many}
use Rattle.flatzinc.specs.Items as i
use Rattle.flatstatements.specs.Statement.{Literal, number, truth, name, float, Element, literal, members, range, Expression}
use Rattle.flatstatements.specs.Statement as s

-- a variable by its number, the value of a parameter or an array, what no builtin takes (floats, arrays of sets)
pub data Known : Type 0 where
  variable : (v : ℕ) → Known
  parameter : (value : Value) → Known
  other : Known

-- what each name stands for
abbrev pub Scope : Type 0
Scope = List ℕ → Option Known

abbrev pub nothing : Scope
nothing = λ q. None

-- a scope with one more name
abbrev pub with : Scope → List ℕ → Known → Scope
with S n k = λ q. Some k if bytes_eq n q else S q

-- what each element of a list gives; None where one gives nothing
unfoldable pub each : {A B : Type 0} → (A → Option B) → List A → Option (List B)
each f [] = Some []
each f (x ∷ xs) = option_and_then (λ y. option_and_then (λ ys. Some (y ∷ ys)) (each f xs)) (f x)

unfoldable pub atom_known : Known → Option Atom
atom_known (variable v) = Some (Variable v)
atom_known (parameter (one a)) = Some a
atom_known k = None

unfoldable pub value_known : Known → Option Value
value_known (variable v) = Some (one (Variable v))
value_known (parameter v) = Some v
value_known other = None

-- ---- expressions; None where a name is not declared

unfoldable pub literal_known : Scope → Literal → Option Known
literal_known S (number n) = Some (parameter (one (Whole n)))
literal_known S (truth b) = Some (parameter (one (Truth b)))
literal_known S (name q) = S q
literal_known S (float bs) = Some other

unfoldable pub element_known : Scope → Element → Option Known
element_known S (literal l) = literal_known S l
element_known S (members T) = Some (parameter (i.members T))
element_known S (range lo hi) = Some (parameter (i.range lo hi))

unfoldable pub atom_of : Scope → Element → Option Atom
atom_of S e = option_and_then atom_known (element_known S e)

abbrev pub atoms_of : Scope → List Element → Option (List Atom)
atoms_of S es = each (atom_of S) es

-- a list of atoms is a value, another list of known elements is none
unfoldable pub list_known : Scope → List Element → Option Known
list_known S es =
    elim (atoms_of S es) [
      | Some as₁ ↦ Some (parameter (many as₁))
      | None ↦ Some other if all (λ e. is_some (element_known S e)) es else None
    ]

unfoldable pub known : Scope → Expression → Option Known
known S (s.one e) = element_known S e
known S (s.many es) = list_known S es

-- ---- the arguments of a constraint

unfoldable pub argument : Scope → Expression → Option Value
argument S x = option_and_then value_known (known S x)

abbrev pub arguments : Scope → List Expression → Option (List Value)
arguments S xs = each (argument S) xs
