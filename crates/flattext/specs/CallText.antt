-- The text of a call's arguments.
use Rattle.std.specs.Prelude.{Bool, true, false, List, [], ◌∷◌, ◌++◌, ℕ, get_or, codes}
use Rattle.std.specs.Fmt.{signed_decimal}
use Rattle.integers.specs.Choice.{◌if◌else◌}
use Rattle.models.specs.declared.code.Code.{Code}
use Rattle.models.specs.declared.code.Code.TheVariants.{SetIn, SetInReif}
use Rattle.flatzinc.specs.declared.Atom.{Atom}
use Rattle.flatzinc.specs.declared.Atom.TheVariants.{Whole, Truth, Variable}
use Rattle.flatzinc.specs.declared.Product.{Product}
use Rattle.flatzinc.specs.declared.Argument.{Argument}
use Rattle.flatzinc.specs.declared.Argument.TheVariants.{One, Number, Numbers, Many, Sum}
use Rattle.flatzinc.specs.declared.Call.{Call}
use Rattle.flatplaces.specs.Label.{joined}
use Rattle.flattext.specs.Called.{Called, nameless}

-- the texts of a list's elements, with commas between them
abbrev pub more_by : {X : Type 0} → (X → List ℕ) → List X → List ℕ
more_by f [] = []
more_by f (x ∷ xs) = codes "," ++ (f x ++ more_by f xs)

abbrev pub joined_by : {X : Type 0} → (X → List ℕ) → List X → List ℕ
joined_by f [] = []
joined_by f (x ∷ xs) = f x ++ more_by f xs

-- a variable by its name
unfoldable pub atom_text : List Called → Atom → List ℕ
atom_text names (Whole n) = signed_decimal n
atom_text names (Truth b) = codes "true" if b else codes "false"
atom_text names (Variable v) = (get_or names v nameless).name

abbrev pub product_coefficient : Product → List ℕ
product_coefficient p = signed_decimal p.coefficient

abbrev pub product_atom : List Called → Product → List ℕ
product_atom names p = atom_text names p.atom

unfoldable pub takes_set : Code → Bool
takes_set SetIn = true
takes_set SetInReif = true
takes_set c = false

-- lists in square brackets, sets in braces, a sum as the list of its coefficients and that of its variables
unfoldable pub argument_text : List Called → Bool → Argument → List ℕ
argument_text names is_set (One a) = atom_text names a
argument_text names is_set (Number n) = signed_decimal n
argument_text names is_set (Numbers ns) = (codes "{" if is_set else codes "[") ++ joined ns.items ++ (codes "}" if is_set else codes "]")
argument_text names is_set (Many as₁) = codes "[" ++ joined_by (atom_text names) as₁.items ++ codes "]"
argument_text names is_set (Sum ps) = codes "[" ++ joined_by product_coefficient ps.items ++ codes "],[" ++ joined_by (product_atom names) ps.items ++ codes "]"

unfoldable pub arguments_text : List Called → Call → List ℕ
arguments_text names c = joined_by (argument_text names (takes_set c.code)) c.arguments.items
