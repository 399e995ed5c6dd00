-- The builtin of a call: over the places of its atoms, and over the numbers of its variables where all its atoms are variables.
use Rattle.std.specs.Prelude.{List, [], ◌∷◌, ◌++◌, map, ℕ, ◌+◌, pos, length, get_or, Option, Some, None, option_and_then}
use Rattle.integers.specs.Number.{+0}
use Rattle.integers.specs.Lists.{list_of}
use Rattle.integers.specs.Terms.{Term, ◌·◌}
use Rattle.models.specs.Builtin.{Builtin}
use Rattle.models.specs.Table.{Sort, integer, boolean, number, exponent, numbers, set, integers, booleans, parallel, Takes}
use Rattle.models.specs.Table.{Argument as Of}
use Rattle.flatzinc.specs.declared.Atom.{Atom}
use Rattle.flatzinc.specs.declared.Atom.TheVariants.{Whole, Variable}
use Rattle.flatzinc.specs.Items.{Placed, places_from}
use Rattle.flatzinc.specs.Seen.{row}
use Rattle.flatzinc.specs.declared.Product.{Product}
use Rattle.flatzinc.specs.declared.Argument.{Argument}
use Rattle.flatzinc.specs.declared.Argument.TheVariants.{One, Number, Numbers, Many, Sum}
use Rattle.flatzinc.specs.declared.Call.{Call}

-- ---- over places

-- an argument of a sort, and its atoms after those that were placed before
pub record At (s : Sort) : Type 0 where
  pub argument : Of s
  pub atoms : List Atom

abbrev pub atoms_in : List Product → List Atom
atoms_in ps = map (λ (p : Product). p.atom) ps

unfoldable pub placed_argument : (s : Sort) → List Atom → Argument → Option (At s)
placed_argument integer as₁ (One a) = Some (record { argument = length as₁; atoms = as₁ ++ a ∷ [] })
placed_argument boolean as₁ (One a) = Some (record { argument = length as₁; atoms = as₁ ++ a ∷ [] })
placed_argument number as₁ (Number n) = Some (record { argument = n; atoms = as₁ })
placed_argument exponent as₁ (Number (pos k)) = Some (record { argument = k; atoms = as₁ })
placed_argument numbers as₁ (Numbers ns) = Some (record { argument = ns.items; atoms = as₁ })
placed_argument set as₁ (Numbers ns) = Some (record { argument = ns.items; atoms = as₁ })
placed_argument integers as₁ (Many xs) = Some (record { argument = places_from as₁ xs.items; atoms = as₁ ++ xs.items })
placed_argument booleans as₁ (Many xs) = Some (record { argument = places_from as₁ xs.items; atoms = as₁ ++ xs.items })
placed_argument parallel as₁ (Sum ps) =
    Some (record { argument = list_of (λ k. (get_or ps.items k (record { coefficient = +0; atom = Whole +0 })).coefficient · (length as₁ + k)) (length ps.items); atoms = as₁ ++ atoms_in ps.items })
placed_argument s as₁ g = None

unfoldable pub placed_arguments : List Atom → (ss : List Sort) → Takes ss → List Argument → Option Placed
placed_arguments as₁ [] b [] = Some (record { builtin = b; atoms = as₁ })
placed_arguments as₁ [] b (g ∷ gs) = None
placed_arguments as₁ (s ∷ ss) f [] = None
placed_arguments as₁ (s ∷ ss) f (g ∷ gs) = option_and_then (λ t. placed_arguments t.atoms ss (f t.argument) gs) (placed_argument s as₁ g)

unfoldable pub placed_call : Call → Option Placed
placed_call c = placed_arguments [] (row c.code).sorts (row c.code).make c.arguments.items

-- ---- over numbers

unfoldable pub numbers_of : List Atom → Option (List ℕ)
numbers_of [] = Some []
numbers_of (Variable v ∷ as₁) = option_and_then (λ vs. Some (v ∷ vs)) (numbers_of as₁)
numbers_of (a ∷ as₁) = None

unfoldable pub terms_of : List Product → Option (List (Term ℕ))
terms_of [] = Some []
terms_of (p ∷ ps) = option_and_then (λ vs. option_and_then (λ ts. Some (p.coefficient · get_or vs 0 0 ∷ ts)) (terms_of ps)) (numbers_of (p.atom ∷ []))

unfoldable pub built_argument : (s : Sort) → Argument → Option (Of s)
built_argument integer (One (Variable v)) = Some v
built_argument boolean (One (Variable v)) = Some v
built_argument number (Number n) = Some n
built_argument exponent (Number (pos k)) = Some k
built_argument numbers (Numbers ns) = Some ns.items
built_argument set (Numbers ns) = Some ns.items
built_argument integers (Many xs) = numbers_of xs.items
built_argument booleans (Many xs) = numbers_of xs.items
built_argument parallel (Sum ps) = terms_of ps.items
built_argument s g = None

unfoldable pub built_arguments : (ss : List Sort) → Takes ss → List Argument → Option Builtin
built_arguments [] b [] = Some b
built_arguments [] b (g ∷ gs) = None
built_arguments (s ∷ ss) f [] = None
built_arguments (s ∷ ss) f (g ∷ gs) = option_and_then (λ a. built_arguments ss (f a) gs) (built_argument s g)

unfoldable pub built_call : Call → Option Builtin
built_call c = built_arguments (row c.code).sorts (row c.code).make c.arguments.items

-- ---- of all calls

unfoldable pub placed_all : List Call → Option (List Placed)
placed_all [] = Some []
placed_all (c ∷ cs) = option_and_then (λ p. option_and_then (λ ps. Some (p ∷ ps)) (placed_all cs)) (placed_call c)

unfoldable pub built_all : List Call → Option (List Builtin)
built_all [] = Some []
built_all (c ∷ cs) = option_and_then (λ b. option_and_then (λ bs. Some (b ∷ bs)) (built_all cs)) (built_call c)
