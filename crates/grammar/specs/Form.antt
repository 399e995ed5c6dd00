-- The arguments of each builtin in a text; 02, wish 8: "sort (number, variable, list, set) of arguments".
use Rattle.std.specs.Prelude.{Bool, true, false, ℕ, get_or}
use mathlib.Core.List.{List, [], ◌∷◌, map, flat_map}
use Prim.Native.Char.{code}
use Rattle.models.specs.Table as Table
use Rattle.models.specs.Table.{Sort, Code, codes}
use Rattle.tokens.specs.Token as Token

-- an argument in a text: there is none; one token of a sort; a list or set, with its opening bracket, the sort of an element, its closing bracket,
-- and whether it is the second of parallel lists
pub data Form : Type 0 where
  Missing : Form
  One : (sort : ℕ) → Form
  Many : (opening element closing : ℕ) (second : Bool) → Form

-- "lists in square brackets": of numbers or of names; whether it is the second of parallel lists
abbrev pub bracketed : ℕ → Bool → Form
bracketed element second = Many (code "[") element (code "]") second

-- an argument of the table of codes in a text: one, of parallel lists two; "sets in braces"
unfoldable pub in_text : Sort → List Form
in_text Table.integer = One Token.name ∷ []
in_text Table.boolean = One Token.name ∷ []
in_text Table.number = One Token.number ∷ []
in_text Table.exponent = One Token.number ∷ []
in_text Table.numbers = bracketed Token.number false ∷ []
in_text Table.set = Many (code "{") Token.number (code "}") false ∷ []
in_text Table.integers = bracketed Token.name false ∷ []
in_text Table.booleans = bracketed Token.name false ∷ []
in_text Table.parallel = bracketed Token.number false ∷ bracketed Token.name true ∷ []

-- the arguments of a code in a text, none for 0, which is no code; the k-th of them, counted from 0
unfoldable pub argument_forms : ℕ → List Form
argument_forms c = get_or ([] ∷ map (λ (row : Code). flat_map in_text row.sorts) codes) c []

unfoldable pub argument_form : ℕ → ℕ → Form
argument_form c k = get_or (argument_forms c) k Missing
