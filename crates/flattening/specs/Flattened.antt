-- FlatZinc carried over to a system of builtins: its variables in their order, then a variable for each constant, then the parts.
use Rattle.std.specs.Prelude.{◌≡◌, List, [], ◌∷◌, ◌++◌, map, ℕ, ◌+◌, ◌<◌, length, get_or, Option, Some, None, option_and_then}
use Rattle.flatzinc.specs.System.{System}
use Rattle.flatzinc.specs.declared.Atom.{Atom}
use Rattle.flatzinc.specs.declared.Atom.TheVariants.{Whole, Truth, Variable}
use Rattle.flatzinc.specs.Items.{Placed, Domain, bools, between, among, Declared, undeclared, Item, coded, bool_eq, bool_le, bool_lt, bool_unequal, array_bool_or, set_in_range, FlatZinc}
use Rattle.flatrewriting.specs.Rewritten.{rewritten}
use Rattle.flatrewriting.specs.Variables.{domain_bounds, all_items}
use Rattle.flatconstants.specs.Constants.{Prepared}
use Rattle.flatsplitting.specs.Split.{split_all}

-- ---- the variables from a number on, and the constraints

abbrev pub joined : Option (List Placed) → Option (List Placed) → Option (List Placed)
joined o p = option_and_then (λ qs. option_and_then (λ rs. Some (qs ++ rs)) p) o

unfoldable pub variable_items : ℕ → List Declared → Option (List Placed)
variable_items v [] = Some []
variable_items v (d ∷ ds) = joined (all_items v d) (variable_items (v + 1) ds)

unfoldable pub constraint_items : List Item → Option (List Placed)
constraint_items [] = Some []
constraint_items (i ∷ is₁) = joined (rewritten i) (constraint_items is₁)

unfoldable pub prepared : FlatZinc → Option Prepared
prepared F =
    option_and_then (λ qs. Some (record { bounds = map (λ d. domain_bounds d.domain) F.variables; items = qs }))
    (joined (variable_items 0 F.variables) (constraint_items F.constraints))

-- with parts; each list is cut at most so often
unfoldable pub with_parts : ℕ → System → System
with_parts f S = let T = split_all f S.bounds S.builtins in record { bounds = S.bounds ++ T.bounds; builtins = T.builtins }

-- ---- types: of the items without a code and of what a Boolean variable is equal to

abbrev pub IsBoolean : FlatZinc → ℕ → Type 0
IsBoolean F v = (v < length F.variables) × ((get_or F.variables v undeclared).domain ≡ bools)

abbrev pub BooleanAtom : FlatZinc → Atom → Type 0
BooleanAtom F (Whole n) = ⊥
BooleanAtom F (Truth b) = Unit {0}
BooleanAtom F (Variable v) = IsBoolean F v

abbrev pub EachBoolean : FlatZinc → List Atom → Type 0
EachBoolean F [] = Unit {0}
EachBoolean F (a ∷ as₁) = BooleanAtom F a × EachBoolean F as₁

abbrev pub ItemTyped : FlatZinc → Item → Type 0
ItemTyped F (coded c vs) = Unit {0}
ItemTyped F (bool_eq a b) = BooleanAtom F a × BooleanAtom F b
ItemTyped F (bool_le a b) = BooleanAtom F a × BooleanAtom F b
ItemTyped F (bool_lt a b) = BooleanAtom F a × BooleanAtom F b
ItemTyped F (bool_unequal a b) = BooleanAtom F a × BooleanAtom F b
ItemTyped F (array_bool_or as₁ r) = EachBoolean F as₁ × BooleanAtom F r
ItemTyped F (set_in_range x lo hi) = Unit {0}

abbrev pub EqualTyped : FlatZinc → Domain → Atom → Type 0
EqualTyped F bools a = BooleanAtom F a
EqualTyped F (between lo hi) a = Unit {0}
EqualTyped F (among S) a = Unit {0}

abbrev pub GivenTyped : FlatZinc → Domain → Option Atom → Type 0
GivenTyped F d None = Unit {0}
GivenTyped F d (Some a) = EqualTyped F d a
