-- Items as builtins with a code, placed of atoms: those without a code by clauses, clauses without constants, sums that have a shorter builtin.
use Rattle.std.specs.Prelude.{Bool, true, false, ◌&&◌, ◌||◌, List, [], ◌∷◌, ◌++◌, map, ℕ, ℤ, leb, get_or, Option, Some, None, option_and_then}
use Rattle.integers.specs.Choice.{◌if◌else◌}
use Rattle.integers.specs.Number.{◌≟◌, +0, +1, -1}
use Rattle.integers.specs.Lists.{any}
use Rattle.integers.specs.Bounds.{◌to◌, width, values}
use Rattle.integers.specs.Terms.{Term}
use Rattle.words.specs.Limit as Limit
use Rattle.models.specs.Table.{Code}
use Rattle.models.specs.Builtin.{Builtin, int_eq, int_le, int_lt, int_ne, int_le_reif, int_lt_reif, int_lin_eq, int_lin_le, int_lin_ne, int_lin_le_reif, bool_not, bool_clause, set_in}
use Rattle.flatzinc.specs.declared.Atom.{Atom}
use Rattle.flatzinc.specs.declared.Atom.TheVariants.{Whole, Truth}
use Rattle.flatzinc.specs.Items.{Value, Placed, places_from, placed, Item, coded, bool_eq, bool_le, bool_lt, bool_unequal, array_bool_or, set_in_range}
use Rattle.flatrewriting.specs.Arguments.{list_in}

-- ---- clauses of atoms, without constants

-- an atom that is the constant b; that is no Boolean constant
unfoldable pub is_constant : Bool → Atom → Bool
is_constant true (Truth true) = true
is_constant false (Truth false) = true
is_constant b a = false

unfoldable pub without : Bool → List Atom → List Atom
without b [] = []
without b (a ∷ as₁) = without b as₁ if is_constant b a else a ∷ without b as₁

abbrev pub clause_of : List Atom → List Atom → Placed
clause_of as₁ bs = record { builtin = bool_clause (places_from [] as₁) (places_from as₁ bs); atoms = as₁ ++ bs }

-- none where a constant makes it true
unfoldable pub clauses : List Atom → List Atom → List Placed
clauses as₁ bs = [] if any (is_constant true) as₁ || any (is_constant false) bs else clause_of (without false as₁) (without true bs) ∷ []

unfoldable pub each_clause : Atom → List Atom → List Placed
each_clause r [] = []
each_clause r (a ∷ as₁) = clauses (r ∷ []) (a ∷ []) ++ each_clause r as₁

-- ---- a builtin that says the same with fewer auxiliaries: sums of two by 1 and −1, of which the two variables, that by 1 first

unfoldable pub difference : List (Term ℕ) → Builtin → (ℕ → ℕ → Builtin) → Builtin
difference (s ∷ t ∷ []) b make =
    make s.variable t.variable if (s.coefficient ≟ +1) && (t.coefficient ≟ -1)
    else make t.variable s.variable if (s.coefficient ≟ -1) && (t.coefficient ≟ +1)
    else b
difference ts b make = b

unfoldable pub shorter : Builtin → Builtin
shorter (int_lin_eq ts c) = difference ts (int_lin_eq ts c) int_eq if c ≟ +0 else int_lin_eq ts c
shorter (int_lin_ne ts c) = difference ts (int_lin_ne ts c) int_ne if c ≟ +0 else int_lin_ne ts c
shorter (int_lin_le ts c) =
    difference ts (int_lin_le ts c) int_le if c ≟ +0
    else difference ts (int_lin_le ts c) int_lt if c ≟ -1
    else int_lin_le ts c
shorter (int_lin_le_reif ts c r) =
    difference ts (int_lin_le_reif ts c r) (λ a b. int_le_reif a b r) if c ≟ +0
    else difference ts (int_lin_le_reif ts c r) (λ a b. int_lt_reif a b r) if c ≟ -1
    else int_lin_le_reif ts c r
shorter b = b

-- ---- the items

-- the atoms at places
abbrev pub at_places : List Atom → List ℕ → List Atom
at_places as₁ ks = map (λ k. get_or as₁ k (Whole +0)) ks

unfoldable pub simplified_as : List Atom → Builtin → List Placed
simplified_as as₁ (bool_clause xs ys) = clauses (at_places as₁ xs) (at_places as₁ ys)
simplified_as as₁ b = record { builtin = b; atoms = as₁ } ∷ []

abbrev pub simplified : Placed → List Placed
simplified p = simplified_as p.atoms p.builtin

-- of two lists
unfoldable pub clause_by : List Value → Option (List Placed)
clause_by (v ∷ w ∷ []) = option_and_then (λ xs. option_and_then (λ ys. Some (clauses xs ys)) (list_in w)) (list_in v)
clause_by vs = None

-- an atom is one of some numbers; it lies between two
abbrev pub by_numbers : Atom → List ℤ → Option (List Placed)
by_numbers x S = Some (record { builtin = set_in 0 S; atoms = x ∷ [] } ∷ [])

abbrev pub by_ends : Atom → ℤ → ℤ → Option (List Placed)
by_ends x lo hi = Some (record { builtin = int_le 0 1; atoms = Whole lo ∷ x ∷ [] } ∷ record { builtin = int_le 0 1; atoms = x ∷ Whole hi ∷ [] } ∷ [])

-- a builtin with a code, as it is
abbrev pub plain : Code → List Value → Option (List Placed)
plain c vs = option_and_then (λ p. Some (p ∷ [])) (placed c vs)

unfoldable pub rewritten : Item → Option (List Placed)
rewritten (coded c vs) = option_and_then (λ p. Some (simplified p)) (placed c vs)
rewritten (bool_eq a b) = Some (clauses (a ∷ []) (b ∷ []) ++ clauses (b ∷ []) (a ∷ []))
rewritten (bool_le a b) = Some (clauses (b ∷ []) (a ∷ []))
rewritten (bool_lt a b) = Some (clauses (b ∷ []) [] ++ clauses [] (a ∷ []))
rewritten (bool_unequal a b) = Some (record { builtin = bool_not 0 1; atoms = a ∷ b ∷ [] } ∷ [])
rewritten (array_bool_or as₁ r) = Some (clauses as₁ (r ∷ []) ++ each_clause r as₁)
rewritten (set_in_range x lo hi) = by_numbers x (values (lo to hi)) if leb (width (lo to hi)) Limit.list_length else by_ends x lo hi
