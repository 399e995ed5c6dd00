-- The place that all variables of a constraint come from, where MiniZinc introduced them.
use Rattle.std.specs.Prelude.{Bool, ◌&&◌, List, [], ◌∷◌, eqb, get_or, Option, Some, None}
use Rattle.std.specs.Str.{bytes_eq}
use Rattle.integers.specs.Choice.{◌if◌else◌}
use Rattle.flatzinc.specs.declared.Atom.{Atom}
use Rattle.flatzinc.specs.declared.Atom.TheVariants.{Variable}
use Rattle.flatzinc.specs.Items.{Value, one, many, Item, coded, bool_eq, bool_le, bool_lt, bool_unequal, array_bool_or, set_in_range}
use Rattle.flatplaces.specs.Place.{Place}

-- the places of variables so far: of none, all the same, others or none
pub data Common : Type 0 where
  unseen apart : Common
  same : (p : Place) → Common

abbrev pub same_place : Place → Place → Bool
same_place p q = eqb p.line q.line && bytes_eq p.file q.file

-- with those of a variable more
abbrev pub with_place : Common → Option Place → Common
with_place unseen (Some p) = same p
with_place (same p) (Some q) = same p if same_place p q else apart
with_place c o = apart

-- a number or a Boolean has no place
abbrev pub with_atom : List (Option Place) → Common → Atom → Common
with_atom introduced c (Variable v) = with_place c (get_or introduced v None)
with_atom introduced c a = c

abbrev pub with_atoms : List (Option Place) → Common → List Atom → Common
with_atoms introduced c [] = c
with_atoms introduced c (a ∷ as₁) = with_atoms introduced (with_atom introduced c a) as₁

abbrev pub with_value : List (Option Place) → Common → Value → Common
with_value introduced c (one a) = with_atom introduced c a
with_value introduced c (many as₁) = with_atoms introduced c as₁
with_value introduced c v = c

abbrev pub with_values : List (Option Place) → Common → List Value → Common
with_values introduced c [] = c
with_values introduced c (v ∷ vs) = with_values introduced (with_value introduced c v) vs

abbrev pub with_item : List (Option Place) → Common → Item → Common
with_item introduced c (coded code vs) = with_values introduced c vs
with_item introduced c (bool_eq a b) = with_atom introduced (with_atom introduced c a) b
with_item introduced c (bool_le a b) = with_atom introduced (with_atom introduced c a) b
with_item introduced c (bool_lt a b) = with_atom introduced (with_atom introduced c a) b
with_item introduced c (bool_unequal a b) = with_atom introduced (with_atom introduced c a) b
with_item introduced c (array_bool_or as₁ r) = with_atom introduced (with_atoms introduced c as₁) r
with_item introduced c (set_in_range x lo hi) = with_atom introduced c x

abbrev pub place_in : Common → Option Place
place_in (same p) = Some p
place_in c = None

-- by the places of the introduced variables, none for the others
unfoldable pub common_place : List (Option Place) → Item → Option Place
common_place introduced i = place_in (with_item introduced unseen i)
