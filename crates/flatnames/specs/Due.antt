-- What is due in the places of a builtin's arguments, and which values fit there.
use Rattle.std.specs.Prelude.{Bool, true, false, not, ◌&&◌, List, [], ◌∷◌, ℕ, eqb, leb, ltb, ℤ, pos, length, get_or}
use Rattle.std.specs.Int.Signed.{le_z}
use Rattle.integers.specs.Number.{+0}
use Rattle.integers.specs.Lists.{all}
use Rattle.integers.specs.Bounds.{◌to◌, within, width}
use Rattle.words.specs.Limit as Limit
use Rattle.models.specs.Table.{Sort, parallel}
use Rattle.models.specs.Table as t
use Rattle.flatzinc.specs.declared.Atom.{Atom}
use Rattle.flatzinc.specs.declared.Atom.TheVariants.{Whole, Truth, Variable}
use Rattle.flatzinc.specs.Items.{Value, one, many, members, range, Domain, bools, between, among, Declared, undeclared}
use Rattle.flatzinc.specs.Items.{Item, coded, bool_eq, bool_le, bool_lt, bool_unequal, array_bool_or, set_in_range}

-- an atom of a type, a number, the exponent of a power, a set; lists of numbers and of atoms of a type; the same lists where they cannot be cut
pub data Due : Type 0 where
  integer boolean number exponent set : Due
  numbers integers booleans : Due
  short_numbers short_integers short_booleans : Due

-- ---- by the sorts of a code; only sums, array_bool_and, bool_clause and the extremes of a list are cut

unfoldable pub dues : List Sort → List Due
dues [] = []
dues (parallel ∷ ss) = numbers ∷ integers ∷ dues ss
dues (t.integer ∷ ss) = integer ∷ dues ss
dues (t.boolean ∷ ss) = boolean ∷ dues ss
dues (t.number ∷ ss) = number ∷ dues ss
dues (t.exponent ∷ ss) = exponent ∷ dues ss
dues (t.set ∷ ss) = set ∷ dues ss
dues (t.numbers ∷ ss) = short_numbers ∷ dues ss
dues (t.integers ∷ ss) = integers ∷ dues ss
dues (t.booleans ∷ ss) = booleans ∷ dues ss

unfoldable pub all_dues : List Sort → List Due
-- array_var_int_element, array_bool_xor
all_dues (t.integer ∷ t.integers ∷ t.integer ∷ []) = integer ∷ short_integers ∷ integer ∷ []
all_dues (t.booleans ∷ []) = short_booleans ∷ []
all_dues ss = dues ss

-- ---- what fits

unfoldable pub in_range : ℤ → Bool
in_range n = within Limit.range n

abbrev pub domain_in : List Declared → ℕ → Domain
domain_in ds v = (get_or ds v undeclared).domain

unfoldable pub is_bools : Domain → Bool
is_bools bools = true
is_bools (between lo hi) = false
is_bools (among S) = false

unfoldable pub is_boolean : List Declared → Atom → Bool
is_boolean ds (Whole n) = false
is_boolean ds (Truth b) = true
is_boolean ds (Variable v) = is_bools (domain_in ds v)

unfoldable pub is_integer : List Declared → Atom → Bool
is_integer ds (Whole n) = in_range n
is_integer ds (Truth b) = false
is_integer ds (Variable v) = not (is_bools (domain_in ds v))

unfoldable pub is_number : Atom → Bool
is_number (Whole n) = in_range n
is_number (Truth b) = false
is_number (Variable v) = false

-- at most 32
abbrev pub is_short : ℕ → Bool
is_short n = leb n Limit.list_length

unfoldable pub fits : List Declared → Due → Value → Bool
fits ds integer (one a) = is_integer ds a
fits ds boolean (one a) = is_boolean ds a
fits ds number (one a) = is_number a
fits ds exponent (one (Whole n)) = within (+0 to pos Limit.exponent) n
fits ds set (members S) = all in_range S && is_short (length S)
fits ds set (range lo hi) = in_range lo && in_range hi && is_short (width (lo to hi))
fits ds numbers (many as₁) = all is_number as₁
fits ds integers (many as₁) = all (is_integer ds) as₁
fits ds booleans (many as₁) = all (is_boolean ds) as₁
fits ds short_numbers (many as₁) = all is_number as₁ && is_short (length as₁)
fits ds short_integers (many as₁) = all (is_integer ds) as₁ && is_short (length as₁)
fits ds short_booleans (many as₁) = all (is_boolean ds) as₁ && is_short (length as₁)
fits ds d v = false

unfoldable pub each_fits : List Declared → List Due → List Value → Bool
each_fits ds [] [] = true
each_fits ds (d ∷ us) (v ∷ vs) = fits ds d v && each_fits ds us vs
each_fits ds us vs = false

-- the first two lists of a sum have one length
unfoldable pub same_lengths : List Due → List Value → Bool
same_lengths (numbers ∷ us) (many as₁ ∷ many bs ∷ vs) = eqb (length as₁) (length bs)
same_lengths us vs = true

unfoldable pub item_fits : List Declared → Item → Bool
item_fits ds (coded c vs) = each_fits ds (all_dues c.sorts) vs && same_lengths (all_dues c.sorts) vs
item_fits ds (bool_eq a b) = is_boolean ds a && is_boolean ds b
item_fits ds (bool_le a b) = is_boolean ds a && is_boolean ds b
item_fits ds (bool_lt a b) = is_boolean ds a && is_boolean ds b
item_fits ds (bool_unequal a b) = is_boolean ds a && is_boolean ds b
item_fits ds (array_bool_or as₁ r) = all (is_boolean ds) as₁ && is_boolean ds r
item_fits ds (set_in_range x lo hi) = is_integer ds x && in_range lo && in_range hi

-- ---- domains: neither empty nor beyond the range; a set of at most 32 numbers

unfoldable pub domain_fits : Domain → Bool
domain_fits bools = true
domain_fits (between lo hi) = le_z lo hi && in_range lo && in_range hi
domain_fits (among S) = ltb 0 (length S) && all in_range S && is_short (length S)

-- what a variable of a domain may be declared equal to
unfoldable pub given_fits : List Declared → Domain → Atom → Bool
given_fits ds bools a = is_boolean ds a
given_fits ds (between lo hi) a = is_integer ds a
given_fits ds (among S) a = is_integer ds a
