-- The tree of FlatZinc's items, and when a list of values satisfies it: the page to believe.
use Rattle.std.specs.Prelude.{◌≡◌, Bool, true, false, not, List, [], ◌∷◌, ◌++◌, ℕ, ◌+◌, ◌<◌, eqb, leb, ℤ, pos, length, get_or, Option, Some, None, IfSome, option_and_then}
use Rattle.std.specs.Int.Signed.{le_z, lt_z}
use Rattle.integers.specs.Choice.{◌if◌else◌}
use Rattle.integers.specs.Number.{◌≟◌, +0, +1}
use Rattle.integers.specs.Lists.{list_of, all, any}
use Rattle.integers.specs.Bounds.{◌to◌, bit, within, width, values}
use Rattle.integers.specs.Terms.{Valuation, ◌·◌, value}
use Rattle.words.specs.Limit as Limit
use Rattle.models.specs.Builtin.{Builtin}
use Rattle.models.specs.Meaning.{meaning, member, ◌iff◌}
use Rattle.models.specs.Table.{Sort, integer, boolean, number, exponent, numbers, set, integers, booleans, parallel, Argument, Takes, Code}
use Rattle.flatzinc.specs.declared.Atom.{Atom}
use Rattle.flatzinc.specs.declared.Atom.TheVariants.{Whole, Truth, Variable}

-- ---- the tree; parameters and arrays stand for their values

-- an argument: an atom, a list in brackets, a set in braces, a range
pub data Value : Type 0 where
  one : (a : Atom) → Value
  many : (as₁ : List Atom) → Value
  members : (S : List ℤ) → Value
  range : (lo hi : ℤ) → Value

-- bool, LO..HI, {N,..}
pub data Domain : Type 0 where
  bools : Domain
  between : (lo hi : ℤ) → Domain
  among : (S : List ℤ) → Domain

-- a variable, with the value that it is declared equal to
pub record Declared : Type 0 where
  pub domain : Domain
  pub given : Option Atom

-- a constraint: a builtin with a code, by its row in the table of codes, and its arguments; one of those without a code; set_in of a range
pub data Item : Type 0 where
  coded : (c : Code) (vs : List Value) → Item
  bool_eq bool_le bool_lt bool_unequal : (a b : Atom) → Item
  array_bool_or : (as₁ : List Atom) (r : Atom) → Item
  -- set_in(x, lo..hi), whose range may be long
  set_in_range : (x : Atom) (lo hi : ℤ) → Item

pub record FlatZinc : Type 0 where
  pub variables : List Declared
  pub constraints : List Item

-- ---- a builtin with a code, of arguments as FlatZinc has them: the builtin over the places of its atoms, and the atoms

pub record Placed : Type 0 where
  pub builtin : Builtin
  pub atoms : List Atom

-- an argument of a sort, taken from the front of the values, after the atoms that were placed before
pub record Taken (s : Sort) : Type 0 where
  pub argument : Argument s
  pub values : List Value
  pub atoms : List Atom

unfoldable pub wholes : List Atom → Option (List ℤ)
wholes [] = Some []
wholes (Whole n ∷ as₁) = option_and_then (λ ns. Some (n ∷ ns)) (wholes as₁)
wholes (Truth b ∷ as₁) = None
wholes (Variable v ∷ as₁) = None

abbrev pub places_from : List Atom → List Atom → List ℕ
places_from before xs = list_of (λ k. length before + k) (length xs)

unfoldable pub taken : (s : Sort) → List Atom → List Value → Option (Taken s)
taken integer as₁ (one a ∷ vs) = Some (record { argument = length as₁; values = vs; atoms = as₁ ++ a ∷ [] })
taken boolean as₁ (one a ∷ vs) = Some (record { argument = length as₁; values = vs; atoms = as₁ ++ a ∷ [] })
taken number as₁ (one (Whole n) ∷ vs) = Some (record { argument = n; values = vs; atoms = as₁ })
taken exponent as₁ (one (Whole (pos k)) ∷ vs) = Some (record { argument = k; values = vs; atoms = as₁ })
taken numbers as₁ (many xs ∷ vs) = option_and_then (λ ns. Some (record { argument = ns; values = vs; atoms = as₁ })) (wholes xs)
taken set as₁ (members S ∷ vs) = Some (record { argument = S; values = vs; atoms = as₁ })
taken set as₁ (range lo hi ∷ vs) = Some (record { argument = values (lo to hi); values = vs; atoms = as₁ }) if leb (width (lo to hi)) Limit.list_length else None
taken integers as₁ (many xs ∷ vs) = Some (record { argument = places_from as₁ xs; values = vs; atoms = as₁ ++ xs })
taken booleans as₁ (many xs ∷ vs) = Some (record { argument = places_from as₁ xs; values = vs; atoms = as₁ ++ xs })
taken parallel as₁ (many cs ∷ many xs ∷ vs) =
    option_and_then
    (λ ns.
    Some (record { argument = list_of (λ k. get_or ns k +0 · (length as₁ + k)) (length xs); values = vs; atoms = as₁ ++ xs }) if eqb (length ns) (length xs)
    else None)
    (wholes cs)
taken s as₁ vs = None

-- arguments that are no arguments of these sorts have no builtin; nor has a set of more numbers than a list may have
unfoldable pub placed_from : List Atom → (ss : List Sort) → Takes ss → List Value → Option Placed
placed_from as₁ [] b [] = Some (record { builtin = b; atoms = as₁ })
placed_from as₁ [] b (v ∷ vs) = None
placed_from as₁ (s ∷ ss) f vs = option_and_then (λ t. placed_from t.atoms ss (f t.argument) t.values) (taken s as₁ vs)

unfoldable pub placed : Code → List Value → Option Placed
placed c vs = placed_from [] c.sorts c.make vs

-- ---- when values make it true

unfoldable pub value_of : Valuation → Atom → ℤ
value_of σ (Whole n) = n
value_of σ (Truth b) = +1 if b else +0
value_of σ (Variable v) = σ v

-- an atom that is true
unfoldable pub is_true : Valuation → Atom → Bool
is_true σ a = value_of σ a ≟ +1

-- the builtin's meaning, of the values of the atoms at their places
unfoldable pub placed_true : Valuation → Placed → Bool
placed_true σ p = meaning (λ k. value_of σ (get_or p.atoms k (Whole +0))) p.builtin

unfoldable pub item_true : Valuation → Item → Bool
item_true σ (coded c vs) = elim (placed c vs) [ None ↦ false | Some p ↦ placed_true σ p ]
item_true σ (bool_eq a b) = value_of σ a ≟ value_of σ b
item_true σ (bool_le a b) = le_z (value_of σ a) (value_of σ b)
item_true σ (bool_lt a b) = lt_z (value_of σ a) (value_of σ b)
item_true σ (bool_unequal a b) = not (value_of σ a ≟ value_of σ b)
item_true σ (array_bool_or as₁ r) = is_true σ r iff any (is_true σ) as₁
item_true σ (set_in_range x lo hi) = within (lo to hi) (value_of σ x)

unfoldable pub in_domain : Domain → ℤ → Bool
in_domain bools x = within bit x
in_domain (between lo hi) x = within (lo to hi) x
in_domain (among S) x = member x S

abbrev pub undeclared : Declared
undeclared = record { domain = among []; given = None }

-- a value for each variable, in its domain, and the given one where one is given; and every constraint is true
pub record SatisfiesFlat (F : FlatZinc) (vs : List ℤ) : Type 0 where
  pub one_each : length vs ≡ length F.variables
  pub in_domains : (v : ℕ) → v < length F.variables → in_domain (get_or F.variables v undeclared).domain (value vs v) ≡ true
  pub as_given : (v : ℕ) → v < length F.variables → IfSome (get_or F.variables v undeclared).given (λ a. value vs v ≡ value_of (value vs) a)
  pub all_true : all (item_true (value vs)) F.constraints ≡ true
