-- Constants become variables of one value, after the variables that FlatZinc declares; so that what is placed of atoms is builtins over variables.
use Rattle.std.specs.Prelude.{Bool, true, false, List, [], ◌∷◌, ◌++◌, map, ℕ, suc, ◌+◌, length, get_or}
use Rattle.std.specs.Bool.{beq}
use Rattle.integers.specs.Choice.{◌if◌else◌}
use Rattle.integers.specs.Number.{◌≟◌, +0}
use Rattle.integers.specs.Lists.{any}
use Rattle.integers.specs.Bounds.{◌to◌, bit}
use Rattle.integers.specs.declared.Bounds.{Bounds}
use Rattle.models.specs.Builtin.{Builtin, bool_clause}
use Rattle.flatzinc.specs.System.{System}
use Rattle.flatzinc.specs.declared.Atom.{Atom}
use Rattle.flatzinc.specs.declared.Atom.TheVariants.{Whole, Truth, Variable}
use Rattle.flatzinc.specs.Items.{Placed}
use Rattle.flatconstants.specs.Renamed.{renamed}

-- variables with their bounds, and builtins of atoms
pub record Prepared : Type 0 where
  pub bounds : List Bounds
  pub items : List Placed

-- two constants are the same; a variable is none
unfoldable pub same_constant : Atom → Atom → Bool
same_constant (Whole m) (Whole n) = m ≟ n
same_constant (Truth a) (Truth b) = beq a b
same_constant a b = false

-- the place of a constant in a table, its length where it is not there
unfoldable pub index_of : Atom → List Atom → ℕ
index_of a [] = 0
index_of a (b ∷ bs) = 0 if same_constant a b else suc (index_of a bs)

-- the number of an atom's variable, where so many are declared
unfoldable pub number_of : ℕ → List Atom → Atom → ℕ
number_of n table (Whole m) = n + index_of (Whole m) table
number_of n table (Truth b) = n + index_of (Truth b) table
number_of n table (Variable v) = v

-- a whole number by its bounds, a Boolean by a clause
unfoldable pub constant_bounds : Atom → Bounds
constant_bounds (Whole n) = n to n
constant_bounds (Truth b) = bit
constant_bounds (Variable v) = +0 to +0

unfoldable pub constant_clauses : ℕ → Atom → List Builtin
constant_clauses v (Whole n) = []
constant_clauses v (Truth true) = bool_clause (v ∷ []) [] ∷ []
constant_clauses v (Truth false) = bool_clause [] (v ∷ []) ∷ []
constant_clauses v (Variable w) = []

unfoldable pub clauses_from : ℕ → List Atom → List Builtin
clauses_from v [] = []
clauses_from v (a ∷ as₁) = constant_clauses v a ++ clauses_from (v + 1) as₁

unfoldable pub with_numbers : ℕ → List Atom → Placed → Builtin
with_numbers n table p = renamed (λ k. number_of n table (get_or p.atoms k (Whole +0))) p.builtin

-- with the constants of a table
unfoldable pub with_constants : List Atom → Prepared → System
with_constants table P =
    let n = length P.bounds in
    record { bounds = P.bounds ++ map constant_bounds table; builtins = clauses_from n table ++ map (with_numbers n table) P.items }

-- ---- the table: each constant once, as they come

unfoldable pub known : List Atom → Atom → Bool
known table (Whole n) = any (same_constant (Whole n)) table
known table (Truth b) = any (same_constant (Truth b)) table
known table (Variable v) = true

unfoldable pub collected : List Atom → List Atom → List Atom
collected table [] = table
collected table (a ∷ as₁) = collected (table if known table a else table ++ a ∷ []) as₁

unfoldable pub atoms_of : List Placed → List Atom
atoms_of [] = []
atoms_of (p ∷ ps) = p.atoms ++ atoms_of ps

unfoldable pub constants : List Placed → List Atom
constants ps = collected [] (atoms_of ps)
