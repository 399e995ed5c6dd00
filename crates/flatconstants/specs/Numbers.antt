-- The steps of the code: the atoms of calls, the place of a constant, arguments over the numbers of variables.
use Rattle.std.specs.Prelude.{Bool, true, false, List, nat_lt, [], ◌∷◌, ◌++◌, map, ℕ, pos, Option, Some, None, option_and_then}
use Rattle.integers.specs.Choice.{◌if◌else◌}
use Rattle.integers.specs.Number.{+0}
use Rattle.integers.specs.Lists.{any}
use Rattle.integers.specs.Bounds.{◌to◌, bit}
use Rattle.models.specs.Builtin.{Builtin, bool_clause}
use Rattle.models.specs.Table.{Sort, integer, boolean, number, exponent, numbers, set, integers, booleans, parallel, Takes}
use Rattle.models.specs.Table.{Argument as Of}
use Rattle.flatzinc.specs.declared.Atom.{Atom}
use Rattle.flatzinc.specs.declared.Atom.TheVariants.{Whole, Truth, Variable}
use Rattle.flatzinc.specs.declared.Product.{Product}
use Rattle.flatzinc.specs.declared.ModelVariable.{ModelVariable}
use Rattle.flatzinc.specs.declared.Call.{Call}
use Rattle.flatzinc.specs.Calls.{atoms_in, numbers_of, terms_of}
use Rattle.flatrewriting.specs.Arguments.{Given, atom, whole, list, atoms, products, given}
use Rattle.flatconstants.specs.Constants.{same_constant, index_of, known}

-- ---- the atoms of calls

abbrev pub given_atoms : Given → List Atom
given_atoms (atom a) = a ∷ []
given_atoms (whole n) = []
given_atoms (list ns) = []
given_atoms (atoms xs) = xs
given_atoms (products ps) = atoms_in ps

unfoldable pub givens_atoms : List Given → List Atom
givens_atoms [] = []
givens_atoms (g ∷ gs) = given_atoms g ++ givens_atoms gs

unfoldable pub calls_atoms : List Call → List Atom
calls_atoms [] = []
calls_atoms (c ∷ cs) = givens_atoms (map given c.arguments.items) ++ calls_atoms cs

-- a constant, or one of so many variables
unfoldable pub is_declared : ℕ → Atom → Bool
is_declared n (Whole m) = true
is_declared n (Truth b) = true
is_declared n (Variable v) = nat_lt v n

-- ---- the table

unfoldable pub found : List Atom → Atom → Option ℕ
found table a = Some (index_of a table) if any (same_constant a) table else None

abbrev pub with_constant : List Atom → Atom → List Atom
with_constant table a = table if known table a else table ++ a ∷ []

-- ---- over numbers

unfoldable pub over_numbers : (Atom → ℕ) → Given → Given
over_numbers ν (atom a) = atom (Variable (ν a))
over_numbers ν (whole n) = whole n
over_numbers ν (list ns) = list ns
over_numbers ν (atoms xs) = atoms (map (λ a. Variable (ν a)) xs)
over_numbers ν (products ps) = products (map (λ (p : Product). record { coefficient = p.coefficient; atom = Variable (ν p.atom) }) ps)

unfoldable pub built_given : (s : Sort) → Given → Option (Of s)
built_given integer (atom (Variable v)) = Some v
built_given boolean (atom (Variable v)) = Some v
built_given number (whole n) = Some n
built_given exponent (whole (pos k)) = Some k
built_given numbers (list ns) = Some ns
built_given set (list ns) = Some ns
built_given integers (atoms xs) = numbers_of xs
built_given booleans (atoms xs) = numbers_of xs
built_given parallel (products ps) = terms_of ps
built_given s g = None

unfoldable pub built_givens : (ss : List Sort) → Takes ss → List Given → Option Builtin
built_givens [] b [] = Some b
built_givens [] b (g ∷ gs) = None
built_givens (s ∷ ss) f [] = None
built_givens (s ∷ ss) f (g ∷ gs) = option_and_then (λ a. built_givens ss (f a) gs) (built_given s g)

abbrev pub and_built : Option (List Builtin) → List Builtin → Option (List Builtin)
and_built o bs = option_and_then (λ as₁. Some (as₁ ++ bs)) o

-- with the clause of these variables
abbrev pub built_with : Option (List Builtin) → List Atom → List Atom → Option (List Builtin)
built_with o xs ys = option_and_then (λ vs. option_and_then (λ ws. and_built o (bool_clause vs ws ∷ [])) (numbers_of ys)) (numbers_of xs)

unfoldable pub constant_variable : Atom → ModelVariable
constant_variable (Whole n) = record { is_boolean = false; bounds = n to n }
constant_variable (Truth b) = record { is_boolean = true; bounds = bit }
constant_variable (Variable v) = record { is_boolean = false; bounds = +0 to +0 }
