-- What is asked of one variable: its domain as bounds and set_in, and the value that it is declared equal to.
use Rattle.std.specs.Prelude.{List, [], ◌∷◌, ◌++◌, ℕ, ℤ, Option, Some, None, option_and_then}
use Rattle.integers.specs.Number.{min_z, max_z, +0}
use Rattle.integers.specs.Bounds.{◌to◌, bit}
use Rattle.integers.specs.declared.Bounds.{Bounds}
use Rattle.models.specs.Builtin.{int_eq, set_in}
use Rattle.flatzinc.specs.declared.Atom.{Atom}
use Rattle.flatzinc.specs.declared.Atom.TheVariants.{Variable}
use Rattle.flatzinc.specs.Items.{Placed, Domain, bools, between, among, Declared, bool_eq}
use Rattle.flatrewriting.specs.Rewritten.{rewritten}

-- ---- a domain as bounds, and set_in

unfoldable pub lowest_from : ℤ → List ℤ → ℤ
lowest_from a [] = a
lowest_from a (x ∷ xs) = lowest_from (min_z a x) xs

unfoldable pub highest_from : ℤ → List ℤ → ℤ
highest_from a [] = a
highest_from a (x ∷ xs) = highest_from (max_z a x) xs

-- the least and the largest of a set; of none, 0
unfoldable pub lowest : List ℤ → ℤ
lowest [] = +0
lowest (x ∷ xs) = lowest_from x xs

unfoldable pub highest : List ℤ → ℤ
highest [] = +0
highest (x ∷ xs) = highest_from x xs

unfoldable pub domain_bounds : Domain → Bounds
domain_bounds bools = bit
domain_bounds (between lo hi) = lo to hi
domain_bounds (among S) = lowest S to highest S

unfoldable pub domain_items : ℕ → Domain → List Placed
domain_items v (among S) = record { builtin = set_in 0 S; atoms = Variable v ∷ [] } ∷ []
domain_items v d = []

-- = value, of a Boolean variable and of another one
unfoldable pub equal_items : ℕ → Domain → Atom → Option (List Placed)
equal_items v bools a = rewritten (bool_eq (Variable v) a)
equal_items v d a = Some (record { builtin = int_eq 0 1; atoms = Variable v ∷ a ∷ [] } ∷ [])

unfoldable pub given_items : ℕ → Domain → Option Atom → Option (List Placed)
given_items v d None = Some []
given_items v d (Some a) = equal_items v d a

-- both
abbrev pub all_items : ℕ → Declared → Option (List Placed)
all_items v d = option_and_then (λ qs. Some (domain_items v d.domain ++ qs)) (given_items v d.domain d.given)
