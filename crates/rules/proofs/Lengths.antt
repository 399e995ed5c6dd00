-- The lengths of a rule's parts.
use Rattle.std.proofs.Common.{◌≡◌, refl, ap, List, [], ◌∷◌, ℕ, suc, ℤ, length}
use lib.ListN.{length-map}
use Rattle.integers.specs.Bounds.{width, values}
use Rattle.integers.specs.Terms.{Term}
use Rattle.integers.specs.declared.Bounds.{Bounds}
use Rattle.integers.proofs.Lists.{list_of-length}
use Rattle.rowsystems.specs.Row.{rename_terms}
use Rattle.rules.specs.Parts.{sources, each, bits, weighted}

pub sources-length : (ts : List (Term ℕ)) → length (sources ts) ≡ length ts
unfolding sources rename_terms
sources-length ts = length-map ts _

pub each-length : (c : ℤ) (vs : List ℕ) → length (each c vs) ≡ length vs
unfolding each
each-length c vs = length-map vs _

pub bits-length : {A : Type 0} (ls : List A) → length (bits ls) ≡ length ls
unfolding bits
bits-length ls = length-map ls _

pub weighted-length : {A : Type 0} (w : A → ℤ) (ls : List A) (k : ℕ) → length (weighted w ls k) ≡ length ls
unfolding weighted
weighted-length w [] k = refl
weighted-length w (l ∷ ls) k = ap suc (weighted-length w ls (suc k))

pub values_length : (B : Bounds) → length (values B) ≡ width B
unfolding values
values_length B = list_of-length _ (width B)
