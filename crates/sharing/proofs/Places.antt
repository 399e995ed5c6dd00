-- The places of a list inside bounds: how many there are, what holds at them, and the place of a value among those of its bounds.
use Rattle.std.proofs.Common.{List, ℕ, ◌≤◌, ◌<◌, arith, ℤ, length}
use Rattle.integers.specs.Number.{◌⊖◌, ◌⊕◌, count, +1}
use Rattle.integers.specs.Bounds.{◌to◌, width, values}
use Rattle.integers.specs.declared.Bounds.{Bounds}
use Rattle.integers.proofs.Linear.{◌⊑◌, linear}
use Rattle.integers.proofs.Lists.{all-members}
use Rattle.integers.proofs.Tests.{In, All}
use Rattle.rules.specs.Parts.{nth, places, members}
use Rattle.rules.proofs.Lengths.{values_length}
use Rattle.rules.proofs.Members.{members-member}
use Rattle.sharing.proofs.Elements.{nth-all, labels-place}

pub places-length : (I : Bounds) (n : ℕ) → length (values (places I n)) ≤ n
unfolding width places
places-length I n = rw (values_length (places I n)) (core I.lower I.upper n)
  where
    core : (l u : ℤ) (n : ℕ) → width (places (l to u) n) ≤ n
    core = simp linear (omega arith)

-- the place of a value among those of the bounds
pub value-place : (B : Bounds) (v : ℤ) → In B v → count (v ⊖ B.lower) < width B
unfolding width
value-place B v h = core B.lower B.upper v h.0 h.1
  where
    core : (l u v : ℤ) → l ⊑ v → v ⊑ u → count (v ⊖ l) < count (u ⊖ l ⊕ +1)
    core = simp linear (omega arith)

-- what holds of all elements holds of those at the places inside bounds
pub all-nth : {A : Type 0} (P : A → Type 0) (d : A) (xs : List A) (I : Bounds) → All P xs → All (λ j. P (nth d xs j)) (values (places I (length xs)))
all-nth P d xs I h = (all-members (λ j. P (nth d xs j)) (values (places I (length xs)))).1 (λ j m. nth-all P d xs j (labels-place I (length xs) j m) h)

pub members_in : (S : List ℤ) (B : Bounds) → All (In B) (members S B)
members_in S B = (all-members (In B) (members S B)).1 (λ v m. ((members-member S B v).0 m).0)
