-- The least and the largest of some numbers, step by step.
use Rattle.std.proofs.Common.{◌≡◌, refl, ap, ◌∙◌, List, ℕ, ◌+◌, ◌<◌, ◌≤◌, ℤ, add-one, length, get_or, drop, drop-cons, drop_of_length-le}
use Rattle.integers.specs.Number.{+0, min_z, max_z}
use Rattle.flatrewriting.specs.Variables.{lowest_from, highest_from}

pub lowest-at : (a : ℤ) (xs : List ℤ) (i : ℕ) → i < length xs → lowest_from a (drop i xs) ≡ lowest_from (min_z a (get_or xs i +0)) (drop (i + 1) xs)
unfolding lowest_from
lowest-at a xs i l = ap (lowest_from a) (drop-cons xs i +0 l) ∙ rw add-one refl

pub lowest-end : (a : ℤ) (xs : List ℤ) (i : ℕ) → length xs ≤ i → lowest_from a (drop i xs) ≡ a
unfolding lowest_from
lowest-end a xs i l = ap (lowest_from a) (drop_of_length-le xs l)

pub highest-at : (a : ℤ) (xs : List ℤ) (i : ℕ) → i < length xs → highest_from a (drop i xs) ≡ highest_from (max_z a (get_or xs i +0)) (drop (i + 1) xs)
unfolding highest_from
highest-at a xs i l = ap (highest_from a) (drop-cons xs i +0 l) ∙ rw add-one refl

pub highest-end : (a : ℤ) (xs : List ℤ) (i : ℕ) → length xs ≤ i → highest_from a (drop i xs) ≡ a
unfolding highest_from
highest-end a xs i l = ap (highest_from a) (drop_of_length-le xs l)
