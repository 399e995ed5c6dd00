-- An element of the list at place 1, by the place that `index_in` gives; tests of a list that is a map of another.
use Rattle.std.proofs.Common.{◌≡◌, refl, Bool, true, false, ◌&&◌, List, ℕ, ◌+◌, ◌-◌, ◌<◌, arith, leb, ℤ, pos, negsuc, length, get_or, leb-true, Some, None}
use Rattle.integers.specs.Choice.{◌if◌else◌}
use Rattle.integers.specs.Number.{◌≟◌, count, +0}
use Rattle.integers.specs.Lists.{list_of}
use Rattle.integers.proofs.Lists.{list_of-length}
use Rattle.integers.proofs.Places.{get_or-list_of, any-map, all_map}
use Rattle.models.specs.Meaning.{element}
use Rattle.builtins.specs.Coded.{index_in}

pub ruleset mapped = (any-map, all_map)

module _ (g : ℕ → ℤ) (n : ℕ) (z : ℤ) (c : ℤ) where
  abbrev list : List ℤ
  list = list_of (λ k. g (1 + 1 + k)) n

  -- the element's test, with the two tests of its place taken out
  tests : Bool → Bool → Bool
  tests a b = a && b && (get_or list (count z - 1) +0 ≟ c)

  by_count : element z list c ≡ tests (leb 1 (count z)) (leb (count z) n)
  unfolding element count tests
  by_count = rw (go z, list_of-length) refl
    where
      go : (z : ℤ) → element z list c ≡ (leb 1 (count z) && leb (count z) (length list) && (get_or list (count z - 1) +0 ≟ c))
      go (pos i) = refl
      go (negsuc i) = refl

  -- where the list has such a place, and where it has none
  pub inside : (k : ℕ) → index_in n z ≡ Some k → (g (1 + k) ≟ c) ≡ element z list c
  unfolding index_in tests
  inside k h = rw by_count (go (leb 1 (count z)) (leb (count z) n) refl refl h)
    where
      go : (a b : Bool) → leb 1 (count z) ≡ a → leb (count z) n ≡ b → (Some (count z) if a && b else None) ≡ Some k → (g (1 + k) ≟ c) ≡ tests a b
      go true true d e f =
          let i : count z ≡ k = cc in
          let l : count z - 1 < n = omega (arith, leb-true (count z) n e, leb-true 1 (count z) d) in
          let p : 1 + 1 + (count z - 1) ≡ 1 + k = omega (arith, leb-true 1 (count z) d) in
          rw (get_or-list_of, p)
      go true false d e f = cc
      go false b d e f = cc

  pub outside : index_in n z ≡ None → false ≡ element z list c
  unfolding index_in tests
  outside h = rw by_count (go (leb 1 (count z)) (leb (count z) n) h)
    where
      go : (a b : Bool) → (Some (count z) if a && b else None) ≡ None → false ≡ tests a b
      go true true f = cc
      go true false f = refl
      go false b f = refl
