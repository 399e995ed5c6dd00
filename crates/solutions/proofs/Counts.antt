-- The number of value lists, capped as it is worked out; and that it is how many there are.
use Rattle.std.proofs.Common.{◌≡◌, refl, ap, ◌∙◌, List, [], ◌∷◌, map, ℕ, zero, suc, min, ◌+◌, ◌*◌, ◌<◌, ◌≤◌, arith, add-one, ℤ, length, drop, length-append, drop_of_length-le, drop-cons}
use mathlib.Core.List.{flat_map}
use native.Mathlib.Omega.{min_cases}
use lib.ListN.{length-map}
use Rattle.integers.specs.Lists.{list_of}
use Rattle.integers.specs.Bounds.{width, values}
use Rattle.integers.specs.declared.Bounds.{Bounds}
use Rattle.integers.proofs.Lists.{list_of-length}
use Rattle.integers.proofs.Places.{get_or-list_of}
use Rattle.solutions.specs.Lists.{begun, value_lists, list_count}

-- ---- how many lists there are

flat-length : (ls : List (List ℤ)) (us : List ℤ) → length (flat_map (begun ls) us) ≡ length us * length ls
unfolding flat_map begun
flat-length ls [] = omega arith
flat-length ls (u ∷ us) = omega (arith, length-append (map (λ vs. u ∷ vs) ls) (flat_map (begun ls) us), length-map ls (λ vs. u ∷ vs), flat-length ls us)

pub count-is : (Bs : List Bounds) → length (value_lists Bs) ≡ list_count Bs
unfolding value_lists list_count values
count-is [] = refl
count-is (B ∷ Bs) = flat-length (value_lists Bs) (values B) ∙ rw (list_of-length, count-is Bs)

-- ---- capping a factor first changes nothing

cap : (a b : ℕ) → min (min a 65537 * b) 65537 ≡ min (a * b) 65537
cap a b = min_cases a 65537 (min (min a 65537 * b) 65537 ≡ min (a * b) 65537) (λ l e. rw e) (λ l e. rw e (above b l))
  where
    above : (b : ℕ) → 65537 ≤ a → min (65537 * b) 65537 ≡ min (a * b) 65537
    above zero l = omega arith
    above (suc b) l = omega arith

module _ (β : ℕ → Bounds) (n : ℕ) where
  pub bounds-then : (i : ℕ) → i < n → drop i (list_of β n) ≡ β i ∷ drop (i + 1) (list_of β n)
  bounds-then i l =
      rw add-one (drop-cons (list_of β n) i (β 0) (rw list_of-length l)) ∙ ap (λ B. B ∷ drop (i + 1) (list_of β n)) (get_or-list_of β n i (β 0) l)

  pub record Capping (count i : ℕ) : Type 0 where
    pub inside : i ≤ n
    pub small : count ≤ 65537
    pub same : min (count * list_count (drop i (list_of β n))) 65537 ≡ min (list_count (list_of β n)) 65537

  pub begun-count : Capping 1 0
  begun-count = record { inside = omega arith; small = omega arith; same = let e : 1 * list_count (list_of β n) ≡ list_count (list_of β n) = omega arith in rw e }

  module _ {count i : ℕ} (c : Capping count i) where
    pub more : i < n → (w r : ℕ) → w ≡ min (width (β i)) 65537 → r ≡ min (count * w) 65537 → Capping r (i + 1)
    unfolding list_count
    more l w r e f =
        record {
          inside = omega arith;
          small = omega arith;
          same = rw f (cap (count * w) R ∙ ap (λ (k : ℕ). min k 65537) turn ∙ rw e (cap (width (β i)) (count * R)) ∙ ap (λ (k : ℕ). min k 65537) back ∙ rest);
        }
      where
        R : ℕ
        R = list_count (drop (i + 1) (list_of β n))

        turn : count * w * R ≡ w * (count * R)
        turn = omega arith

        back : width (β i) * (count * R) ≡ count * (width (β i) * R)
        back = omega arith

        rest : min (count * (width (β i) * R)) 65537 ≡ min (list_count (list_of β n)) 65537
        rest = rw (bounds-then i l) at c.same

    pub done : n ≤ i → count ≡ min (list_count (list_of β n)) 65537
    unfolding list_count
    done l =
        let q : length (list_of β n) ≤ i = rw list_of-length l in
        let e : drop i (list_of β n) ≡ [] = drop_of_length-le (list_of β n) q in
        omega (arith, rw e at c.same, c.small)

pub capped_le : (n r : ℕ) → r ≡ min n 65537 → r ≤ 65537
capped_le n r e = omega arith
