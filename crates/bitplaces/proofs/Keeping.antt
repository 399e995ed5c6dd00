-- The walk over a row's numbers: the places passed that are kept.
use Rattle.std.proofs.Common.{◌≡◌, refl, sym, ◌∙◌, Bool, true, false, not, List, ℕ, ◌+◌, ◌<◌, ◌≤◌, arith, ℤ, length, get_or, set, length-set, get_or-set_same, get_or-set_other}
use native.Mathlib.Decide.{ℕ_discrete}
use Rattle.integers.specs.Choice.{◌if◌else◌}
use Rattle.integers.specs.Number.{+0}
use Rattle.bitplaces.specs.Places.{NotAt, PlacesFrom}

pub record Keeping (row : List ℤ) (from : ℕ) (places : List ℕ) (j k : ℕ) : Type 0 where
  pub place : (from ≤ j) × (j ≤ length row)
  pub few : k + from ≤ j
  pub room : length row ≤ length places
  pub rising : (y z : ℕ) → y < z → z < k → get_or places y 0 < get_or places z 0
  pub inside : (y : ℕ) → y < k → (from ≤ get_or places y 0) × (get_or places y 0 < j)
  pub zeros : (i : ℕ) → from ≤ i → i < j → NotAt places 0 k i → get_or row i +0 ≡ +0

pub keeping-begun : (row : List ℤ) (from : ℕ) (places : List ℕ) → from ≤ length row → length row ≤ length places → Keeping row from places from 0
keeping-begun row from places h r = record {
  place = (omega arith, h);
  few = omega arith;
  room = r;
  rising = λ y z a b. absurd (omega arith);
  inside = λ y a. absurd (omega arith);
  zeros = λ i a b n. absurd (omega arith);
}

module _ {row : List ℤ} {from : ℕ} {places : List ℕ} {j k : ℕ} (s : Keeping row from places j k) (h : j < length row) where
  here : get_or (set places k j) k 0 ≡ j
  here = let r = s.room in let f = s.few in get_or-set_same places k j 0 (omega arith)

  there : (y : ℕ) → y < k → get_or (set places k j) y 0 ≡ get_or places y 0
  there y l = get_or-set_other places k y j 0 (λ e. omega (arith, e, l))

  -- it is kept
  pub keeping-one : Keeping row from (set places k j) (j + 1) (k + 1)
  keeping-one = record {
    place = (omega (arith, s.place), omega arith);
    few = omega (arith, s.few);
    room = omega (arith, s.room, length-set places k j);
    rising = λ y z a b. up y z a (ℕ_discrete z k) b;
    inside = λ y a. within y (ℕ_discrete y k) a;
    zeros = λ i a b n. zero i a b n (ℕ_discrete i j);
  }
    where
      up : (y z : ℕ) → y < z → Dec (z ≡ k) → z < k + 1 → get_or (set places k j) y 0 < get_or (set places k j) z 0
      up y z a (yes e) b =
          let g : get_or (set places k j) z 0 ≡ j = rw e here in
          omega (arith, a, e, g, there y (omega arith), s.inside y (omega arith))
      up y z a (no n) b = omega (arith, there y (omega arith), there z (omega arith), s.rising y z a (omega arith))

      within : (y : ℕ) → Dec (y ≡ k) → y < k + 1 → (from ≤ get_or (set places k j) y 0) × (get_or (set places k j) y 0 < j + 1)
      within y (yes e) a = rw (e, here) (omega (arith, s.place), omega arith)
      within y (no n) a = let i = s.inside y (omega arith) in rw (there y (omega arith)) (omega (arith, i), omega (arith, i))

      zero : (i : ℕ) → from ≤ i → i < j + 1 → NotAt (set places k j) 0 (k + 1) i → Dec (i ≡ j) → get_or row i +0 ≡ +0
      zero i a b n (yes e) = absurd (n k (omega arith) (omega arith) (here ∙ sym e))
      zero i a b n (no f) = s.zeros i a (omega arith) (λ z l m e. n z l (omega arith) (there z m ∙ e))

  -- its number is 0
  pub keeping-none : get_or row j +0 ≡ +0 → Keeping row from (set places k j) (j + 1) k
  keeping-none o = record {
    place = (omega (arith, s.place), omega arith);
    few = omega (arith, s.few);
    room = omega (arith, s.room, length-set places k j);
    rising = λ y z a b. omega (arith, there y (omega arith), there z (omega arith), s.rising y z a b);
    inside = λ y a. let i = s.inside y a in rw (there y a) (omega (arith, i), omega (arith, i));
    zeros = λ i a b n. zero i a b n (ℕ_discrete i j);
  }
    where
      zero : (i : ℕ) → from ≤ i → i < j + 1 → NotAt (set places k j) 0 k i → Dec (i ≡ j) → get_or row i +0 ≡ +0
      zero i a b n (yes e) = rw e o
      zero i a b n (no f) = s.zeros i a (omega arith) (λ z l m e. n z l m (there z m ∙ e))

pub keeping-next : {row : List ℤ} {from : ℕ} {places : List ℕ} {j k : ℕ} (zero : Bool) → Keeping row from places j k → j < length row → (zero ≡ true → get_or row j +0 ≡ +0) →
    Keeping row from (set places k j) (j + 1) (k + (1 if not zero else 0))
keeping-next {k = k} true s h e = let z : k + 0 ≡ k = omega arith in rw z (keeping-none s h (e refl))
keeping-next false s h e = keeping-one s h

pub keeping-done : {row : List ℤ} {from : ℕ} {places : List ℕ} {j k : ℕ} → Keeping row from places j k → length row ≤ j → PlacesFrom row from places 0 k
keeping-done {row} {from} {places} {j} {k} s h = record {
  rising = λ y z a b c. s.rising y z b c;
  inside = λ y a b. let i = s.inside y b in (omega (arith, i), omega (arith, i, s.place));
  zeros = λ i a b n. s.zeros i a (omega arith) n;
}
