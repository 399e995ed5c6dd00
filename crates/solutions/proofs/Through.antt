-- Going through the value lists: what was found and what the lists left will give are what all of them give.
use Rattle.std.proofs.Common.{◌≡◌, refl, sym, ap, ◌∙◌, ◌⊎◌, inl, inr, Bool, true, false, not, ◌&&◌, List, [], ◌∷◌, ℕ, ◌+◌, ◌*◌, ◌<◌, ◌≤◌, arith, ℤ, length}
use mathlib.Core.List.{flatten}
use Rattle.integers.specs.Choice.{◌if◌else◌}
use Rattle.integers.specs.Lists.{all}
use Rattle.integers.specs.declared.Bounds.{Bounds}
use Rattle.words.specs.Answer.{is_holds, is_false}
use Rattle.words.specs.Judge.{first_false}
use Rattle.words.specs.Overlay.{overlay}
use Rattle.words.proofs.Overlay.{overlay-append, overlay-none}
use Rattle.rules.specs.Shared.{keep}
use Rattle.solutions.specs.AllWithin.{AllWithin}
use Rattle.solutions.specs.Odometer.{is_last, next_list, lists_from}
use Rattle.solutions.proofs.Complete.{inside-says}
use Rattle.solutions.proofs.Odometer.{left, from_next, next-inside}

-- "holds" is said where all pass
pub holds-all : {A : Type 0} (t : A → Bool) (k : ℕ) (xs : List A) → is_holds (first_false t k xs) ≡ all t xs
unfolding first_false all is_holds
holds-all t k [] = refl
holds-all t k (x ∷ xs) = go (t x) (holds-all t (k + 1) xs)
  where
    go : (b : Bool) → is_holds (first_false t (k + 1) xs) ≡ all t xs → is_holds (first_false t (k + 1) xs if b else is_false k) ≡ (b && all t xs)
    go true e = e
    go false e = refl

-- ---- counting

module _ (t : List ℤ → Bool) (Bs : List Bounds) (vs₀ : List ℤ) where
  pub record Counting (vs : List ℤ) (count : ℕ) (more : Bool) : Type 0 where
    pub inside : AllWithin Bs vs
    pub found : count + length (keep t (left more Bs vs)) ≡ length (keep t (lists_from Bs vs₀))
    pub few : count + length (left more Bs vs) ≤ length (lists_from Bs vs₀)

  pub count-begun : AllWithin Bs vs₀ → Counting vs₀ 0 true
  count-begun h = record { inside = h; found = omega arith; few = omega arith }

  module _ {vs : List ℤ} {count : ℕ} (c : Counting vs count true) where
    -- a list is left
    pub some_left : count < length (lists_from Bs vs₀)
    some_left = omega (arith, c.few, ap length (from_next Bs vs c.inside))

    pub counts : t vs ≡ true → Counting (next_list Bs vs) (count + 1) (not (is_last Bs vs))
    counts h = record {
      inside = next-inside Bs vs c.inside;
      found = omega (arith, rw (from_next Bs vs c.inside, h) at c.found);
      few = omega (arith, rw (from_next Bs vs c.inside) at c.few);
    }

    pub passes : t vs ≡ false → Counting (next_list Bs vs) count (not (is_last Bs vs))
    passes h = record {
      inside = next-inside Bs vs c.inside;
      found = rw (from_next Bs vs c.inside, h) at c.found;
      few = omega (arith, rw (from_next Bs vs c.inside) at c.few);
    }

  pub counted : {vs : List ℤ} {count : ℕ} → Counting vs count false → count ≡ length (keep t (lists_from Bs vs₀))
  counted c = omega (arith, c.found)

  -- a turn of the loop: the count where the test is true, and the next list
  pub count_turn : {vs : List ℤ} {count : ℕ} {more : Bool} → Counting vs count more → more ≡ true → (count' : ℕ) →
      ((t vs ≡ true) × (count' ≡ count + 1)) ⊎ ((t vs ≡ false) × (count' ≡ count)) →
      (vs' : List ℤ) (more' : Bool) → vs' ≡ next_list Bs vs → more' ≡ not (is_last Bs vs) → Counting vs' count' more'
  count_turn {vs} {count} {more} c e count' (inl h) vs' more' f g = let d : Counting vs count true = rw e at c in rw (f, g, h.1) (counts d h.0)
  count_turn {vs} {count} {more} c e count' (inr h) vs' more' f g = let d : Counting vs count true = rw e at c in rw (f, g, h.1) (passes d h.0)

  pub count_room : {vs : List ℤ} {count : ℕ} {more : Bool} → Counting vs count more → more ≡ true → length (lists_from Bs vs₀) ≤ 65536 → count < 65536
  count_room {vs} {count} {more} c e l = let d : Counting vs count true = rw e at c in omega (arith, some_left d)

  pub count-done : {vs : List ℤ} {count : ℕ} {more : Bool} → Counting vs count more → more ≡ false → count ≡ length (keep t (lists_from Bs vs₀))
  count-done {vs} {count} {more} c e = let d : Counting vs count false = rw e at c in counted d

-- ---- writing: each list has at most 8 values

module _ (t : List ℤ → Bool) (Bs : List Bounds) (vs₀ out₀ : List ℤ) where
  pub record Listing (vs out : List ℤ) (at : ℕ) (more : Bool) : Type 0 where
    pub inside : AllWithin Bs vs
    pub short : length Bs ≤ 8
    pub room : at + 8 * length (left more Bs vs) ≤ 8 * length (lists_from Bs vs₀)
    pub laid : overlay out at (flatten (keep t (left more Bs vs))) ≡ overlay out₀ 0 (flatten (keep t (lists_from Bs vs₀)))

  pub list-begun : AllWithin Bs vs₀ → length Bs ≤ 8 → Listing vs₀ out₀ 0 true
  list-begun h l = record { inside = h; short = l; room = omega arith; laid = refl }

  pub listing-length : {vs out : List ℤ} {at : ℕ} {more : Bool} → Listing vs out at more → length vs ≡ length Bs
  listing-length {vs} c = (inside-says Bs vs c.inside).0

  module _ {vs out : List ℤ} {at : ℕ} (c : Listing vs out at true) where
    writes : t vs ≡ true → Listing (next_list Bs vs) (overlay out at vs) (at + length vs) (not (is_last Bs vs))
    unfolding flatten
    writes h = record {
      inside = next-inside Bs vs c.inside;
      short = c.short;
      room = omega (arith, rw (from_next Bs vs c.inside) at c.room, listing-length c, c.short);
      laid = overlay-append out at vs _ ∙ rw (from_next Bs vs c.inside, h) at c.laid;
    }

    skips : t vs ≡ false → Listing (next_list Bs vs) out at (not (is_last Bs vs))
    skips h = record {
      inside = next-inside Bs vs c.inside;
      short = c.short;
      room = omega (arith, rw (from_next Bs vs c.inside) at c.room);
      laid = rw (from_next Bs vs c.inside, h) at c.laid;
    }

    shorter : length (left (not (is_last Bs vs)) Bs (next_list Bs vs)) < length (lists_from Bs vs)
    shorter = omega (arith, ap length (from_next Bs vs c.inside))

    place : length (lists_from Bs vs₀) ≤ 65536 → at + length vs ≤ 524288
    place l = omega (arith, ap length (from_next Bs vs c.inside), c.room, listing-length c, c.short)

  pub list-turn : {vs out : List ℤ} {at : ℕ} {more : Bool} → Listing vs out at more → more ≡ true → (out' : List ℤ) (at' : ℕ) →
      ((t vs ≡ true) × ((out' ≡ overlay out at vs) × (at' ≡ at + length vs))) ⊎ ((t vs ≡ false) × ((out' ≡ out) × (at' ≡ at))) →
      (vs' : List ℤ) (more' : Bool) → vs' ≡ next_list Bs vs → more' ≡ not (is_last Bs vs) → Listing vs' out' at' more'
  list-turn {vs} {out} {at} {more} c e out' at' (inl h) vs' more' f g = let d : Listing vs out at true = rw e at c in rw (f, g, h.1.0, h.1.1) (writes d h.0)
  list-turn {vs} {out} {at} {more} c e out' at' (inr h) vs' more' f g = let d : Listing vs out at true = rw e at c in rw (f, g, h.1.0, h.1.1) (skips d h.0)

  pub list-less : {vs out : List ℤ} {at : ℕ} {more : Bool} → Listing vs out at more → more ≡ true → (vs' : List ℤ) (more' : Bool) →
      vs' ≡ next_list Bs vs → more' ≡ not (is_last Bs vs) → length (left more' Bs vs') < length (left more Bs vs)
  list-less {vs} {out} {at} {more} c e vs' more' f g = let d : Listing vs out at true = rw e at c in rw (f, g, e) (shorter d)

  pub list-place : {vs out : List ℤ} {at : ℕ} {more : Bool} → Listing vs out at more → more ≡ true → length (lists_from Bs vs₀) ≤ 65536 → at + length vs ≤ 524288
  list-place {vs} {out} {at} c e l = let d : Listing vs out at true = rw e at c in place d l

  pub list_done : {vs out : List ℤ} {at : ℕ} {more : Bool} → Listing vs out at more → more ≡ false → out ≡ overlay out₀ 0 (flatten (keep t (lists_from Bs vs₀)))
  unfolding flatten
  list_done {vs} {out} {at} c e = let d : Listing vs out at false = rw e at c in sym (overlay-none out at) ∙ d.laid
