-- Values of 32 bits, lists of values near 0, the first list by its places.
use Rattle.std.proofs.Common.{◌≡◌, refl, sym, ◌∙◌, List, [], ◌∷◌, ℕ, zero, suc, ◌+◌, ◌<◌, ◌≤◌, arith, ℤ, length, get_or, set, length-set, get_or-set_same, get_or-set_other, ext_get_or}
use native.Mathlib.Decide.{ℕ_discrete, dec_lt}
use lib.ListN.{get_or-eq_default}
use Rattle.integers.specs.Number.{+0}
use Rattle.integers.specs.Lists.{list_of}
use Rattle.integers.specs.Bounds.{◌to◌, bounds_in}
use Rattle.integers.specs.declared.Bounds.{Bounds}
use Rattle.integers.proofs.Lists.{list_of-length}
use Rattle.integers.proofs.Places.{get_or-list_of, map-list_of}
use Rattle.integers.proofs.Tests.{says-within}
use Rattle.words.specs.Small.{Near, Small}
use Rattle.words.proofs.ReadBack.{between-near}
use Rattle.solutions.specs.AllWithin.{AllWithin, lowest_list}
use Rattle.solutions.specs.Walk.{bounds_to, AllNear}

-- ---- the loop that sets the first list: the values before i are set
pub record Setting (Ds : List Bounds) (vs₀ vs : List ℤ) (i : ℕ) : Type 0 where
  pub same : length vs ≡ length vs₀
  pub done : (j : ℕ) → j < i → j < length vs₀ → get_or vs j +0 ≡ (bounds_in Ds j).lower

pub set-begun : (Ds : List Bounds) (vs : List ℤ) → Setting Ds vs vs 0
set-begun Ds vs = record { same = refl; done = λ j l m. absurd (omega arith) }

module _ {Ds : List Bounds} {vs₀ vs : List ℤ} {i : ℕ} (s : Setting Ds vs₀ vs i) where
  pub set_more : i < length vs → Setting Ds vs₀ (set vs i (bounds_in Ds i).lower) (i + 1)
  set_more l = record { same = length-set vs i (bounds_in Ds i).lower ∙ s.same; done = at }
    where
      one : (j : ℕ) → Dec (j ≡ i) → j < i + 1 → j < length vs₀ → get_or (set vs i (bounds_in Ds i).lower) j +0 ≡ (bounds_in Ds j).lower
      one j (yes e) h m = rw e (get_or-set_same vs i (bounds_in Ds i).lower +0 l)
      one j (no n) h m = get_or-set_other vs i j (bounds_in Ds i).lower +0 n ∙ s.done j (omega arith) m

      at : (j : ℕ) → j < i + 1 → j < length vs₀ → get_or (set vs i (bounds_in Ds i).lower) j +0 ≡ (bounds_in Ds j).lower
      at j h m = one j (ℕ_discrete j i) h m

  pub set-done : length vs ≤ i → vs ≡ lowest_list (bounds_to Ds (length vs₀))
  unfolding lowest_list
  set-done l =
      rw (map-list_of (λ B. B.lower) (bounds_in Ds) (length vs₀))
      (ext_get_or +0 vs (list_of (λ k. (bounds_in Ds k).lower) (length vs₀)) (s.same ∙ sym (list_of-length (λ k. (bounds_in Ds k).lower) (length vs₀)))
      (λ j h. s.done j (omega arith) (omega (arith, s.same)) ∙ sym (get_or-list_of (λ k. (bounds_in Ds k).lower) (length vs₀) j +0 (omega (arith, s.same)))))

-- ---- values inside bounds that are near 0 are near 0

inside-near : (Bs : List Bounds) (vs : List ℤ) → AllWithin Bs vs → AllNear Bs → (x : ℕ) → Near (get_or vs x +0)
unfolding bounds_in
inside-near [] [] h f x = omega arith
inside-near [] (v ∷ vs) h f x = absurd h
inside-near (B ∷ Bs) [] h f x = absurd h
inside-near (B ∷ Bs) (v ∷ vs) h f zero = let w = (says-within B v).0 h.0 in between-near B.lower v B.upper w.0 w.1 (f 0).0 (f 0).1
inside-near (B ∷ Bs) (v ∷ vs) h f (suc x) = inside-near Bs vs h.1 (λ y. f (suc y)) x

bounds-near : (Ds : List Bounds) → AllNear Ds → (n : ℕ) → AllNear (bounds_to Ds n)
unfolding bounds_in
bounds-near Ds near n x = go (dec_lt x n)
  where
    go : Dec (x < n) → Near (get_or (bounds_to Ds n) x (+0 to +0)).lower × Near (get_or (bounds_to Ds n) x (+0 to +0)).upper
    go (yes l) = rw (get_or-list_of (bounds_in Ds) n x (+0 to +0) l) (near x)
    go (no l) = let m : length (bounds_to Ds n) ≤ x = omega (arith, list_of-length (bounds_in Ds) n) in rw (get_or-eq_default (bounds_to Ds n) (+0 to +0) m) (omega arith, omega arith)

pub inside-small : (Ds : List Bounds) (vs : List ℤ) (n : ℕ) → AllNear Ds → AllWithin (bounds_to Ds n) vs → Small vs
inside-small Ds vs n near h = inside-near (bounds_to Ds n) vs h (bounds-near Ds near n)
