-- Each solution stands once, and they rise: every list comes before all later ones, by the first place where they differ.
use Rattle.std.proofs.Common.{refl, inl, inr, Bool, true, false, List, [], ◌∷◌, ◌++◌, map, ℕ, zero, suc, ◌<◌, arith, ℤ, pos}
use mathlib.Core.List.{flat_map}
use Rattle.integers.specs.Choice.{◌if◌else◌}
use Rattle.integers.specs.Number.{◌⊕◌}
use Rattle.integers.specs.Lists.{list_of}
use Rattle.integers.specs.Bounds.{values}
use Rattle.integers.specs.declared.Bounds.{Bounds}
use Rattle.integers.proofs.Linear.{◌⊏◌, linear, arith_z, rep}
use Rattle.integers.proofs.Lists.{all_append, all-mapped, all_made, all-list_of}
use Rattle.integers.proofs.Tests.{All}
use Rattle.words.specs.Variables.{variables}
use Rattle.rules.specs.Shared.{keep}
use Rattle.solutions.specs.Lists.{begun, value_lists}
use Rattle.solutions.specs.Solutions.{every_true, solutions}
use Rattle.solutions.specs.AllSolutions.{Before}

abbrev pub Sorted : List (List ℤ) → Type 0
Sorted [] = Unit {0}
Sorted (x ∷ xs) = All (Before x) xs × Sorted xs

-- so no list stands twice
pub irreflexive : (vs : List ℤ) → ¬ Before vs vs
irreflexive [] h = h
irreflexive (v ∷ vs) (inl h) = omega arith_z
irreflexive (v ∷ vs) (inr h) = irreflexive vs h.1

Rising : List ℤ → Type 0
Rising [] = Unit {0}
Rising (v ∷ vs) = All (λ u. v ⊏ u) vs × Rising vs

sorted-append : (xs ys : List (List ℤ)) → Sorted xs → Sorted ys → All (λ x. All (Before x) ys) xs → Sorted (xs ++ ys)
sorted-append [] ys s t h = t
sorted-append (x ∷ xs) ys s t h = ((all_append (Before x) xs ys).1 (s.0, h.0), sorted-append xs ys s.1 t h.1)

sorted-begun : (v : ℤ) (xs : List (List ℤ)) → Sorted xs → Sorted (begun xs v)
unfolding begun
sorted-begun v [] s = tt
sorted-begun v (x ∷ xs) s = (all-mapped (λ vs. v ∷ vs) (Before x) (Before (v ∷ x)) (λ y h. inr (refl, h)) xs s.0, sorted-begun v xs s.1)

module _ (ls : List (List ℤ)) where
  -- what begins with v comes before what begins with a larger value
  above : (v : ℤ) (x : List ℤ) (us : List ℤ) → All (λ u. v ⊏ u) us → All (Before (v ∷ x)) (flat_map (begun ls) us)
  unfolding flat_map begun
  above v x [] h = tt
  above v x (u ∷ us) h =
      (all_append (Before (v ∷ x)) (map (λ vs. u ∷ vs) ls) _).1 (all_made (λ vs. u ∷ vs) (Before (v ∷ x)) (λ y. inl h.0) ls, above v x us h.1)

  sorted-flat : Sorted ls → (vs : List ℤ) → Rising vs → Sorted (flat_map (begun ls) vs)
  unfolding flat_map Rising begun
  sorted-flat s [] r = tt
  sorted-flat s (v ∷ vs) r =
      sorted-append (begun ls v) (flat_map (begun ls) vs) (sorted-begun v ls s) (sorted-flat s vs r.1)
      (all_made (λ x. v ∷ x) (λ x. All (Before x) (flat_map (begun ls) vs)) (λ x. above v x vs r.0) ls)

rising-list_of : (f : ℕ → ℤ) (n : ℕ) → ((j k : ℕ) → j < k → f j ⊏ f k) → Rising (list_of f n)
unfolding list_of Rising
rising-list_of f zero h = tt
rising-list_of f (suc n) h = (all-list_of (λ u. f 0 ⊏ u) (λ k. f (suc k)) n (λ k l. h 0 (suc k) (omega arith)), rising-list_of (λ k. f (suc k)) n (λ j k l. h (suc j) (suc k) (omega arith)))

higher : (l : ℤ) (j k : ℕ) → j < k → l ⊕ pos j ⊏ l ⊕ pos k
higher l j k = rw (rep l) (simp linear (omega arith))

pub sorted-lists : (Bs : List Bounds) → Sorted (value_lists Bs)
unfolding value_lists values
sorted-lists [] = (tt, tt)
sorted-lists (B ∷ Bs) = sorted-flat (value_lists Bs) (sorted-lists Bs) (values B) (rising-list_of (λ k. B.lower ⊕ pos k) _ (higher B.lower))

module _ {A : Type 0} (t : A → Bool) where
  all_keep : (P : A → Type 0) (xs : List A) → All P xs → All P (keep t xs)
  all_keep P [] h = tt
  all_keep P (x ∷ xs) h = go (t x) (all_keep P xs h.1)
    where
      go : (b : Bool) → All P (keep t xs) → All P (x ∷ keep t xs if b else keep t xs)
      go true k = (h.0, k)
      go false k = k

sorted-keep : (t : List ℤ → Bool) (xs : List (List ℤ)) → Sorted xs → Sorted (keep t xs)
sorted-keep t [] s = tt
sorted-keep t (x ∷ xs) s = go (t x) (sorted-keep t xs s.1)
  where
    go : (b : Bool) → Sorted (keep t xs) → Sorted (x ∷ keep t xs if b else keep t xs)
    go true k = (all_keep t (Before x) xs s.0, k)
    go false k = k

-- THE LAW
pub sorted-solutions : (ws : List ℕ) → Sorted (solutions ws)
unfolding solutions
sorted-solutions ws = sorted-keep (every_true ws) (value_lists (variables ws)) (sorted-lists (variables ws))
