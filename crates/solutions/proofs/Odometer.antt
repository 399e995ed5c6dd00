-- The lists from a list on: that list, then those from the next one on; from the first list on they are all.
use Rattle.std.proofs.Common.{◌≡◌, refl, ap, Bool, true, false, not, ◌&&◌, List, [], ◌∷◌, ◌++◌, arith, ℤ}
use mathlib.Core.List.{flat_map}
use lib.Signed.{lt_z}
use borrow.Author.Tests.{not-true}
use Rattle.integers.specs.Choice.{◌if◌else◌}
use Rattle.integers.specs.Number.{◌⊕◌, +1}
use Rattle.integers.specs.Bounds.{◌to◌, within, values}
use Rattle.integers.specs.declared.Bounds.{Bounds}
use Rattle.integers.proofs.Linear.{◌⊑◌, ◌⊏◌, linear}
use Rattle.integers.proofs.Tests.{says-lt, says-within, not-below}
use Rattle.integers.proofs.Booleans.{both_true}
use Rattle.rules.proofs.Members.{values-empty, values_first_one}
use Rattle.solutions.specs.Lists.{begun, value_lists}
use Rattle.solutions.specs.AllWithin.{AllWithin, lowest_list}
use Rattle.solutions.specs.Odometer.{is_last, turned, next_list, lists_from}

-- ---- tests

below : (v u : ℤ) → lt_z v u ≡ true → v ⊕ +1 ⊑ u
below v u e = at v u ((says-lt v u).0 e)
  where
    at : (v u : ℤ) → v ⊏ u → v ⊕ +1 ⊑ u
    at = simp linear (omega arith)

past : (v u : ℤ) → lt_z v u ≡ false → u ⊏ v ⊕ +1
past v u e = at v u (not-below v u e)
  where
    at : (v u : ℤ) → u ⊑ v → u ⊏ v ⊕ +1
    at = simp linear (omega arith)

ordered : (B : Bounds) (v : ℤ) → within B v ≡ true → B.lower ⊑ B.upper
ordered B v h = at B.lower v B.upper ((says-within B v).0 h)
  where
    at : (l v u : ℤ) → (l ⊑ v) × (v ⊑ u) → l ⊑ u
    at = simp linear (omega arith)

-- ---- the first list

pub from_lowest : (Bs : List Bounds) (vs : List ℤ) → AllWithin Bs vs → lists_from Bs (lowest_list Bs) ≡ value_lists Bs
unfolding lists_from value_lists lowest_list flat_map
from_lowest [] [] h = refl
from_lowest [] (v ∷ vs) h = refl
from_lowest (B ∷ Bs) [] h = absurd h
from_lowest (B ∷ Bs) (v ∷ vs) h =
    rw (from_lowest Bs vs h.1, values_first_one B.lower B.upper (ordered B v h.0))

-- after the last list comes the first
next-lowest : (Bs : List Bounds) (vs : List ℤ) → AllWithin Bs vs → is_last Bs vs ≡ true → next_list Bs vs ≡ lowest_list Bs
unfolding is_last next_list turned lowest_list
next-lowest [] vs h e = refl
next-lowest (B ∷ Bs) [] h e = absurd h
next-lowest (B ∷ Bs) (v ∷ vs) h e =
    let f = both_true (is_last Bs vs) _ e in
    rw (f.0, not-true (lt_z v B.upper) f.1) (ap (λ l. B.lower ∷ l) (next-lowest Bs vs h.1 f.0))

-- ---- THE LAW: that list, then those from the next one on
abbrev pub left : Bool → List Bounds → List ℤ → List (List ℤ)
left more Bs vs = lists_from Bs vs if more else []

pub from_next : (Bs : List Bounds) (vs : List ℤ) → AllWithin Bs vs → lists_from Bs vs ≡ vs ∷ left (not (is_last Bs vs)) Bs (next_list Bs vs)
unfolding lists_from is_last next_list begun turned flat_map
from_next [] [] h = refl
from_next [] (v ∷ vs) h = absurd h
from_next (B ∷ Bs) [] h = absurd h
from_next (B ∷ Bs) (v ∷ vs) h = go (is_last Bs vs) refl (lt_z v B.upper) refl (from_next Bs vs h.1)
  where
    go : (l : Bool) → is_last Bs vs ≡ l → (t : Bool) → lt_z v B.upper ≡ t → lists_from Bs vs ≡ vs ∷ left (not l) Bs (next_list Bs vs) →
        begun (lists_from Bs vs) v ++ flat_map (begun (value_lists Bs)) (values (v ⊕ +1 to B.upper))
        ≡ (v ∷ vs) ∷ (begun (lists_from Bs (next_list Bs vs)) (turned B v if l else v) ++ flat_map (begun (value_lists Bs)) (values ((turned B v if l else v) ⊕ +1 to B.upper)) if not (l && not t) else [])
    go false e t f r = rw r
    go true e true f r =
        rw (r, f, next-lowest Bs vs h.1 e, from_lowest Bs vs h.1, values_first_one (v ⊕ +1) B.upper (below v B.upper f))
    go true e false f r = rw (r, values-empty (v ⊕ +1) B.upper (past v B.upper f))

pub next-inside : (Bs : List Bounds) (vs : List ℤ) → AllWithin Bs vs → AllWithin Bs (next_list Bs vs)
unfolding next_list turned
next-inside [] vs h = tt
next-inside (B ∷ Bs) [] h = absurd h
next-inside (B ∷ Bs) (v ∷ vs) h = (go (is_last Bs vs) (lt_z v B.upper) refl, next-inside Bs vs h.1)
  where
    at-lower : (l v u : ℤ) → (l ⊑ v) × (v ⊑ u) → (l ⊑ l) × (l ⊑ u)
    at-lower = simp linear (omega arith)

    one_up : (l v u : ℤ) → (l ⊑ v) × (v ⊑ u) → v ⊕ +1 ⊑ u → (l ⊑ v ⊕ +1) × (v ⊕ +1 ⊑ u)
    one_up = simp linear (omega arith)

    go : (l t : Bool) → lt_z v B.upper ≡ t → within B (turned B v if l else v) ≡ true
    go false t e = h.0
    go true true e = rw e ((says-within B (v ⊕ +1)).1 (one_up B.lower v B.upper ((says-within B v).0 h.0) (below v B.upper e)))
    go true false e = rw e ((says-within B B.lower).1 (at-lower B.lower v B.upper ((says-within B v).0 h.0)))
