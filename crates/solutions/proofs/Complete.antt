-- The solutions are exactly the lists that satisfy the model: one value for each variable, each within its bounds, every builtin true.
use Rattle.std.proofs.Common.{◌≡◌, refl, sym, ap, ◌⊎◌, inl, inr, ◌↔◌, true, List, [], ◌∷◌, ◌++◌, map, ℕ, zero, suc, ◌<◌, arith, ℤ, length}
use mathlib.Core.List.{flat_map}
use Rattle.integers.specs.Bounds.{within, bounds_in, values}
use Rattle.integers.specs.Terms.{value}
use Rattle.integers.specs.declared.Bounds.{Bounds}
use Rattle.integers.proofs.Tests.{Any, Member, says-within}
use Rattle.words.specs.Variables.{variables}
use Rattle.sharing.specs.SharedSolutions.{SatisfiesModel}
use Rattle.rules.proofs.Members.{values-member, keep-member}
use Rattle.solutions.specs.Lists.{begun, value_lists}
use Rattle.solutions.specs.AllWithin.{AllWithin}
use Rattle.solutions.specs.Solutions.{every_true, solutions}

-- ---- members of lists

module _ {A : Type 0} (P : A → Type 0) where
  any_left : (xs ys : List A) → Any P xs → Any P (xs ++ ys)
  any_left [] ys x' = elim x' [ ]
  any_left (x ∷ xs) ys (inl h) = inl h
  any_left (x ∷ xs) ys (inr h) = inr (any_left xs ys h)

  any-right : (xs ys : List A) → Any P ys → Any P (xs ++ ys)
  any-right [] ys h = h
  any-right (x ∷ xs) ys h = inr (any-right xs ys h)

  any-cases : (xs ys : List A) → Any P (xs ++ ys) → Any P xs ⊎ Any P ys
  any-cases [] ys h = inr h
  any-cases (x ∷ xs) ys (inl h) = inl (inl h)
  any-cases (x ∷ xs) ys (inr h) = elim (any-cases xs ys h) [ inl a ↦ inl (inr a) | inr b ↦ inr b ]

-- a member of a list that is made of another one by elements
module _ {A B : Type 0} (f : A → B) where
  pub map_in : (x : A) (xs : List A) → Member x xs → Member (f x) (map f xs)
  map_in x [] x'' = elim x'' [ ]
  map_in x (y ∷ xs) (inl e) = inl (ap f e)
  map_in x (y ∷ xs) (inr m) = inr (map_in x xs m)

  pub map-out : (z : B) (xs : List A) → Member z (map f xs) → (x : A) × ((z ≡ f x) × Member x xs)
  map-out z [] x' = elim x' [ ]
  map-out z (y ∷ xs) (inl e) = (y, (e, inl refl))
  map-out z (y ∷ xs) (inr m) = let r = map-out z xs m in (r.0, (r.1.0, inr r.1.1))

-- ---- the lists that begin with a value

flat_in : (v : ℤ) (vs : List ℤ) (ls : List (List ℤ)) (us : List ℤ) → Member v us → Member vs ls → Member (v ∷ vs) (flat_map (begun ls) us)
unfolding flat_map begun
flat_in v vs ls [] x'' m = elim x'' [ ]
flat_in v vs ls (u ∷ us) (inl e) m = any_left (λ x. (v ∷ vs) ≡ x) (begun ls u) _ (rw (sym e) (map_in (λ l. v ∷ l) vs ls m))
flat_in v vs ls (u ∷ us) (inr h) m = any-right (λ x. (v ∷ vs) ≡ x) (begun ls u) _ (flat_in v vs ls us h m)

flat_out : (x : List ℤ) (ls : List (List ℤ)) (us : List ℤ) → Member x (flat_map (begun ls) us) →
    (v : ℤ) × ((vs : List ℤ) × ((x ≡ v ∷ vs) × (Member v us × Member vs ls)))
unfolding flat_map begun
flat_out x ls [] h = absurd h
flat_out x ls (u ∷ us) h = go (any-cases (λ y. x ≡ y) (begun ls u) (flat_map (begun ls) us) h) (flat_out x ls us)
  where
    go : Member x (begun ls u) ⊎ Member x (flat_map (begun ls) us) → (Member x (flat_map (begun ls) us) → (v : ℤ) × ((vs : List ℤ) × ((x ≡ v ∷ vs) × (Member v us × Member vs ls)))) →
        (v : ℤ) × ((vs : List ℤ) × ((x ≡ v ∷ vs) × (((v ≡ u) ⊎ Member v us) × Member vs ls)))
    go (inl m) f = let r = map-out (λ l. u ∷ l) x ls m in (u, (r.0, (r.1.0, (inl refl, r.1.1))))
    go (inr m) f = let r = f m in (r.0, (r.1.0, (r.1.1.0, (inr r.1.1.1.0, r.1.1.1.1))))

-- ---- the value lists are the lists inside the bounds

pub lists_in : (Bs : List Bounds) (vs : List ℤ) → AllWithin Bs vs → Member vs (value_lists Bs)
unfolding value_lists
lists_in [] [] h = inl refl
lists_in [] (v ∷ vs) h = absurd h
lists_in (B ∷ Bs) [] h = absurd h
lists_in (B ∷ Bs) (v ∷ vs) h = flat_in v vs (value_lists Bs) (values B) ((values-member B v).1 ((says-within B v).0 h.0)) (lists_in Bs vs h.1)

pub lists-out : (Bs : List Bounds) (vs : List ℤ) → Member vs (value_lists Bs) → AllWithin Bs vs
unfolding value_lists
lists-out [] vs (inl e) = rw e tt
lists-out [] vs (inr m) = absurd m
lists-out (B ∷ Bs) vs m =
    let r = flat_out vs (value_lists Bs) (values B) m in
    rw r.1.1.0 ((says-within B r.0).1 ((values-member B r.0).0 r.1.1.1.0), lists-out Bs r.1.0 r.1.1.1.1)

-- ---- by variable number

pub inside-says : (Bs : List Bounds) (vs : List ℤ) → AllWithin Bs vs → (length vs ≡ length Bs) × ((x : ℕ) → x < length Bs → within (bounds_in Bs x) (value vs x) ≡ true)
unfolding bounds_in value
inside-says [] [] h = (refl, λ x l. absurd (omega arith))
inside-says [] (v ∷ vs) h = absurd h
inside-says (B ∷ Bs) [] h = absurd h
inside-says (B ∷ Bs) (v ∷ vs) h = (ap suc (inside-says Bs vs h.1).0, λ x l. at x l (inside-says Bs vs h.1).1)
  where
    at : (x : ℕ) → x < suc (length Bs) → ((x : ℕ) → x < length Bs → within (bounds_in Bs x) (value vs x) ≡ true) → within (bounds_in (B ∷ Bs) x) (value (v ∷ vs) x) ≡ true
    at zero l f = h.0
    at (suc x) l f = f x (omega arith)

says-inside : (Bs : List Bounds) (vs : List ℤ) → length vs ≡ length Bs → ((x : ℕ) → x < length Bs → within (bounds_in Bs x) (value vs x) ≡ true) → AllWithin Bs vs
unfolding bounds_in value
says-inside [] [] e f = tt
says-inside [] (v ∷ vs) e f = absurd (omega arith)
says-inside (B ∷ Bs) [] e f = absurd (omega arith)
says-inside (B ∷ Bs) (v ∷ vs) e f = (f 0 (omega arith), says-inside Bs vs (omega arith) (λ x l. f (suc x) (omega arith)))

-- THE LAW
pub complete : (ws : List ℕ) (vs : List ℤ) → Member vs (solutions ws) ↔ SatisfiesModel ws vs
unfolding solutions every_true
complete ws vs =
    let k = keep-member (every_true ws) vs (value_lists (variables ws)) in (
      λ m. let h = k.0 m in let i = inside-says (variables ws) vs (lists-out (variables ws) vs h.0) in record { one_each = i.0; in_bounds = i.1; all_true = h.1 },
      λ s. k.1 (lists_in (variables ws) vs (says-inside (variables ws) vs s.one_each s.in_bounds), s.all_true),
    )
