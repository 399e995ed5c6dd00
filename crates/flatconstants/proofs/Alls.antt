-- Walks that test the elements of a list.
use Rattle.std.proofs.Common.{◌≡◌, refl, ap, ◌∙◌, Bool, true, false, ◌&&◌, List, [], ◌∷◌, map, ℕ, suc, ◌+◌, ◌<◌, ◌≤◌, add-one, length, get_or, drop, drop-cons, drop_of_length-le}
use Rattle.flatzinc.specs.declared.Argument.{Argument}
use Rattle.flatrewriting.specs.declared.sort.Sort.{Sort as SortOf}
use Rattle.flatrewriting.specs.Sorts.{sort}
use Rattle.flatzinc.specs.declared.ModelVariable.{ModelVariable}
use Rattle.flatrewriting.specs.Arguments.{given}
use Rattle.flatconstants.specs.Typed.{given_typed, givens_typed}

module _ {A : Type 0} (t : A → Bool) (F : List A → Bool) (nil : F [] ≡ true) (cons : (x : A) (xs : List A) → F (x ∷ xs) ≡ (t x && F xs)) (xs : List A) (i : ℕ) where
  pub keeps : (d : A) → i < length xs → t (get_or xs i d) ≡ true → F (drop i xs) ≡ F (drop (i + 1) xs)
  keeps d l e =
      let f : drop i xs ≡ get_or xs i d ∷ drop (i + 1) xs = drop-cons xs i d l ∙ rw add-one refl in ap F f ∙ cons (get_or xs i d) (drop (i + 1) xs) ∙ ap (λ (b : Bool). b && F (drop (i + 1) xs)) e

  pub breaks : (d : A) → i < length xs → t (get_or xs i d) ≡ false → F (drop i xs) ≡ false
  breaks d l e = ap F (drop-cons xs i d l) ∙ cons (get_or xs i d) (drop (suc i) xs) ∙ ap (λ (b : Bool). b && F (drop (suc i) xs)) e

  pub ends : length xs ≤ i → F (drop i xs) ≡ true
  ends l = ap F (drop_of_length-le xs l) ∙ nil

-- ---- sorts and arguments side by side

module _ (Vs : List ModelVariable) where
  abbrev Both : List SortOf → List Argument → Bool
  Both ss gs = givens_typed Vs (map sort ss) (map given gs)

  pub unequal : (ss : List SortOf) (gs : List Argument) → (length ss ≡ length gs → ⊥) → Both ss gs ≡ false
  unfolding givens_typed
  unequal [] [] h = absurd (h refl)
  unequal [] (g ∷ gs) h = refl
  unequal (s ∷ ss) [] h = refl
  unequal (s ∷ ss) (g ∷ gs) h = go (given_typed Vs (sort s) (given g)) (unequal ss gs (λ e. h (ap suc e)))
    where
      go : (b : Bool) → Both ss gs ≡ false → (b && Both ss gs) ≡ false
      go true e = e
      go false e = refl

  both-at : (ss : List SortOf) (gs : List Argument) (k : ℕ) (d : SortOf) (a : Argument) → k < length ss → k < length gs →
      Both (drop k ss) (drop k gs) ≡ (given_typed Vs (sort (get_or ss k d)) (given (get_or gs k a)) && Both (drop (k + 1) ss) (drop (k + 1) gs))
  unfolding givens_typed
  both-at ss gs k d a l m =
      let f : drop k ss ≡ get_or ss k d ∷ drop (k + 1) ss = drop-cons ss k d l ∙ rw add-one refl in
      let g : drop k gs ≡ get_or gs k a ∷ drop (k + 1) gs = drop-cons gs k a m ∙ rw add-one refl in
      rw (f, g) refl

  pub both-keeps : (ss : List SortOf) (gs : List Argument) (k : ℕ) (d : SortOf) (a : Argument) → k < length ss → k < length gs →
      given_typed Vs (sort (get_or ss k d)) (given (get_or gs k a)) ≡ true → Both (drop k ss) (drop k gs) ≡ Both (drop (k + 1) ss) (drop (k + 1) gs)
  both-keeps ss gs k d a l m e = both-at ss gs k d a l m ∙ ap (λ (b : Bool). b && Both (drop (k + 1) ss) (drop (k + 1) gs)) e

  pub both-breaks : (ss : List SortOf) (gs : List Argument) (k : ℕ) (d : SortOf) (a : Argument) → k < length ss → k < length gs →
      given_typed Vs (sort (get_or ss k d)) (given (get_or gs k a)) ≡ false → Both (drop k ss) (drop k gs) ≡ false
  both-breaks ss gs k d a l m e = both-at ss gs k d a l m ∙ ap (λ (b : Bool). b && Both (drop (k + 1) ss) (drop (k + 1) gs)) e

  pub both-ends : (ss : List SortOf) (gs : List Argument) (k : ℕ) → length ss ≤ k → length gs ≤ k → Both (drop k ss) (drop k gs) ≡ true
  unfolding givens_typed
  both-ends ss gs k l m = rw (drop_of_length-le ss l, drop_of_length-le gs m) refl
