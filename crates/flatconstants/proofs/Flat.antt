-- Walks over a list of which each element gives some elements of another list.
use Rattle.std.proofs.Common.{◌≡◌, sym, ap, ◌∙◌, List, [], ◌∷◌, ◌++◌, append_assoc, append-nil, ℕ, suc, ◌+◌, ◌<◌, ◌≤◌, add-one, length, get_or, drop, drop-cons, drop_of_length-le}

module _ {A B : Type 0} (f : A → List B) (flat : List A → List B) (nil : flat [] ≡ []) (cons : (x : A) (xs : List A) → flat (x ∷ xs) ≡ f x ++ flat xs) where
  pub flat-on : (done total : List B) (xs : List A) (i : ℕ) (d : A) → i < length xs → done ++ flat (drop i xs) ≡ total → (done ++ f (get_or xs i d)) ++ flat (drop (i + 1) xs) ≡ total
  flat-on done total xs i d l so_far =
      let e : flat (drop i xs) ≡ f (get_or xs i d) ++ flat (drop (i + 1) xs) = ap flat (drop-cons xs i d l) ∙ cons (get_or xs i d) (drop (suc i) xs) ∙ ap (λ (k : ℕ). f (get_or xs i d) ++ flat (drop k xs)) (sym (add-one i)) in
      append_assoc done (f (get_or xs i d)) (flat (drop (i + 1) xs)) ∙ ap (λ (ys : List B). done ++ ys) (sym e) ∙ so_far

  pub flat-done : (done total : List B) (xs : List A) (i : ℕ) → length xs ≤ i → done ++ flat (drop i xs) ≡ total → done ≡ total
  flat-done done total xs i l so_far = sym (ap (λ (ys : List A). done ++ flat ys) (drop_of_length-le xs l) ∙ ap (λ (ys : List B). done ++ ys) nil ∙ append-nil done) ∙ so_far
