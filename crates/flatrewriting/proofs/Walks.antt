-- Walks over a list of which each element gives one element of another list, or nothing.
use Rattle.std.proofs.Common.{◌≡◌, refl, sym, ap, ◌∙◌, List, [], ◌∷◌, ◌++◌, append_assoc, append-nil, ℕ, suc, ◌+◌, ◌<◌, ◌≤◌, arith, length, get_or, drop, drop_of_length-le, drop-cons, Option, Some, None}
use Rattle.std.specs.Prelude.{option_and_then}
use Rattle.flatzinc.specs.declared.trouble.Trouble.{Trouble}
use Rattle.flatzinc.specs.declared.trouble.Trouble.TheVariants.{Memory, Fault}
use Rattle.flatzinc.specs.Answer.{Fails}

-- an error where nothing is given
pub fails_none : {Y : Type 0} (e : Trouble) (o : Option Y) → o ≡ None → Fails e o
fails_none Memory o h = tt
fails_none (Fault m) o h = h

-- an error as that of another definition, which gives nothing where this one does
pub fails_as : {X Y : Type 0} (e : Trouble) (o : Option X) (p : Option Y) → (o ≡ None → p ≡ None) → Fails e o → Fails e p
fails_as Memory o p f h = tt
fails_as (Fault m) o p f h = f h

-- what was given before, and what is still given
abbrev pub fronted : {B : Type 0} → List B → Option (List B) → Option (List B)
fronted front o = option_and_then (λ ys. Some (front ++ ys)) o

abbrev pub one_more : {B : Type 0} → Option B → Option (List B) → Option (List B)
one_more s o = option_and_then (λ y. option_and_then (λ ys. Some (y ∷ ys)) o) s

pub fronted-nil : {B : Type 0} (o : Option (List B)) → fronted [] o ≡ o
fronted-nil None = refl
fronted-nil (Some ys) = refl

pub regroup : {B : Type 0} (front : List B) (y : B) (o : Option (List B)) → fronted front (one_more (Some y) o) ≡ fronted (front ++ y ∷ []) o
regroup front y None = refl
regroup front y (Some ys) = ap Some (sym (append_assoc front (y ∷ []) ys))

module _ {A B : Type 0} (step : A → Option B) (f : List A → Option (List B)) (nil : f [] ≡ Some []) (cons : (x : A) (xs : List A) → f (x ∷ xs) ≡ one_more (step x) (f xs)) where
  at : (xs : List A) (i : ℕ) (d : A) → i < length xs → f (drop i xs) ≡ one_more (step (get_or xs i d)) (f (drop (i + 1) xs))
  at xs i d l = ap f (drop-cons xs i d l) ∙ cons (get_or xs i d) (drop (suc i) xs) ∙ let e : suc i ≡ i + 1 = omega arith in ap (λ (k : ℕ). one_more (step (get_or xs i d)) (f (drop k xs))) e

  pub goes_on : (front : List B) (xs : List A) (i : ℕ) (d : A) (y : B) (total : Option (List B)) → i < length xs → step (get_or xs i d) ≡ Some y →
      fronted front (f (drop i xs)) ≡ total → fronted (front ++ y ∷ []) (f (drop (i + 1) xs)) ≡ total
  goes_on front xs i d y total l s so_far =
      sym (regroup front y (f (drop (i + 1) xs))) ∙ ap (λ (o : Option B). fronted front (one_more o (f (drop (i + 1) xs)))) (sym s)
      ∙ ap (fronted front) (sym (at xs i d l)) ∙ so_far

  pub stops : (front : List B) (xs : List A) (i : ℕ) (d : A) (total : Option (List B)) → i < length xs → step (get_or xs i d) ≡ None →
      fronted front (f (drop i xs)) ≡ total → total ≡ None
  stops front xs i d total l s so_far =
      sym so_far ∙ ap (fronted front) (at xs i d l ∙ ap (λ (o : Option B). one_more o (f (drop (i + 1) xs))) s)

  pub is_done : (front : List B) (xs : List A) (i : ℕ) (total : Option (List B)) → length xs ≤ i → fronted front (f (drop i xs)) ≡ total → total ≡ Some front
  is_done front xs i total l so_far =
      sym so_far ∙ ap (λ (ys : List A). fronted front (f ys)) (drop_of_length-le xs l) ∙ ap (fronted front) nil ∙ ap Some (append-nil front)
