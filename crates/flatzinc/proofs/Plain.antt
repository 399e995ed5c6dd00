-- Laws of lists and options.
use Rattle.std.proofs.Common.{◌≡◌, refl, sym, ap, ◌∙◌, Bool, true, false, ◌||◌, List, [], ◌∷◌, ◌++◌, Some, None}
use Rattle.integers.proofs.Booleans.{or_assoc}
use Rattle.integers.specs.Lists.{any}
use Rattle.integers.proofs.Tests.{false-true}

pub the-list : {A : Type 0} (x y : A) → Some x ≡ Some y → x ≡ y
the-list {A} x y e = ap (λ o. elim o as (λ z. A) [ None ↦ x | Some z ↦ z ]) e

pub no_list : {A : Type 0} {G : Type 0} (y : A) → None ≡ Some y → G
no_list y e = false-true (ap (λ o. elim o as (λ z. Bool) [ None ↦ false | Some z ↦ true ]) e)

pub any-two : {A : Type 0} (t : A → Bool) (xs ys : List A) → any t (xs ++ ys) ≡ (any t xs || any t ys)
unfolding any
any-two t [] ys = refl
any-two t (x ∷ xs) ys = ap (λ b. t x || b) (any-two t xs ys) ∙ sym (or_assoc (t x) (any t xs) (any t ys))
