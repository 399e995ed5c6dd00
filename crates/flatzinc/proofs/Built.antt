-- What a call is built of, argument by argument; lists of variables are built as their numbers.
use Rattle.std.proofs.Common.{◌≡◌, refl, ap, ap₂, ◌∙◌, List, [], ◌∷◌, map, ℕ, get_or, Option, Some, None}
use Rattle.std.specs.Prelude.{option_and_then}
use Rattle.integers.specs.Terms.{Term, ◌·◌}
use Rattle.flatzinc.specs.declared.Atom.{Atom}
use Rattle.flatzinc.specs.declared.Atom.TheVariants.{Whole, Truth, Variable}
use Rattle.flatzinc.specs.declared.Product.{Product}
use Rattle.flatzinc.specs.Numbers.{number_of}
use Rattle.flatzinc.specs.Calls.{numbers_of, terms_of}

pub some_is : {A : Type 0} (x y : A) → Some x ≡ Some y → x ≡ y
some_is x y e = cc

pub none_is : {A : Type 0} {G : Type 0} (y : A) → None ≡ Some y → G
none_is y e = cc

-- what a step gave, and what the steps after it
pub and_then : {A B : Type 0} (o : Option A) (f : A → Option B) (y : B) → option_and_then f o ≡ Some y → (x : A) × ((o ≡ Some x) × (f x ≡ Some y))
and_then None f y e = none_is y e
and_then (Some x) f y e = (x, (refl, e))

pub atoms-numbered : (as₁ : List Atom) (vs : List ℕ) → numbers_of as₁ ≡ Some vs → map number_of as₁ ≡ vs
unfolding numbers_of
atoms-numbered [] vs e = some_is [] vs e
atoms-numbered (Variable v ∷ as₁) vs e =
    let r = and_then (numbers_of as₁) (λ us. Some (v ∷ us)) vs e in
    ap (λ us. v ∷ us) (atoms-numbered as₁ r.0 r.1.0) ∙ some_is (v ∷ r.0) vs r.1.1
atoms-numbered (Whole n ∷ as₁) vs e = none_is vs e
atoms-numbered (Truth b ∷ as₁) vs e = none_is vs e

pub terms-numbered : (ps : List Product) (ts : List (Term ℕ)) → terms_of ps ≡ Some ts → map (λ (p : Product). p.coefficient · number_of p.atom) ps ≡ ts
unfolding terms_of
terms-numbered [] ts e = some_is [] ts e
terms-numbered (p ∷ ps) ts e =
    let q = and_then (numbers_of (p.atom ∷ [])) (λ vs. option_and_then (λ us. Some (p.coefficient · get_or vs 0 0 ∷ us)) (terms_of ps)) ts e in
    let r = and_then (terms_of ps) (λ us. Some (p.coefficient · get_or q.0 0 0 ∷ us)) ts q.1.1 in
    let n = ap (λ (vs : List ℕ). get_or vs 0 0) (atoms-numbered (p.atom ∷ []) q.0 q.1.0) in
    ap₂ (λ (v : ℕ) (us : List (Term ℕ)). p.coefficient · v ∷ us) n (terms-numbered ps r.0 r.1.0) ∙ some_is (p.coefficient · get_or q.0 0 0 ∷ r.0) ts r.1.1
