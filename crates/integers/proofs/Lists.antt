-- Laws of `All` and `Any` over lists; lists made of lists.
use Rattle.std.proofs.Common.{◌≡◌, refl, subst, sym, ap, ◌∙◌, ◌⊎◌, inl, inr, ◌↔◌, List, [], ◌∷◌, ◌++◌, map, append_assoc, ℕ, zero, suc, ◌<◌, arith, length, get_or}
use mathlib.Core.List.{flat_map}
use Rattle.integers.specs.Lists.{list_of}
use Rattle.integers.proofs.Tests.{All, Any, Member}

pub all_append : {A : Type 0} (P : A → Type 0) (xs ys : List A) → All P (xs ++ ys) ↔ (All P xs × All P ys)
all_append P [] ys = (λ h. (tt, h), λ h. h.1)
all_append P (x ∷ xs) ys =
    let r = all_append P xs ys in
    (λ h. ((h.0, (r.0 h.1).0), (r.0 h.1).1), λ h. (h.0.0, r.1 (h.0.1, h.1)))

pub all_map : {A B : Type 0} (f : A → B) (P : B → Type 0) (Q : A → Type 0) → ((x : A) → P (f x) ↔ Q x) → (xs : List A) →
    All P (map f xs) ↔ All Q xs
all_map f P Q h [] = (λ a. tt, λ a. tt)
all_map f P Q h (x ∷ xs) = let r = all_map f P Q h xs in (λ a. ((h x).0 a.0, r.0 a.1), λ a. ((h x).1 a.0, r.1 a.1))

pub all_implies : {A : Type 0} (P Q : A → Type 0) → ((x : A) → P x → Q x) → (xs : List A) → All P xs → All Q xs
all_implies P Q f [] h = tt
all_implies P Q f (x ∷ xs) h = (f x h.0, all_implies P Q f xs h.1)

pub all_both : {A : Type 0} (P Q : A → Type 0) (xs : List A) → All P xs → All Q xs → All (λ x. P x × Q x) xs
all_both P Q [] h k = tt
all_both P Q (x ∷ xs) h k = ((h.0, k.0), all_both P Q xs h.1 k.1)

pub any-map : {A : Type 0} (P Q : A → Type 0) → ((x : A) → P x → Q x) → (xs : List A) → Any P xs → Any Q xs
any-map P Q f [] h = h
any-map P Q f (x ∷ xs) (inl p) = inl (f x p)
any-map P Q f (x ∷ xs) (inr m) = inr (any-map P Q f xs m)

pub all-members : {A : Type 0} (P : A → Type 0) (xs : List A) → All P xs ↔ ((x : A) → Member x xs → P x)
all-members P [] = (λ h x m. absurd m, λ f. tt)
all-members {A} P (y ∷ ys) = let r = all-members P ys in (λ h x m. at x h m (r.0 h.1 x), λ f. (f y (inl refl), r.1 (λ x m. f x (inr m))))
  where
    at : (x : A) → P y × All P ys → (x ≡ y) ⊎ Member x ys → (Member x ys → P x) → P x
    at x h (inl e) k = subst P (sym e) h.0
    at x h (inr m) k = k m

pub all-mapped : {A B : Type 0} (f : A → B) (P : A → Type 0) (Q : B → Type 0) → ((x : A) → P x → Q (f x)) → (xs : List A) → All P xs → All Q (map f xs)
all-mapped f P Q h [] a = tt
all-mapped f P Q h (x ∷ xs) a = (h x a.0, all-mapped f P Q h xs a.1)

-- what holds of every f x
pub all_made : {A B : Type 0} (f : A → B) (Q : B → Type 0) → ((x : A) → Q (f x)) → (xs : List A) → All Q (map f xs)
all_made f Q h [] = tt
all_made f Q h (x ∷ xs) = (h x, all_made f Q h xs)

-- an element by its place
pub all-at : {A : Type 0} (P : A → Type 0) (d : A) (xs : List A) (k : ℕ) → k < length xs → All P xs → P (get_or xs k d)
all-at P d [] k l h = absurd (omega arith)
all-at P d (x ∷ xs) zero l h = h.0
all-at P d (x ∷ xs) (suc k) l h = all-at P d xs k (omega arith) h.1

-- and the one that stands past the end
pub all_or_past : {A : Type 0} (P : A → Type 0) (xs : List A) (d : A) → All P xs → P d → (k : ℕ) → P (get_or xs k d)
all_or_past P [] d h p k = p
all_or_past P (x ∷ xs) d h p zero = h.0
all_or_past P (x ∷ xs) d h p (suc k) = all_or_past P xs d h.1 p k

-- what holds at every place
pub all-list_of : {A : Type 0} (P : A → Type 0) (f : ℕ → A) (n : ℕ) → ((k : ℕ) → k < n → P (f k)) → All P (list_of f n)
unfolding list_of
all-list_of P f zero h = tt
all-list_of P f (suc n) h = (h 0 (omega arith), all-list_of P (λ k. f (suc k)) n (λ k l. h (suc k) (omega arith)))

pub list_of-length : {A : Type 0} (f : ℕ → A) (n : ℕ) → length (list_of f n) ≡ n
unfolding list_of
list_of-length f zero = refl
list_of-length f (suc n) = ap suc (list_of-length (λ k. f (suc k)) n)

pub flat_map_append : {A B : Type 0} (f : A → List B) (xs ys : List A) → flat_map f (xs ++ ys) ≡ flat_map f xs ++ flat_map f ys
unfolding flat_map
flat_map_append f [] ys = refl
flat_map_append f (x ∷ xs) ys = ap (λ l. f x ++ l) (flat_map_append f xs ys) ∙ sym (append_assoc (f x) (flat_map f xs) (flat_map f ys))
