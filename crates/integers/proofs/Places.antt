-- Lists by places, for loops that go through a list from its front: one element more, and tests by counting.
use Rattle.std.proofs.Common.{◌≡◌, refl, ap, sym, ◌∙◌, Bool, true, false, ◌&&◌, ◌||◌, List, [], ◌∷◌, ◌++◌, map, ℕ, zero, suc, ◌+◌, ◌<◌, ◌≤◌, add-one, zero-add, arith, ltb, eqb, ℤ, length, get_or, drop, replicate, drop_of_length-le, drop-cons, lt-ltb, ne_eqb}
use Prim.Native.Nat.compare
use Rattle.integers.specs.Choice.{◌if◌else◌}
use Rattle.integers.specs.Number.{◌⊕◌, ◌⊗◌, +0}
use Rattle.integers.specs.Lists.{list_of, all, any, how_many}
use Rattle.integers.specs.Terms.{Term, sum}
use Rattle.integers.specs.Bounds.{◌to◌, bounds_in}
use Rattle.integers.specs.declared.Bounds.{Bounds}
use Rattle.integers.proofs.Booleans.{and_assoc, and-true, or_assoc, or-false, bit_le}
use Rattle.integers.proofs.Sums.{⊕_assoc, ⊕_zero_comm}

-- what is put together from the left, `F (x ∷ xs)` from `g x` and `F xs`, also grows at the right
module _ {A B : Type 0} (F : List A → B) (op : B → B → B) (g : A → B)
    (cons : (x : A) (xs : List A) → F (x ∷ xs) ≡ op (g x) (F xs))
    (assoc : (a b c : B) → op (op a b) c ≡ op a (op b c))
    (unit : (a : B) → op a (F []) ≡ op (F []) a) where
  pub one_more : (f : ℕ → A) (k : ℕ) → F (list_of f (suc k)) ≡ op (F (list_of f k)) (g (f k))
  unfolding list_of
  one_more f zero = cons (f 0) [] ∙ unit (g (f 0))
  one_more f (suc k) =
      cons (f 0) (list_of (λ i. f (suc i)) (suc k)) ∙ ap (op (g (f 0))) (one_more (λ i. f (suc i)) k)
      ∙ sym (assoc (g (f 0)) (F (list_of (λ i. f (suc i)) k)) (g (f (suc k))))
      ∙ ap (λ b. op b (g (f (suc k)))) (sym (cons (f 0) (list_of (λ i. f (suc i)) k)))

-- ---- by how a list is used

module _ {A : Type 0} (t : A → Bool) (f : ℕ → A) (k : ℕ) where
  pub all_more : all t (list_of f (k + 1)) ≡ (all t (list_of f k) && t (f k))
  unfolding all
  all_more = rw add-one (one_more (all t) ◌&&◌ t (λ x xs. refl) and_assoc and-true f k)

  pub any-more : any t (list_of f (k + 1)) ≡ (any t (list_of f k) || t (f k))
  unfolding any
  any-more = rw add-one (one_more (any t) ◌||◌ t (λ x xs. refl) or_assoc or-false f k)

  pub how_many-more : how_many t (list_of f (k + 1)) ≡ how_many t (list_of f k) + (1 if t (f k) else 0)
  unfolding how_many
  how_many-more = rw add-one (one_more (how_many t) ◌+◌ (λ x. 1 if t x else 0) (λ x xs. refl) (λ a b c. omega arith) (λ a. omega arith) f k)

pub sum_more : {X : Type 0} (σ : X → ℤ) (f : ℕ → Term X) (k : ℕ) → sum σ (list_of f (k + 1)) ≡ sum σ (list_of f k) ⊕ (f k).coefficient ⊗ σ (f k).variable
unfolding sum
sum_more σ f k = rw add-one (one_more (sum σ) ◌⊕◌ (λ t. t.coefficient ⊗ σ t.variable) (λ x xs. refl) ⊕_assoc ⊕_zero_comm f k)

-- ---- elements

module _ {A : Type 0} where
  pub get_or-list_of : (f : ℕ → A) (n k : ℕ) (d : A) → k < n → get_or (list_of f n) k d ≡ f k
  unfolding list_of
  get_or-list_of f zero k d h = absurd (omega arith)
  get_or-list_of f (suc n) zero d h = refl
  get_or-list_of f (suc n) (suc k) d h = get_or-list_of (λ i. f (suc i)) n k d (omega arith)

  pub map-list_of : {B : Type 0} (g : A → B) (f : ℕ → A) (n : ℕ) → map g (list_of f n) ≡ list_of (λ k. g (f k)) n
  unfolding list_of
  map-list_of g f zero = refl
  map-list_of g f (suc n) = ap (λ l. g (f 0) ∷ l) (map-list_of g (λ i. f (suc i)) n)

  -- a list by its places
  pub by-places : (d : A) (xs : List A) → list_of (λ k. get_or xs k d) (length xs) ≡ xs
  unfolding list_of
  by-places d [] = refl
  by-places d (x ∷ xs) = ap (λ l. x ∷ l) (by-places d xs)

  -- one element many times, and past its end
  pub get_or-replicate_same : (n k : ℕ) (d : A) → get_or (replicate n d) k d ≡ d
  get_or-replicate_same zero k d = refl
  get_or-replicate_same (suc n) zero d = refl
  get_or-replicate_same (suc n) (suc k) d = get_or-replicate_same n k d

pub bounds-listed : (Bs : List Bounds) → list_of (bounds_in Bs) (length Bs) ≡ Bs
unfolding bounds_in
bounds-listed Bs = by-places (+0 to +0) Bs

-- ---- tests of what is left of a list, from a place on

module _ {A : Type 0} (t : A → Bool) (d : A) (xs : List A) (k : ℕ) where
  pub rest_more : k < length xs → t (get_or xs k d) ≡ true → all t (drop k xs) ≡ all t (drop (k + 1) xs)
  unfolding all
  rest_more h e = ap (all t) (drop-cons xs k d h) ∙ rw (e, add-one k)

  pub rest-not : k < length xs → t (get_or xs k d) ≡ false → all t (drop k xs) ≡ false
  unfolding all
  rest-not h e = ap (all t) (drop-cons xs k d h) ∙ rw e

  pub rest_end : length xs ≤ k → all t (drop k xs) ≡ true
  unfolding all
  rest_end h = ap (all t) (drop_of_length-le xs h)

-- ---- tests by counting

module _ {A : Type 0} (t : A → Bool) where
  pub how_many-le : (xs : List A) → how_many t xs ≤ length xs
  unfolding how_many
  how_many-le [] = omega arith
  how_many-le (x ∷ xs) = omega (arith, bit_le (t x), how_many-le xs)

  pub any-count : (xs : List A) → ltb 0 (how_many t xs) ≡ any t xs
  unfolding how_many any
  any-count [] = refl
  any-count (x ∷ xs) = go (t x) (any-count xs)
    where
      go : (b : Bool) → ltb 0 (how_many t xs) ≡ any t xs → ltb 0 ((1 if b else 0) + how_many t xs) ≡ (b || any t xs)
      go true h = lt-ltb 0 (1 + how_many t xs) (omega arith)
      go false h = rw zero-add h

  pub all-count : (xs : List A) → eqb (how_many t xs) (length xs) ≡ all t xs
  unfolding how_many all
  all-count [] = refl
  all-count (x ∷ xs) = go (t x) (all-count xs)
    where
      go : (b : Bool) → eqb (how_many t xs) (length xs) ≡ all t xs → eqb ((1 if b else 0) + how_many t xs) (length (x ∷ xs)) ≡ (b && all t xs)
      go true h = let e : 1 + how_many t xs ≡ suc (how_many t xs) = omega arith in rw (e, compare.suc-suc) h
      go false h = ne_eqb (0 + how_many t xs) (suc (length xs)) (λ e. omega (arith, how_many-le xs))

  pub any-map : {B : Type 0} (g : B → A) (xs : List B) → any t (map g xs) ≡ any (λ x. t (g x)) xs
  unfolding any
  any-map g [] = refl
  any-map g (x ∷ xs) = ap (λ b. t (g x) || b) (any-map g xs)

  pub all_append : (xs ys : List A) → all t (xs ++ ys) ≡ (all t xs && all t ys)
  unfolding all
  all_append [] ys = refl
  all_append (x ∷ xs) ys = ap (λ b. t x && b) (all_append xs ys) ∙ sym (and_assoc (t x) (all t xs) (all t ys))

  pub all_map : {B : Type 0} (g : B → A) (xs : List B) → all t (map g xs) ≡ all (λ x. t (g x)) xs
  unfolding all
  all_map g [] = refl
  all_map g (x ∷ xs) = ap (λ b. t (g x) && b) (all_map g xs)
