-- A cut of the list of a maximum or a minimum is right.
use Rattle.std.proofs.Common.{◌≡◌, refl, sym, ap₂, subst, ◌⊎◌, inl, inr, ◌↔◌, Bool, true, ◌&&◌, List, [], ◌∷◌, ◌++◌, map, ℕ, ◌<◌, arith, ltb, ltb-true, ℤ, length, take, drop}
use Rattle.std.proofs.lemmas.List.{take-append-drop, length-take-le}
use lib.Signed.{le_z}
use Rattle.integers.specs.Choice.{◌if◌else◌}
use Rattle.integers.specs.Number.{◌≟◌, min_z, max_z}
use Rattle.integers.specs.Lists.{all, any}
use Rattle.integers.specs.Bounds.{◌to◌, bounds_in}
use Rattle.integers.specs.Terms.{Valuation}
use Rattle.integers.specs.declared.Bounds.{Bounds}
use Rattle.integers.proofs.Linear.{◌⊑◌, linear, by_le}
use Rattle.integers.proofs.Lists.{all_append, all_implies}
use Rattle.integers.proofs.Places.{any-map as any-values, all_map as all-values}
use Rattle.integers.proofs.Tests.{Says, In, All, Any, says-equal, says-le, says-and, says_any, says_all, same_test}
use Rattle.words.specs.Limit as Limit
use Rattle.models.specs.Builtin.{Builtin, array_int_maximum, array_int_minimum}
use Rattle.models.specs.Meaning.{meaning, maximum, minimum}
use Rattle.models.proofs.Arguments.{integer_arguments, boolean_arguments}
use Rattle.sharing.proofs.Good.{Keeps}
use Rattle.sharing.proofs.Satisfied.{keeps-bounds}
use Rattle.flatsplitting.specs.Split.{cut_best, best_by}
use Rattle.flatzinc.proofs.Agreeing.{Typed}
use Rattle.flatsplitting.proofs.Splitting.{Cuts}
use Rattle.flatzinc.proofs.Solved.{AllTrue}
use Rattle.flatsplitting.proofs.Cutting.{all-parts, older, newest}

-- v is one of the values, and none is better, as R says
abbrev Best : (ℤ → ℤ → Type 0) → Valuation → ℤ → List ℕ → Type 0
Best R τ v xs = Any (λ x. τ x ≡ v) xs × All (λ x. R (τ x) v) xs

-- what a maximum and a minimum share
pub record Order : Type 1 where
  pub R : ℤ → ℤ → Type 0
  pub pick : ℤ → ℤ → ℤ
  pub make : ℕ → List ℕ → Builtin
  pub says : (τ : Valuation) (m : ℕ) (xs : List ℕ) → Says (meaning τ (make m xs)) (Best R τ (τ m) xs)
  pub itself : (a : ℤ) → R a a
  pub through : (a b c : ℤ) → R a b → R b c → R a c
  pub both : (a b : ℤ) → R a b → R b a → a ≡ b
  pub first_not : (a b : ℤ) → R a (pick a b)
  pub second_not : (a b : ℤ) → R b (pick a b)
  pub either : (a b : ℤ) → (pick a b ≡ a) ⊎ (pick a b ≡ b)
  pub grows : (a b c d : ℤ) → a ⊑ b → c ⊑ d → pick a c ⊑ pick b d
  pub typed_as : (Bs : List Bounds) (m : ℕ) (xs : List ℕ) → Typed Bs (make m xs) ↔ ((m < length Bs) × All (λ v. v < length Bs) xs)

says_one_of : (σ : Valuation) (m : ℤ) (t : ℤ → Bool) (P : ℤ → Type 0) → ((x : ℤ) → Says (t x) (P x)) → (xs : List ℕ) →
    Says (any (λ x. x ≟ m) (map σ xs) && all t (map σ xs)) (Any (λ x. σ x ≡ m) xs × All (λ x. P (σ x)) xs)
says_one_of σ m t P h xs =
    rw (any-values (λ x. x ≟ m) σ xs, all-values t σ xs)
    (says-and
    (says_any (λ x. σ x ≟ m) (λ x. σ x ≡ m) (λ x. says-equal (σ x) m) xs)
    (says_all (λ x. t (σ x)) (λ x. P (σ x)) (λ x. h (σ x)) xs))

one_of_two_max : (a b : ℤ) → (max_z a b ≡ a) ⊎ (max_z a b ≡ b)
unfolding max_z
one_of_two_max a b = by_le a b (λ t. ((b if t else a) ≡ a) ⊎ ((b if t else a) ≡ b)) (λ h. inr refl) (λ n. inl refl)

one_of_two_min : (a b : ℤ) → (min_z a b ≡ a) ⊎ (min_z a b ≡ b)
unfolding min_z
one_of_two_min a b = by_le a b (λ t. ((a if t else b) ≡ a) ⊎ ((a if t else b) ≡ b)) (λ h. inl refl) (λ n. inr refl)

itself_le : (a : ℤ) → a ⊑ a
itself_le = simp linear (omega arith)

through_le : (a b c : ℤ) → a ⊑ b → b ⊑ c → a ⊑ c
through_le = simp linear (omega arith)

both_le : (a b : ℤ) → a ⊑ b → b ⊑ a → a ≡ b
both_le = simp linear (omega arith)

max-first : (a b : ℤ) → a ⊑ max_z a b
max-first = simp linear (omega arith)

max-second : (a b : ℤ) → b ⊑ max_z a b
max-second = simp linear (omega arith)

max-grows : (a b c d : ℤ) → a ⊑ b → c ⊑ d → max_z a c ⊑ max_z b d
max-grows = simp linear (omega arith)

min-first : (a b : ℤ) → min_z a b ⊑ a
min-first = simp linear (omega arith)

min-second : (a b : ℤ) → min_z a b ⊑ b
min-second = simp linear (omega arith)

min-grows : (a b c d : ℤ) → a ⊑ b → c ⊑ d → min_z a c ⊑ min_z b d
min-grows = simp linear (omega arith)

largest : Order
unfolding meaning maximum integer_arguments boolean_arguments
largest = record {
  R = λ a b. a ⊑ b;
  pick = max_z;
  make = array_int_maximum;
  says = λ τ m xs. says_one_of τ (τ m) (λ x. le_z x (τ m)) (λ x. x ⊑ τ m) (λ x. says-le x (τ m)) xs;
  itself = itself_le;
  through = through_le;
  both = both_le;
  first_not = max-first;
  second_not = max-second;
  either = one_of_two_max;
  grows = max-grows;
  typed_as = λ Bs m xs. (λ t. (t.0.0, t.0.1), λ h. ((h.0, h.1), tt));
}

least : Order
unfolding meaning minimum integer_arguments boolean_arguments
least = record {
  R = λ a b. b ⊑ a;
  pick = min_z;
  make = array_int_minimum;
  says = λ τ m xs. says_one_of τ (τ m) (λ x. le_z (τ m) x) (λ x. τ m ⊑ x) (λ x. says-le (τ m) x) xs;
  itself = itself_le;
  through = λ a b c h k. through_le c b a k h;
  both = λ a b h k. both_le a b k h;
  first_not = min-first;
  second_not = min-second;
  either = one_of_two_min;
  grows = min-grows;
  typed_as = λ Bs m xs. (λ t. (t.0.0, t.0.1), λ h. ((h.0, h.1), tt));
}

-- ---- the best of a list

any_left : {A : Type 0} (P : A → Type 0) (xs ys : List A) → Any P xs → Any P (xs ++ ys)
any_left P [] ys h = absurd h
any_left P (x ∷ xs) ys (inl p) = inl p
any_left P (x ∷ xs) ys (inr h) = inr (any_left P xs ys h)

any_right : {A : Type 0} (P : A → Type 0) (xs ys : List A) → Any P ys → Any P (xs ++ ys)
any_right P [] ys h = h
any_right P (x ∷ xs) ys h = inr (any_right P xs ys h)

any_parts : {A : Type 0} (P : A → Type 0) (xs ys : List A) → Any P (xs ++ ys) → Any P xs ⊎ Any P ys
any_parts P [] ys h = inr h
any_parts P (x ∷ xs) ys (inl p) = inl (inl p)
any_parts P (x ∷ xs) ys (inr h) = elim (any_parts P xs ys h) [ inl k ↦ inl (inr k) | inr k ↦ inr k ]

-- what holds of all holds of one
at-one : {A : Type 0} (P Q G : A → Type 0) (xs : List A) → ((x : A) → P x → Q x → G x) → Any P xs → All Q xs → Any G xs
at-one P Q G [] f h k = h
at-one P Q G (x ∷ xs) f (inl p) k = inl (f x p k.0)
at-one P Q G (x ∷ xs) f (inr h) k = inr (at-one P Q G xs f h k.1)

some-of : {A : Type 0} (G : Type 0) (xs : List A) → Any (λ x. G) xs → G
some-of G [] h = absurd h
some-of G (x ∷ xs) (inl g) = g
some-of G (x ∷ xs) (inr h) = some-of G xs h

module _ (o : Order) where
  below_best : (τ : Valuation) (v w : ℤ) (xs : List ℕ) → Any (λ x. τ x ≡ v) xs → All (λ x. o.R (τ x) w) xs → o.R v w
  below_best τ v w xs h k =
      some-of (o.R v w) xs (at-one (λ x. τ x ≡ v) (λ x. o.R (τ x) w) (λ x. o.R v w) xs (λ x e r. subst (λ z. o.R z w) e r) h k)

  only-best : (τ : Valuation) (v w : ℤ) (xs : List ℕ) → Best o.R τ v xs → Best o.R τ w xs → v ≡ w
  only-best τ v w xs h k = o.both v w (below_best τ v w xs h.0 k.1) (below_best τ w v xs k.0 h.1)

  is-best : (τ : Valuation) (xs : List ℕ) → 0 < length xs → Best o.R τ (best_by o.pick τ xs) xs
  unfolding best_by
  is-best τ [] l = absurd (omega arith)
  is-best τ (x ∷ []) l = (inl refl, (o.itself (τ x), tt))
  is-best τ (x ∷ y ∷ ys) l =
      let r = is-best τ (y ∷ ys) (omega arith) in
      let b = best_by o.pick τ (y ∷ ys) in
      let v = o.pick (τ x) b in (
        elim (o.either (τ x) b) as (λ z. Any (λ k. τ k ≡ v) (x ∷ y ∷ ys)) [
          | inl e ↦ inl (sym e)
          | inr e ↦ inr (subst (λ w. Any (λ k. τ k ≡ w) (y ∷ ys)) (sym e) r.0)
        ],
        (o.first_not (τ x) b, all_implies (λ k. o.R (τ k) b) (λ k. o.R (τ k) v) (λ k h. o.through (τ k) b v h (o.second_not (τ x) b)) (y ∷ ys) r.1),
      )

  best-same : (σ τ : Valuation) (xs : List ℕ) → All (λ v. σ v ≡ τ v) xs → best_by o.pick σ xs ≡ best_by o.pick τ xs
  unfolding best_by
  best-same σ τ [] h = refl
  best-same σ τ (x ∷ []) h = h.0
  best-same σ τ (x ∷ y ∷ ys) h = ap₂ o.pick h.0 (best-same σ τ (y ∷ ys) h.1)

  best-grows : (f g : ℕ → ℤ) (xs : List ℕ) → All (λ v. f v ⊑ g v) xs → best_by o.pick f xs ⊑ best_by o.pick g xs
  unfolding best_by
  best-grows f g [] h = itself_le _
  best-grows f g (x ∷ []) h = h.0
  best-grows f g (x ∷ y ∷ ys) h = o.grows (f x) (g x) _ _ h.0 (best-grows f g (y ∷ ys) h.1)

  -- the part in place of the first, of which it is the best
  replaced : (τ : Valuation) (v : ℤ) (n : ℕ) (as₁ ds : List ℕ) → Best o.R τ (τ n) as₁ → Best o.R τ v (ds ++ n ∷ []) ↔ Best o.R τ v (as₁ ++ ds)
  replaced τ v n as₁ ds b = (there, here)
    where
      P : ℕ → Type 0
      P x = τ x ≡ v

      there : Best o.R τ v (ds ++ n ∷ []) → Best o.R τ v (as₁ ++ ds)
      there h =
          let k = (all_append (λ x. o.R (τ x) v) ds (n ∷ [])).0 h.1 in (
            elim (any_parts (λ x. τ x ≡ v) ds (n ∷ []) h.0) as (λ z. Any (λ x. τ x ≡ v) (as₁ ++ ds)) [
              | inl m ↦ any_right (λ x. τ x ≡ v) as₁ ds m
              | inr m ↦ any_left (λ x. τ x ≡ v) as₁ ds (subst (λ w. Any (λ x. τ x ≡ w) as₁) (elim m as (λ z. τ n ≡ v) [ inl e ↦ e | inr e ↦ absurd e ]) b.0)
            ],
            (all_append (λ x. o.R (τ x) v) as₁ ds).1 (all_implies (λ x. o.R (τ x) (τ n)) (λ x. o.R (τ x) v) (λ x r. o.through (τ x) (τ n) v r k.1.0) as₁ b.1, k.0),
          )

      here : Best o.R τ v (as₁ ++ ds) → Best o.R τ v (ds ++ n ∷ [])
      here h =
          let k = (all_append (λ x. o.R (τ x) v) as₁ ds).0 h.1 in
          let r = below_best τ (τ n) v as₁ b.0 k.0 in (
            elim (any_parts (λ x. τ x ≡ v) as₁ ds h.0) as (λ z. Any (λ x. τ x ≡ v) (ds ++ n ∷ [])) [
              | inl m ↦ any_right (λ x. τ x ≡ v) ds (n ∷ []) (inl (o.both (τ n) v r (below_best τ v (τ n) as₁ m b.1)))
              | inr m ↦ any_left (λ x. τ x ≡ v) ds (n ∷ []) m
            ],
            (all_append (λ x. o.R (τ x) v) ds (n ∷ [])).1 (k.1, (r, tt)),
          )

  module _ (Bs : List Bounds) (m : ℕ) (xs : List ℕ) (long : ltb Limit.list_length (length xs) ≡ true) (typed : Typed Bs (o.make m xs)) where
    abbrev n : ℕ
    n = length Bs

    abbrev first : List ℕ
    first = take 32 xs

    abbrev part : Bounds
    part = best_by o.pick (λ v. (bounds_in Bs v).lower) first to best_by o.pick (λ v. (bounds_in Bs v).upper) first

    some : 0 < length first
    some = let l = ltb-true Limit.list_length (length xs) long in let k = length-take-le 32 xs (omega arith) in omega arith

    declared : (m < n) × All (λ v. v < n) xs
    declared = (o.typed_as Bs m xs).0 typed

    parts : All (λ v. v < n) first × All (λ v. v < n) (drop 32 xs)
    parts = all-parts (λ v. v < n) 32 xs declared.1

    inside : (σ : Valuation) → Keeps Bs σ → In part (best_by o.pick σ first)
    inside σ h =
        let k = (keeps-bounds Bs σ).0 h in (
          best-grows (λ v. (bounds_in Bs v).lower) σ first (all_implies (λ v. v < n) (λ v. (bounds_in Bs v).lower ⊑ σ v) (λ v l. (k v l).0) first parts.0),
          best-grows σ (λ v. (bounds_in Bs v).upper) first (all_implies (λ v. v < n) (λ v. σ v ⊑ (bounds_in Bs v).upper) (λ v l. (k v l).1) first parts.0),
        )

    its-best : (τ : Valuation) → τ n ≡ best_by o.pick τ first → Best o.R τ (τ n) first
    its-best τ e = subst (λ v. Best o.R τ v first) (sym e) (is-best τ first some)

    defined : (τ : Valuation) → AllTrue (o.make n first ∷ []) τ ↔ (τ n ≡ best_by o.pick τ first)
    defined τ =
        let s = o.says τ n first in
        (λ h. only-best τ (τ n) (best_by o.pick τ first) first (s.0 h.0) (is-best τ first some), λ e. (s.1 (its-best τ e), tt))

    rest : (τ : Valuation) → τ n ≡ best_by o.pick τ first → meaning τ (o.make m (drop 32 xs ++ n ∷ [])) ≡ meaning τ (o.make m xs)
    rest τ e =
        let r = replaced τ (τ m) n first (drop 32 xs) (its-best τ e) in
        same_test (o.says τ m (drop 32 xs ++ n ∷ [])) (o.says τ m xs) (subst (λ (l : List ℕ). Best o.R τ (τ m) (drop 32 xs ++ n ∷ []) ↔ Best o.R τ (τ m) l) (take-append-drop 32 xs) r)

    later : (ys : List ℕ) → All (λ v. v < n) ys → All (λ v. v < length (Bs ++ part ∷ [])) ys
    later ys h = all_implies (λ v. v < n) (λ v. v < length (Bs ++ part ∷ [])) (older Bs part) ys h

    best_right : Cuts Bs (o.make m xs) (cut_best Bs 32 o.pick o.make m xs)
    unfolding cut_best
    best_right = record {
      value_of = λ σ. best_by o.pick σ first;
      stays = λ σ τ e. best-same σ τ first (all_implies (λ v. v < n) (λ v. σ v ≡ τ v) e first parts.0);
      inside = inside;
      defined = λ τ h i. defined τ;
      rest = λ τ h e. rest τ e;
      typed_defining = ((o.typed_as (Bs ++ part ∷ []) n first).1 (newest Bs part, later first parts.0), tt);
      typed_rest = (o.typed_as (Bs ++ part ∷ []) m (drop 32 xs ++ n ∷ [])).1
          (older Bs part m declared.0, (all_append (λ v. v < length (Bs ++ part ∷ [])) (drop 32 xs) (n ∷ [])).1 (later (drop 32 xs) parts.1, (newest Bs part, tt)));
    }

pub maximum_right : (Bs : List Bounds) (m : ℕ) (xs : List ℕ) → ltb Limit.list_length (length xs) ≡ true → Typed Bs (array_int_maximum m xs) →
    Cuts Bs (array_int_maximum m xs) (cut_best Bs 32 max_z array_int_maximum m xs)
unfolding largest
maximum_right Bs m xs l t = best_right largest Bs m xs l t

pub minimum_right : (Bs : List Bounds) (m : ℕ) (xs : List ℕ) → ltb Limit.list_length (length xs) ≡ true → Typed Bs (array_int_minimum m xs) →
    Cuts Bs (array_int_minimum m xs) (cut_best Bs 32 min_z array_int_minimum m xs)
unfolding least
minimum_right Bs m xs l t = best_right least Bs m xs l t
