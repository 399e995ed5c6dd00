-- What lies behind a named row: the constraint, its place, the row, and where the rows of its block stand among all rows.
use Rattle.std.proofs.Common.{◌≡◌, refl, sym, subst, inl, inr, Bool, true, false, List, [], ◌∷◌, ◌++◌, map, ℕ, zero, suc, ◌+◌, ◌≤◌, ◌<◌, arith, length, length-append, take}
use mathlib.Core.List.{flat_map}
use Rattle.integers.specs.Choice.{◌if◌else◌}
use Rattle.integers.specs.Terms.{Valuation}
use Rattle.integers.proofs.Tests.{Member}
use Rattle.words.specs.Answer.{Answer, refused, counts, written, holds, out_of_bounds, is_false}
use Rattle.words.specs.Judge.{first_false}
use Rattle.models.specs.Model.{builtin}
use Rattle.models.specs.Meaning.{meaning}
use Rattle.rowsystems.specs.Row.{Row, satisfied}
use Rattle.reasons.specs.Reason.{Reason, because, Explained, in_block, first_failing}
use Rattle.reasons.specs.Behind.{At}

-- ---- places of a list

module _ {A : Type 0} where
  pub at-member : (xs : List A) (k : ℕ) (x : A) → At xs k x → Member x xs
  at-member [] k x h = h
  at-member (y ∷ ys) zero x h = inl (sym h)
  at-member (y ∷ ys) (suc k) x h = inr (at-member ys k x h)

  at-below : (xs : List A) (k : ℕ) (x : A) → At xs k x → k < length xs
  at-below [] k x h = absurd h
  at-below (y ∷ ys) zero x h = omega arith
  at-below (y ∷ ys) (suc k) x h = omega (arith, at-below ys k x h)

  at_left : (xs ys : List A) (k : ℕ) (x : A) → At xs k x → At (xs ++ ys) k x
  at_left [] ys k x h = absurd h
  at_left (z ∷ zs) ys zero x h = h
  at_left (z ∷ zs) ys (suc k) x h = at_left zs ys k x h

  at_right : (xs ys : List A) (k : ℕ) (x : A) → At ys k x → At (xs ++ ys) (length xs + k) x
  at_right [] ys k x h = let e : k ≡ 0 + k = omega arith in subst (λ i. At ys i x) e h
  at_right (z ∷ zs) ys k x h = let e : suc (length zs + k) ≡ length (z ∷ zs) + k = omega arith in subst (λ i. At (z ∷ zs ++ ys) i x) e (at_right zs ys k x h)

pub at_map : {A B : Type 0} (f : A → B) (xs : List A) (k : ℕ) (x : A) → At xs k x → At (map f xs) k (f x)
at_map f [] k x h = h
at_map f (y ∷ ys) zero x h = rw h refl
at_map f (y ∷ ys) (suc k) x h = at_map f ys k x h

-- ---- the first that fails the test, counted from k

record Failing {A : Type 0} (t : A → Bool) (k K : ℕ) (xs : List A) : Type 0 where
  row : A
  index : ℕ
  counted : K ≡ k + index
  there : At xs index row
  fails : t row ≡ false

failing : {A : Type 0} (t : A → Bool) (k K : ℕ) (xs : List A) → first_false t k xs ≡ is_false K → Failing t k K xs
unfolding first_false
failing t k K [] e = let z : ◌≡◌ {A = ℕ} 0 1 = cc in absurd (omega arith)
failing t k K (x ∷ xs) e = go (t x) refl e (failing t (k + 1) K xs)
  where
    go : (s : Bool) → t x ≡ s → (first_false t (k + 1) xs if s else is_false k) ≡ is_false K → (first_false t (k + 1) xs ≡ is_false K → Failing t (k + 1) K xs) →
        Failing t k K (x ∷ xs)
    go true h e more = let r = more e in record { row = r.row; index = suc r.index; counted = omega (arith, r.counted); there = r.there; fails = r.fails }
    go false h e more = let same : k ≡ K = cc in record { row = x; index = 0; counted = omega arith; there = refl; fails = h }

-- ---- block after block

abbrev rows_of : List Explained → List (Row ℕ)
rows_of xs = flat_map (λ x. x.rows) xs

-- rows counted from k, constraints from j
pub record Found (σ ρ : Valuation) (k j : ℕ) (xs : List Explained) (K J : ℕ) (b : Bool) : Type 0 where
  pub explained : Explained
  pub place : ℕ
  pub counted : J ≡ j + place
  pub there : At xs place explained
  pub said : b ≡ meaning σ (builtin explained.constraint)
  pub row : Row ℕ
  pub listed : Member row explained.rows
  pub fails : satisfied ρ row ≡ false
  pub index : ℕ
  pub row-counted : K ≡ k + index
  pub row-there : At (flat_map (λ x. x.rows) xs) index row
  pub from : length (flat_map (λ x. x.rows) (take place xs)) ≤ index
  pub before : index < length (flat_map (λ x. x.rows) (take (suc place) xs))

module _ (σ ρ : Valuation) where
  here : (k j : ℕ) (x : Explained) (xs : List Explained) (K : ℕ) (b : Bool) → b ≡ meaning σ (builtin x.constraint) → Failing (satisfied ρ) k K x.rows →
      Found σ ρ k j (x ∷ xs) K j b
  unfolding flat_map
  here k j x xs K b e r = record {
    explained = x;
    place = 0;
    counted = omega arith;
    there = refl;
    said = e;
    row = r.row;
    listed = at-member x.rows r.index r.row r.there;
    fails = r.fails;
    index = r.index;
    row-counted = r.counted;
    row-there = at_left x.rows (rows_of xs) r.index r.row r.there;
    from = omega arith;
    before = omega (arith, at-below x.rows r.index r.row r.there, length-append x.rows []);
  }

  later : (k j : ℕ) (x : Explained) (xs : List Explained) (K J : ℕ) (b : Bool) → Found σ ρ (k + length x.rows) (j + 1) xs K J b → Found σ ρ k j (x ∷ xs) K J b
  unfolding flat_map
  later k j x xs K J b r = record {
    explained = r.explained;
    place = suc r.place;
    counted = omega (arith, r.counted);
    there = r.there;
    said = r.said;
    row = r.row;
    listed = r.listed;
    fails = r.fails;
    index = length x.rows + r.index;
    row-counted = omega (arith, r.row-counted);
    row-there = at_right x.rows (rows_of xs) r.index r.row r.row-there;
    from = omega (arith, r.from, length-append x.rows (rows_of (take r.place xs)));
    before = omega (arith, r.before, length-append x.rows (rows_of (take (suc r.place) xs)));
  }

  pub found : (k j : ℕ) (xs : List Explained) (K J : ℕ) (b : Bool) → first_failing σ ρ k j xs ≡ because K J b → Found σ ρ k j xs K J b
  unfolding first_failing
  found k j [] K J b e = let z : ◌≡◌ {A = ℕ} 0 1 = cc in absurd (omega arith)
  found k j (x ∷ xs) K J b e = go (first_false (satisfied ρ) k x.rows) refl e (found (k + length x.rows) (j + 1) xs K J b)
    where
      after : Reason
      after = first_failing σ ρ (k + length x.rows) (j + 1) xs

      go : (a : Answer) → first_false (satisfied ρ) k x.rows ≡ a → in_block a j (meaning σ (builtin x.constraint)) after ≡ because K J b →
          (after ≡ because K J b → Found σ ρ (k + length x.rows) (j + 1) xs K J b) → Found σ ρ k j (x ∷ xs) K J b
      go (refused n p) h e more = later k j x xs K J b (more e)
      go (counts v y a r w) h e more = later k j x xs K J b (more e)
      go (written n) h e more = later k j x xs K J b (more e)
      go holds h e more = later k j x xs K J b (more e)
      go (out_of_bounds i) h e more = later k j x xs K J b (more e)
      go (is_false i) h e more =
          let row : i ≡ K = cc in
          let place : j ≡ J = cc in
          let said : b ≡ meaning σ (builtin x.constraint) = cc in
          subst (λ n. Found σ ρ k j (x ∷ xs) K n b) place (here k j x xs K b said (failing (satisfied ρ) k K x.rows (subst (λ n. first_false (satisfied ρ) k x.rows ≡ is_false n) row h)))
