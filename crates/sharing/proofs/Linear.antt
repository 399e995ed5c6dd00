-- Codes 10 to 15, 31 and 32: Σ as×bs compared with a number. From 12 on they go through x = Σ − c, compared with 0; 14 is 13 with the terms a − b, and 31
-- is 32 with them.
use Rattle.std.proofs.Common.{◌≡◌, refl, ◌⊎◌, ◌↔◌, Bool, true, false, List, [], ◌∷◌, ◌++◌, ℕ, suc, arith, ℤ}
use lib.Signed.{le_z}
use Rattle.integers.specs.Number.{◌⊖◌, ◌⊗◌, neg, min_z, max_z, abs_z, ◌≟◌, +0, +1, -1}
use Rattle.integers.specs.Bounds.{◌to◌, bit}
use Rattle.integers.specs.Terms.{Valuation, Term, ◌·◌, sum, value}
use Rattle.integers.specs.declared.Bounds.{Bounds}
use Rattle.integers.proofs.Linear.{◌⊑◌, ◌⊏◌, rep, linear, from₁, from₂}
use Rattle.integers.proofs.Bits.{Bit, bits, Reified}
use Rattle.integers.proofs.Lists.{all_append}
use Rattle.integers.proofs.Tests.{Says, In, All, says-le, says-equal, says-not}
use Rattle.models.specs.Builtin.{int_lin_eq, int_lin_le, int_lin_ne, int_lin_eq_reif, int_eq_reif, int_lin_le_reif, int_ne_reif, int_lin_ne_reif}
use Rattle.models.specs.Meaning.{meaning, on, ◌iff◌}
use Rattle.models.proofs.Arguments.{variables_in, integer_arguments, boolean_arguments}
use Rattle.rowsystems.specs.Row.{Row, sum≤0}
use Rattle.rules.specs.Block.{Ref, aux}
use Rattle.rules.specs.Parts.{L, U}
use Rattle.rules.specs.Rule.{rule, linked, sign_split, only_negative, lin_not_equal, zero_rows, zero_reified, lin_less_equal_reified}
use Rattle.rules.specs.Pick.{pick, sign_pick, signed_pick}
use Rattle.sharing.proofs.Good.{Keeps, Are, Sat, see}
use Rattle.sharing.proofs.Basics.{Represents, Correct, Exact, agree, says_as, says-reified, Same, not-not}
use Rattle.sharing.proofs.Arithmetic.{bit-product, sign-product, sign_kept, sign-row, sign-negative, sign-are}
use Rattle.sharing.proofs.Sums.{dot_sources_only, linked-row, sum_kept}

-- ---- comparisons with c are comparisons of Σ − c with 0

says-zero : (s c : ℤ) → Says (s ≟ c) (s ⊖ c ≡ +0)
says-zero s c = says_as (says-equal s c) (shifted s c)
  where
    shifted : (s c : ℤ) → (s ≡ c) ↔ (s ⊖ c ≡ +0)
    shifted = simp linear (omega arith)

says_not_above_zero : (s c : ℤ) → Says (le_z s c) (s ⊖ c ⊑ +0)
says_not_above_zero s c = says_as (says-le s c) (shifted s c)
  where
    shifted : (s c : ℤ) → (s ⊑ c) ↔ (s ⊖ c ⊑ +0)
    shifted = simp linear (omega arith)

-- ---- 12 to 14, 31, 32: x in L..U, b, z in Z(x)

-- what is picked keeps its bounds
signed-kept : (β : ℕ → Bounds) (σ : Valuation) (ts : List (Term ℕ)) (c : ℤ) → All (λ v. In (β v) (σ v)) (variables_in ts) →
    (rest : List ℤ) → Keeps (sign_split β ts c) (value (signed_pick (sum σ ts ⊖ c) ++ rest))
unfolding sign_split signed_pick value
signed-kept β σ ts c h rest = let k = sum_kept β σ ts c h in (k, sign_kept (L β ts c to U β ts c) (sum σ ts ⊖ c) k rest)

-- auxiliaries that satisfy the rows are the picks, where the other rows do not leave z at 0 for a negative x
signed-are : (β : ℕ → Bounds) (σ : Valuation) (ts : List (Term ℕ)) (c : ℤ) (α : Valuation) → Sat (see σ α) (linked β ts c) → In bit (α 1) →
    α 2 ≡ α 1 ⊗ α 0 → Sat (see σ α) (only_negative (aux 0) (aux 1) (U β ts c)) → (α 2 ≡ +0 → ¬ (α 0 ⊏ +0)) → Are (signed_pick (sum σ ts ⊖ c)) α
unfolding signed_pick
signed-are β σ ts c α l h e s g =
    let x = (linked-row σ α β ts c).0 l in
    (x, rw (← x) (sign-are (α 0) (λ k. α (suc k)) h e (sign-negative (see σ α) (aux 0) (aux 1) (U β ts c) s) g))

-- ---- 13, 14, 31, 32

-- the two rows after the product, where W is at least |x|: they give the meaning for both values of b, and it gives them for the b that is picked
abbrev Decided : Bool → ℤ → ℤ → ℤ → Type 0 → Type 0
Decided equal r x z R = (R → Reified r (Same equal x +0)) × (z ≡ min_z +0 x → Reified r (Same equal x +0) → R)

decided : (equal : Bool) (r : ℤ) → Bit r → (x z W : ℤ) → In (neg W to W) x → (z ≡ +0) ⊎ (z ≡ x) →
    Decided equal r x z (All (Sat (see (value (r ∷ [])) (value (x ∷ +0 ∷ z ∷ [])))) (zero_rows equal W 0))
unfolding zero_rows value
decided true = simp bits (simp linear (omega arith))
decided false = simp bits (simp (linear, not-not) (omega arith))

zero-rows : (equal : Bool) (σ α : Valuation) (r : ℕ) (W : ℤ) → Bit (σ r) → In (neg W to W) (α 0) → (α 2 ≡ +0) ⊎ (α 2 ≡ α 0) →
    Decided equal (σ r) (α 0) (α 2) (All (Sat (see σ α)) (zero_rows equal W r))
unfolding zero_rows value
zero-rows true σ α r W w = decided true (σ r) w (α 0) (α 2) W
zero-rows false σ α r W w = decided false (σ r) w (α 0) (α 2) W

-- they do not leave z at 0 for a negative x
none_left : (equal : Bool) (r : ℤ) → Bit r → (x z W : ℤ) → All (Sat (see (value (r ∷ [])) (value (x ∷ +0 ∷ z ∷ [])))) (zero_rows equal W 0) → z ≡ +0 → ¬ (x ⊏ +0)
unfolding zero_rows value
none_left true = simp bits (simp linear (omega arith))
none_left false = simp bits (simp linear (omega arith))

not_left : (equal : Bool) (σ α : Valuation) (r : ℕ) (W : ℤ) → Bit (σ r) → All (Sat (see σ α)) (zero_rows equal W r) → α 2 ≡ +0 → ¬ (α 0 ⊏ +0)
unfolding zero_rows value
not_left true σ α r W w = none_left true (σ r) w (α 0) (α 2) W
not_left false σ α r W w = none_left false (σ r) w (α 0) (α 2) W

-- W = max(|L|,|U|) is at least |x|
in_widest : (l u x : ℤ) → In (l to u) x → let W = max_z (abs_z l) (abs_z u) in In (neg W to W) x
in_widest = simp linear (omega arith)

-- t is the test of the builtin: Σ = c in 13, a = b in 14, and their denials in 32 and 31
module _ (equal : Bool) (β : ℕ → Bounds) (σ : Valuation) (ts : List (Term ℕ)) (c : ℤ) (r : ℕ) {t : Bool} (s : Says t (Same equal (sum σ ts ⊖ c) +0)) {F : Type 0} (w : F → Bit (σ r)) (h : F → All (λ v. In (β v) (σ v)) (variables_in ts)) where
  -- the two rows, and the last one
  abbrev last_zero_row : Row Ref
  last_zero_row = only_negative (aux 0) (aux 1) (U β ts c)

  last_row : (α : Valuation) → let rows = zero_rows equal (max_z (abs_z (L β ts c)) (abs_z (U β ts c))) r in
      All (Sat (see σ α)) (rows ++ (last_zero_row ∷ [])) ↔ (All (Sat (see σ α)) rows × All (Sat (see σ α)) (last_zero_row ∷ []))
  last_row α = all_append (Sat (see σ α)) (zero_rows equal (max_z (abs_z (L β ts c)) (abs_z (U β ts c))) r) (last_zero_row ∷ [])

  zero-reified : Represents F (zero_reified β equal ts c r) σ (signed_pick (sum σ ts ⊖ c)) (on σ r iff t)
  unfolding zero_reified sign_split signed_pick sign_pick value
  zero-reified = record {
    sound = λ α f g.
        (says-reified σ r s).1
        (rw ((linked-row σ α β ts c).0 g.1.0) at
        ((zero-rows equal σ α r _ (w f) (in_widest _ _ _ g.0.0) (bit-product (α 1) (α 0) (α 2) g.0.1.0 g.1.1.0)).0 ((last_row α).0 g.1.1.1).0));
    complete = λ f m rest.
        let k = signed-kept β σ ts c (h f) rest in
        let α = value (signed_pick (sum σ ts ⊖ c) ++ rest) in (
          k,
          (
            (linked-row σ α β ts c).1 refl,
            (
              refl,
              (last_row α).1 (
                (zero-rows equal σ α r _ (w f) (in_widest _ _ _ k.0) (bit-product _ _ _ k.1.0 refl)).1 (sign-product (sum σ ts ⊖ c)) ((says-reified σ r s).0 m),
                (sign-row (see σ α) (aux 0) (aux 1) (U β ts c) k.0.1 refl, tt),
              ),
            ),
          ),
        );
    filled = refl;
    determined = λ α f g.
        let rows = (last_row α).0 g.1.1.1 in
        signed-are β σ ts c α g.1.0 g.0.1.0 g.1.1.0 rows.1.0 (not_left equal σ α r _ (w f) rows.0);
  }

-- ---- 15

-- the two rows after the first
le_reif_rows : (r : ℤ) → Bit r → (x l u : ℤ) → In (l to u) x →
    let rows : List (Row ℕ) = sum≤0 (+1 · 0 ∷ u · 1 ∷ []) (neg u) ∷ sum≤0 (-1 · 0 ∷ (l ⊖ +1) · 1 ∷ []) +1 ∷ [] in
    All (Sat (value (x ∷ r ∷ []))) rows ↔ Reified r (x ⊑ +0)
unfolding value
le_reif_rows = simp bits (simp linear (omega arith))

module _ (β : ℕ → Bounds) (σ : Valuation) where
  -- ---- 10 int_lin_eq, 11 int_lin_le

  pub int_lin_eq_exact : (ts : List (Term ℕ)) (c : ℤ) → Exact β σ (int_lin_eq ts c)
  unfolding rule meaning
  int_lin_eq_exact ts c α f =
      agree (says-equal (sum σ ts) c) (rw (dot_sources_only σ α ts, rep (sum σ ts), rep c) (simp linear (omega arith)))

  pub int_lin_le_exact : (ts : List (Term ℕ)) (c : ℤ) → Exact β σ (int_lin_le ts c)
  unfolding rule meaning
  int_lin_le_exact ts c α f =
      agree (says-le (sum σ ts) c) (rw (dot_sources_only σ α ts, rep (sum σ ts), rep c) (simp linear (omega arith)))

  -- ---- 12 int_lin_ne

  pub int_lin_ne_correct : (asbs : List (Term ℕ)) (c : ℤ) → Correct β σ (int_lin_ne asbs c)
  unfolding rule lin_not_equal sign_split meaning integer_arguments pick signed_pick sign_pick value
  int_lin_ne_correct ts c = record {
    sound = λ α f g.
        let p = bit-product (α 1) (α 0) (α 2) g.0.1.0 g.1.1.0 in
        let n : ¬ (α 0 ≡ +0) = from₂ p g.1.1.1.0 (rw (rep (α 0), rep (α 2)) (simp linear (omega arith))) in
        (says-not (says-zero (sum σ ts) c)).1 (rw ((linked-row σ α β ts c).0 g.1.0) at n);
    complete = λ f m rest.
        let x = sum σ ts ⊖ c in
        let α = value (signed_pick x ++ rest) in
        let k = signed-kept β σ ts c f.kept rest in (
          k,
          (
            (linked-row σ α β ts c).1 refl,
            (
              refl,
              (
                from₁ ((says-not (says-zero (sum σ ts) c)).0 m) (rw (sign-product x, rep x) (simp linear (omega arith))),
                (sign-row (see σ α) (aux 0) (aux 1) (U β ts c) k.0.1 refl, tt),
              ),
            ),
          ),
        );
    filled = refl;
    determined = λ α f g.
        signed-are β σ ts c α g.1.0 g.0.1.0 g.1.1.0 g.1.1.1.1.0
        (λ z. from₁ (rw z at g.1.1.1.0) (rw (rep (α 0)) (simp linear (omega arith))));
  }

  -- ---- 13 int_lin_eq_reif, 32 int_lin_ne_reif

  pub int_lin_eq_reif_correct : (asbs : List (Term ℕ)) (c : ℤ) (r : ℕ) → Correct β σ (int_lin_eq_reif asbs c r)
  unfolding rule meaning integer_arguments boolean_arguments pick
  int_lin_eq_reif_correct ts c r = zero-reified true β σ ts c r (says-zero (sum σ ts) c) (λ f. f.zero_one.0) (λ f. f.kept)

  pub int_lin_ne_reif_correct : (asbs : List (Term ℕ)) (c : ℤ) (r : ℕ) → Correct β σ (int_lin_ne_reif asbs c r)
  unfolding rule meaning integer_arguments boolean_arguments pick
  int_lin_ne_reif_correct ts c r = zero-reified false β σ ts c r (says-not (says-zero (sum σ ts) c)) (λ f. f.zero_one.0) (λ f. f.kept)

  -- ---- 14 int_eq_reif, 31 int_ne_reif

  abbrev difference : ℕ → ℕ → List (Term ℕ)
  difference a b = +1 · a ∷ -1 · b ∷ []

  says-difference : (a b : ℕ) → Says (σ a ≟ σ b) (sum σ (difference a b) ⊖ +0 ≡ +0)
  unfolding sum
  says-difference a b = says_as (says-equal (σ a) (σ b)) (rw (rep (σ a), rep (σ b)) (simp linear (omega arith)))

  pub int_eq_reif_correct : (a b r : ℕ) → Correct β σ (int_eq_reif a b r)
  unfolding rule meaning integer_arguments boolean_arguments pick
  int_eq_reif_correct a b r = zero-reified true β σ (difference a b) +0 r (says-difference a b) (λ f. f.zero_one.0) (λ f. f.kept)

  pub int_ne_reif_correct : (a b r : ℕ) → Correct β σ (int_ne_reif a b r)
  unfolding rule meaning integer_arguments boolean_arguments pick
  int_ne_reif_correct a b r = zero-reified false β σ (difference a b) +0 r (says-not (says-difference a b)) (λ f. f.zero_one.0) (λ f. f.kept)

  -- ---- 15 int_lin_le_reif

  pub int_lin_le_reif_correct : (asbs : List (Term ℕ)) (c : ℤ) (r : ℕ) → Correct β σ (int_lin_le_reif asbs c r)
  unfolding rule lin_less_equal_reified meaning integer_arguments boolean_arguments pick value
  int_lin_le_reif_correct ts c r = record {
    sound = λ α f g.
        (says-reified σ r (says_not_above_zero (sum σ ts) c)).1
        (rw ((linked-row σ α β ts c).0 g.1.0) at ((le_reif_rows (σ r) f.zero_one.0 (α 0) _ _ g.0.0).0 g.1.1));
    complete = λ f m rest.
        let x = sum σ ts ⊖ c in
        let k = sum_kept β σ ts c f.kept in (
          (k, tt),
          (
            (linked-row σ (value (x ∷ rest)) β ts c).1 refl,
            (le_reif_rows (σ r) f.zero_one.0 x _ _ k).1 ((says-reified σ r (says_not_above_zero (sum σ ts) c)).0 m),
          ),
        );
    filled = refl;
    determined = λ α f g. ((linked-row σ α β ts c).0 g.1.0, tt);
  }
