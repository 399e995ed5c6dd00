-- Codes 16 to 20 and 34 to 36, the builtins of two or three Boolean variables.
use Rattle.std.proofs.Common.{◌≡◌, refl, ◌⊎◌, inl, inr, ◌↔◌, Bool, true, false, ◌&&◌, ◌||◌, [], ◌∷◌, ℕ, arith, ℤ}
use Rattle.integers.specs.Number.{◌⊕◌, ◌⊗◌, +0, +1, +2}
use Rattle.integers.specs.Bounds.{bit}
use Rattle.integers.specs.Terms.{Valuation, value}
use Rattle.integers.specs.declared.Bounds.{Bounds}
use Rattle.integers.proofs.Linear.{◌⊑◌, ◌⊏◌, linear}
use Rattle.integers.proofs.Bits.{Bit, bits, Reified, bit_case}
use Rattle.integers.proofs.Tests.{Says, In, All, says-le, says-lt, says-equal, says-not, says-and, says-or}
use Rattle.models.specs.Builtin.{Builtin, bool2int, bool_not, bool_and, bool_or, bool_xor, bool_eq_reif, bool_le_reif, bool_lt_reif}
use Rattle.models.specs.Meaning.{meaning, on, ◌iff◌}
use Rattle.models.proofs.Arguments.{boolean_arguments}
use Rattle.rules.specs.Parts.{◌─◌≤0, ◌─◌=0}
use Rattle.rules.specs.Rule.{rule, same_rows, same_reified}
use Rattle.rules.specs.Pick.{pick}
use Rattle.sharing.proofs.Good.{Good, Sat, see}
use Rattle.sharing.proofs.Basics.{Represents, Correct, Exact, agree, says_as, says-reified, in_bit, Same, not-not}
use Rattle.sharing.proofs.Comparisons.{equal-block}

module _ (β : ℕ → Bounds) (σ : Valuation) where
  -- ---- 16 bool2int, the block of 1

  pub bool2int-exact : (a b : ℕ) → Exact β σ (bool2int a b)
  unfolding rule meaning
  bool2int-exact a b α f = equal-block β σ α a b

  -- ---- 17 bool_not

  not-row : (x : ℤ) → Bit x → (y : ℤ) → Bit y → Good (rule β (bool_not 0 1)) (value (x ∷ y ∷ [])) (value []) ↔ ¬ (x ≡ y)
  unfolding rule value
  not-row = simp bits (simp linear (omega arith))

  pub bool_not_exact : (a b : ℕ) → Exact β σ (bool_not a b)
  unfolding rule meaning boolean_arguments value
  bool_not_exact a b α f =
      agree (says-not (says-equal (σ a) (σ b))) (not-row (σ a) f.zero_one.0 (σ b) f.zero_one.1.0)

  -- ---- 18, 19, 35, 36: R is a builtin whose rows say of any bits x, y, r that r is 1 exactly where C; t is the test of C

  reified-exact : (R : Builtin) (C : ℤ → ℤ → Type 0) →
      ((r : ℤ) → Bit r → (x y : ℤ) → In bit x → In bit y → Good (rule β R) (value (x ∷ y ∷ r ∷ [])) (value []) ↔ Reified r (C x y)) →
      (a b r : ℕ) {t : Bool} → All (λ v. Bit (σ v)) (a ∷ b ∷ r ∷ []) → Says t (C (σ a) (σ b)) →
      Good (rule β R) (value (σ a ∷ σ b ∷ σ r ∷ [])) (value []) ↔ ((on σ r iff t) ≡ true)
  reified-exact R C rows a b r h s =
      agree (says-reified σ r s) (rows (σ r) h.1.1.0 (σ a) (σ b) (in_bit (σ a) h.0) (in_bit (σ b) h.1.0))

  -- ---- 18 bool_and: both are 1 where their sum is 2

  says_both : (a b : ℕ) → Bit (σ a) → Bit (σ b) → Says (on σ a && on σ b) (+2 ⊑ σ a ⊕ σ b)
  unfolding on
  says_both a b s t = says_as (says-and (says-equal (σ a) +1) (says-equal (σ b) +1)) (both (σ a) s (σ b) t)
    where
      both : (x : ℤ) → Bit x → (y : ℤ) → Bit y → ((x ≡ +1) × (y ≡ +1)) ↔ (+2 ⊑ x ⊕ y)
      both = simp bits (simp linear (omega arith))

  and-rows : (r : ℤ) → Bit r → (x y : ℤ) → In bit x → In bit y →
      Good (rule β (bool_and 0 1 2)) (value (x ∷ y ∷ r ∷ [])) (value []) ↔ Reified r (+2 ⊑ x ⊕ y)
  unfolding rule ◌─◌≤0 value
  and-rows = simp bits (simp linear (omega arith))

  pub bool_and_exact : (a b r : ℕ) → Exact β σ (bool_and a b r)
  unfolding rule ◌─◌≤0 meaning boolean_arguments value
  bool_and_exact a b r α f =
      reified-exact (bool_and 0 1 2) (λ x y. +2 ⊑ x ⊕ y) and-rows a b r f.zero_one (says_both a b f.zero_one.0 f.zero_one.1.0)

  -- ---- 19 bool_or: one of them is 1 where their sum is at least 1

  says-either : (a b : ℕ) → Bit (σ a) → Bit (σ b) → Says (on σ a || on σ b) (+1 ⊑ σ a ⊕ σ b)
  unfolding on
  says-either a b s t =
      says_as (says-or (says-equal (σ a) +1) (says-equal (σ b) +1))
      (enough (σ a) s (σ b) t, λ h. bit_case s (λ e. inr (other (σ a) (σ b) e (in_bit (σ b) t) h)) (λ e. inl e))
    where
      enough : (x : ℤ) → Bit x → (y : ℤ) → Bit y → (x ≡ +1) ⊎ (y ≡ +1) → +1 ⊑ x ⊕ y
      enough = simp bits (simp linear (omega arith))

      other : (x y : ℤ) → x ≡ +0 → In bit y → +1 ⊑ x ⊕ y → y ≡ +1
      other = simp linear (omega arith)

  or-rows : (r : ℤ) → Bit r → (x y : ℤ) → In bit x → In bit y →
      Good (rule β (bool_or 0 1 2)) (value (x ∷ y ∷ r ∷ [])) (value []) ↔ Reified r (+1 ⊑ x ⊕ y)
  unfolding rule value
  or-rows = simp bits (simp linear (omega arith))

  pub bool_or_exact : (a b r : ℕ) → Exact β σ (bool_or a b r)
  unfolding rule meaning boolean_arguments value
  bool_or_exact a b r α f =
      reified-exact (bool_or 0 1 2) (λ x y. +1 ⊑ x ⊕ y) or-rows a b r f.zero_one (says-either a b f.zero_one.0 f.zero_one.1.0)

  -- ---- 20 bool_xor, 34 bool_eq_reif

  -- the two rows after the products, where x and y are these
  decided : (equal : Bool) (r : ℤ) → Bit r → (a b : ℤ) → In bit a → In bit b → (x y : ℤ) → x ≡ r ⊗ a → y ≡ r ⊗ b →
      All (Sat (see (value (a ∷ b ∷ r ∷ [])) (value (x ∷ y ∷ [])))) (same_rows equal 0 1 2) ↔ Reified r (Same equal a b)
  unfolding same_rows ◌─◌=0 value
  decided true = simp bits (simp linear (omega arith))
  decided false = simp bits (simp (linear, not-not) (omega arith))

  same-rows : (equal : Bool) (a b r : ℕ) → Bit (σ a) → Bit (σ b) → Bit (σ r) → (α : Valuation) → α 0 ≡ σ r ⊗ σ a → α 1 ≡ σ r ⊗ σ b →
      All (Sat (see σ α)) (same_rows equal a b r) ↔ Reified (σ r) (Same equal (σ a) (σ b))
  unfolding same_rows ◌─◌=0 value
  same-rows true a b r u v w α = decided true (σ r) w (σ a) (σ b) (in_bit (σ a) u) (in_bit (σ b) v) (α 0) (α 1)
  same-rows false a b r u v w α = decided false (σ r) w (σ a) (σ b) (in_bit (σ a) u) (in_bit (σ b) v) (α 0) (α 1)

  -- t is the test of the builtin; the products are the picks
  same-reified : {F : Type 0} (equal : Bool) (a b r : ℕ) → (F → Bit (σ a) × Bit (σ b) × Bit (σ r)) → {t : Bool} → Says t (Same equal (σ a) (σ b)) →
      Represents F (same_reified equal a b r) σ ((σ r ⊗ σ a) ∷ (σ r ⊗ σ b) ∷ []) (on σ r iff t)
  unfolding same_reified value
  same-reified equal a b r h s = record {
    sound = λ α f g. (says-reified σ r s).1 ((same-rows equal a b r (h f).0 (h f).1 (h f).2 α g.1.0 g.1.1.0).0 g.1.1.1);
    complete = λ f m rest. (
      (kept (σ a) (h f).0 (σ r) (h f).2, (kept (σ b) (h f).1 (σ r) (h f).2, tt)),
      (refl, (refl, (same-rows equal a b r (h f).0 (h f).1 (h f).2 (value ((σ r ⊗ σ a) ∷ (σ r ⊗ σ b) ∷ rest)) refl refl).1 ((says-reified σ r s).0 m))),
    );
    filled = refl;
    determined = λ α f g. (g.1.0, (g.1.1.0, tt));
  }
    where
      kept : (x : ℤ) → Bit x → (r : ℤ) → Bit r → In bit (r ⊗ x)
      kept = simp bits (simp linear (omega arith))

  pub bool_xor_correct : (a b r : ℕ) → Correct β σ (bool_xor a b r)
  unfolding rule meaning boolean_arguments pick
  bool_xor_correct a b r = same-reified false a b r (λ f. (f.zero_one.0, f.zero_one.1.0, f.zero_one.1.1.0)) (says-not (says-equal (σ a) (σ b)))

  pub bool_eq_reif_correct : (a b r : ℕ) → Correct β σ (bool_eq_reif a b r)
  unfolding rule meaning boolean_arguments pick
  bool_eq_reif_correct a b r = same-reified true a b r (λ f. (f.zero_one.0, f.zero_one.1.0, f.zero_one.1.1.0)) (says-equal (σ a) (σ b))

  -- ---- 35 bool_le_reif, 36 bool_lt_reif

  le-rows : (r : ℤ) → Bit r → (a b : ℤ) → In bit a → In bit b →
      Good (rule β (bool_le_reif 0 1 2)) (value (a ∷ b ∷ r ∷ [])) (value []) ↔ Reified r (a ⊑ b)
  unfolding rule ◌─◌≤0 value
  le-rows = simp bits (simp linear (omega arith))

  pub bool_le_reif_exact : (a b r : ℕ) → Exact β σ (bool_le_reif a b r)
  unfolding rule ◌─◌≤0 meaning boolean_arguments value
  bool_le_reif_exact a b r α f = reified-exact (bool_le_reif 0 1 2) ◌⊑◌ le-rows a b r f.zero_one (says-le (σ a) (σ b))

  lt-rows : (r : ℤ) → Bit r → (a b : ℤ) → In bit a → In bit b →
      Good (rule β (bool_lt_reif 0 1 2)) (value (a ∷ b ∷ r ∷ [])) (value []) ↔ Reified r (a ⊏ b)
  unfolding rule ◌─◌≤0 value
  lt-rows = simp bits (simp linear (omega arith))

  pub bool_lt_reif_exact : (a b r : ℕ) → Exact β σ (bool_lt_reif a b r)
  unfolding rule ◌─◌≤0 meaning boolean_arguments value
  bool_lt_reif_exact a b r α f = reified-exact (bool_lt_reif 0 1 2) ◌⊏◌ lt-rows a b r f.zero_one (says-lt (σ a) (σ b))
