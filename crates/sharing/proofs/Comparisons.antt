-- Codes 1 to 5 and 30, the comparisons of two variables.
use Rattle.std.proofs.Common.{◌≡◌, refl, ◌↔◌, Bool, true, [], ◌∷◌, ℕ, arith, ℤ}
use Rattle.integers.specs.Number.{◌⊕◌, ◌≟◌, +0, +1}
use Rattle.integers.specs.Bounds.{◌to◌, bounds_in}
use Rattle.integers.specs.Terms.{Valuation, value}
use Rattle.integers.specs.declared.Bounds.{Bounds}
use Rattle.integers.proofs.Linear.{◌⊑◌, ◌⊏◌, rep, linear}
use Rattle.integers.proofs.Bits.{Bit, bits, Reified}
use Rattle.integers.proofs.Tests.{Says, In, says-le, says-lt, says-equal, says-not}
use Rattle.models.specs.Builtin.{int_eq, int_le, int_lt, int_ne, int_le_reif, int_lt_reif}
use Rattle.models.specs.Meaning.{meaning, on, ◌iff◌}
use Rattle.models.proofs.Arguments.{integer_arguments, boolean_arguments}
use Rattle.rules.specs.Block.{source, block}
use Rattle.rules.specs.Parts.{◌─◌=0}
use Rattle.rules.specs.Rule.{rule, where_one, where_zero, order_reified}
use Rattle.rules.specs.Pick.{pick}
use Rattle.sharing.proofs.Good.{Good, see}
use Rattle.sharing.proofs.Basics.{Correct, Exact, agree, says_as, says-reified, equal-row, not_above_row, one-row, Decides, represents-one_bit, not-not}

module _ (β : ℕ → Bounds) (σ : Valuation) where
  -- ---- 1 int_eq

  -- the block of 1 and of 16
  pub equal-block : (α : Valuation) (a b : ℕ) → Good (block [] (source a ─ source b =0 ∷ [])) σ α ↔ ((σ a ≟ σ b) ≡ true)
  equal-block α a b = agree (says-equal (σ a) (σ b)) (one-row (equal-row (see σ α) (source a) (source b)))

  pub int_eq_exact : (a b : ℕ) → Exact β σ (int_eq a b)
  unfolding rule meaning
  int_eq_exact a b α f = equal-block α a b

  -- ---- 2 int_le

  pub int_le_exact : (a b : ℕ) → Exact β σ (int_le a b)
  unfolding rule meaning
  int_le_exact a b α f = agree (says-le (σ a) (σ b)) (one-row (not_above_row (see σ α) (source a) (source b)))

  -- ---- 3 int_lt

  pub int_lt_exact : (a b : ℕ) → Exact β σ (int_lt a b)
  unfolding rule meaning
  int_lt_exact a b α f = agree (says-lt (σ a) (σ b)) (rw (rep (σ a), rep (σ b)) (simp linear (omega arith)))

  -- ---- 4 int_ne: r is 1 where b < a

  ne_rows : (a b : ℕ) → In (β a) (σ a) × In (β b) (σ b) → Decides (λ r. Good (rule β (int_ne a b)) σ (value (r ∷ []))) (¬ (σ a ≡ σ b)) (σ b ⊏ σ a)
  unfolding rule where_one where_zero value
  ne_rows a b =
      rw (rep (σ a), rep (σ b), rep (β a).lower, rep (β a).upper, rep (β b).lower, rep (β b).upper) (simp (linear, not-not) (omega arith))

  pub int_ne_correct : (a b : ℕ) → Correct β σ (int_ne a b)
  unfolding rule where_one where_zero meaning integer_arguments pick value
  int_ne_correct a b =
      represents-one_bit (λ f. ne_rows a b (f.kept.0, f.kept.1.0)) (says-not (says-equal (σ a) (σ b))) (says-lt (σ b) (σ a)) (λ α g. g) (λ r rest g. g)

  -- ---- 5 int_le_reif, 30 int_lt_reif: a + d ≤ b reified, d and e are 0 and 1, or 1 and 0

  order-rows : (r : ℤ) → Bit r → (d e x y l h l' h' : ℤ) → d ⊕ e ≡ +1 → In (l to h) x → In (l' to h') y →
      Good (order_reified (bounds_in ((l to h) ∷ (l' to h') ∷ [])) d e 0 1 2) (value (x ∷ y ∷ r ∷ [])) (value []) ↔ Reified r (x ⊕ d ⊑ y)
  unfolding order_reified where_one where_zero bounds_in value
  order-rows = simp bits (simp linear (omega arith))

  -- t is the test of the builtin
  order-exact : (d e : ℤ) → d ⊕ e ≡ +1 → {t : Bool} (a b r : ℕ) → Says t (σ a ⊕ d ⊑ σ b) → Bit (σ r) → In (β a) (σ a) → In (β b) (σ b) →
      (α : Valuation) → Good (order_reified β d e a b r) σ α ↔ ((on σ r iff t) ≡ true)
  unfolding order_reified where_one where_zero bounds_in value
  order-exact d e i a b r s w h k α =
      agree (says-reified σ r s) (order-rows (σ r) w d e (σ a) (σ b) (β a).lower (β a).upper (β b).lower (β b).upper i h k)

  pub int_le_reif_exact : (a b r : ℕ) → Exact β σ (int_le_reif a b r)
  unfolding rule meaning integer_arguments boolean_arguments ◌⊕◌
  int_le_reif_exact a b r α f =
      order-exact +0 +1 refl a b r (says_as (says-le (σ a) (σ b)) (rw (rep (σ a), rep (σ b)) (simp linear (omega arith)))) f.zero_one.0 f.kept.0 f.kept.1.0 α

  pub int_lt_reif_exact : (a b r : ℕ) → Exact β σ (int_lt_reif a b r)
  unfolding rule meaning integer_arguments boolean_arguments ◌⊕◌
  int_lt_reif_exact a b r α f =
      order-exact +1 +0 refl a b r (says_as (says-lt (σ a) (σ b)) (rw (rep (σ a), rep (σ b)) (simp linear (omega arith)))) f.zero_one.0 f.kept.0 f.kept.1.0 α
