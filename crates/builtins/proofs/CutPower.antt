-- A power cut to −far..far, by halves; it is equal to a value where the power is.
use Rattle.std.proofs.Common.{◌≡◌, sym, ap, ap₂, ◌∙◌, ℕ, suc, ◌+◌, ◌*◌, ◌/◌, ◌%◌, ◌≤◌, ◌<◌, arith, ℤ, nat_abs}
use Rattle.integers.specs.Number.{◌⊗◌, neg, cut, ◌≟◌}
use Rattle.integers.proofs.Linear.{◌⊑◌, ◌⊏◌, linear, arith_z}
use Rattle.integers.proofs.Fits.{mul-le}
use Rattle.integers.proofs.Cut.{cut_inside, cut-size, cut-equal, cut_product}
use Rattle.words.specs.Small.{Near}
use Rattle.models.specs.Meaning.{power}
use Rattle.models.proofs.Power.{power-one, power-add}
use Rattle.builtins.specs.Coded.{far}

near-far : (x : ℤ) → Near x → (neg far ⊏ x) × (x ⊏ far)
near-far = simp linear (omega arith)

near-cut : (x : ℤ) → Near x → x ≡ cut far x
near-cut x h = let k = inside x h in sym (cut_inside far x k.0 k.1)
  where
    inside : (x : ℤ) → Near x → (neg far ⊑ x) × (x ⊑ far)
    inside = simp linear (omega arith)

pub power-equal : (p z : ℤ) → Near z → (cut far p ≟ z) ≡ (p ≟ z)
power-equal p z h = let k = near-far z h in cut-equal far p z k.0 k.1

-- products of what was cut fit
pub cut_fits : (a b p q : ℤ) → a ≡ cut far p → b ≡ cut far q → nat_abs a * nat_abs b < 9223372036854775808
cut_fits a b p q e f =
    let size : (p : ℤ) → nat_abs (cut far p) ≤ 268435456 = λ p. cut-size far p (omega arith_z) in
    omega (arith, mul-le {a = nat_abs a} {b = nat_abs b} {m = 268435456} {n = 268435456} (omega (arith, ap nat_abs e, size p)) (omega (arith, ap nat_abs f, size q)))

pub near_fits : (x b q : ℤ) → Near x → b ≡ cut far q → nat_abs x * nat_abs b < 9223372036854775808
near_fits x b q h f = cut_fits x b x q (near-cut x h) f

-- ---- by halves

pub cut-one : (x : ℤ) (k : ℕ) → Near x → 1 ≤ k → k < 2 → x ≡ cut far (power x k)
cut-one x k h l m = let i : 1 ≡ k = omega arith in near-cut x h ∙ ap (cut far) (sym (power-one x) ∙ ap (power x) i)

pub cut-square : (x : ℤ) (k : ℕ) (h : ℤ) → h ≡ cut far (power x k) → cut far (h ⊗ h) ≡ cut far (power x (k + k))
cut-square x k h e = ap (λ p. cut far (p ⊗ p)) e ∙ cut_product far (omega arith_z) (power x k) (power x k) ∙ ap (cut far) (sym (power-add x k k))

pub cut_even : (x : ℤ) (k : ℕ) (h : ℤ) → h ≡ cut far (power x (k / 2)) → k % 2 ≡ 0 → cut far (h ⊗ h) ≡ cut far (power x k)
cut_even x k h e m = let i : k / 2 + k / 2 ≡ k = omega arith in cut-square x (k / 2) h e ∙ ap (λ n. cut far (power x n)) i

pub cut-odd : (x : ℤ) (k : ℕ) (s : ℤ) → Near x → s ≡ cut far (power x (k / 2 + k / 2)) → ¬ (k % 2 ≡ 0) → cut far (x ⊗ s) ≡ cut far (power x k)
unfolding power
cut-odd x k s h e m =
    let i : suc (k / 2 + k / 2) ≡ k = omega arith in
    ap₂ (λ a b. cut far (a ⊗ b)) (near-cut x h) e ∙ cut_product far (omega arith_z) x (power x (k / 2 + k / 2)) ∙ ap (λ n. cut far (power x n)) i
