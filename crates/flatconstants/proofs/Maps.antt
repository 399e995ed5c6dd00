-- Keys that are whole numbers.
use Rattle.std.proofs.Common.{◌≡◌, refl, sym, ap, ◌∙◌, Bool, true, false, cond, ℕ, ℤ, arith, Option}
use Rattle.std.specs.Ordering.{int_cmp, is_eq, MatchOrdering}
use Rattle.std.specs.declared.cmp.Ordering.{Ordering}
use Rattle.std.specs.declared.cmp.Ordering.TheVariants.{Less, Equal, Greater}
use Rattle.std.proofs.lemmas.Cmp.{int_ranked}
use Rattle.integers.specs.Choice.{◌if◌else◌}
use Rattle.integers.specs.Number.{◌≟◌}
use Rattle.integers.proofs.Linear.{◌⊏◌, linear}
use Rattle.integers.proofs.Tests.{Says, says-equal, same_test}

below_apart : (x y : ℤ) → x ⊏ y → x ≡ y → ⊥
below_apart = simp linear (omega arith)

above_apart : (x y : ℤ) → y ⊏ x → x ≡ y → ⊥
above_apart = simp linear (omega arith)

says_is_eq : (x y : ℤ) (r : Ordering) → MatchOrdering r (x ⊏ y) (x ≡ y) (y ⊏ x) → Says (is_eq r) (x ≡ y)
says_is_eq x y Less h = (λ e. absurd cc, λ e. absurd (below_apart x y h e))
says_is_eq x y Equal h = (λ e. h, λ e. refl)
says_is_eq x y Greater h = (λ e. absurd cc, λ e. absurd (above_apart x y h e))

same_key : (k q : ℤ) → is_eq (int_cmp k q) ≡ (q ≟ k)
same_key k q = same_test (says_is_eq k q (int_cmp k q) (int_ranked k q (int_cmp k q) refl)) (says-equal q k) (λ e. sym e, λ e. sym e)

pub at_number : (k q : ℤ) (now new : Option ℕ) (after : Option ℕ) → after ≡ cond (is_eq (int_cmp k q)) new now → after ≡ (new if q ≟ k else now)
at_number k q now new after e = e ∙ ap (λ (b : Bool). cond b new now) (same_key k q) ∙ by (q ≟ k)
  where
    by : (b : Bool) → cond b new now ≡ (new if b else now)
    by true = refl
    by false = refl
