-- Values that are 0 or 1: `simp bits (simp linear (omega arith))` proves a linear statement over them, `(r : ℤ) → Bit r → ..`.
use Rattle.std.proofs.Common.{◌≡◌, refl, ◌↔◌, zero, suc, ℤ, pos, negsuc}
use Rattle.integers.proofs.Linear.{◌⊑◌, arith_z}

pub data Bit : ℤ → Type 0 where
  b0 : Bit (pos 0)
  b1 : Bit (pos 1)

pub to-bit : (x : ℤ) → pos 0 ⊑ x → x ⊑ pos 1 → Bit x
to-bit (pos zero) h k = b0
to-bit (pos (suc zero)) h k = b1
to-bit (pos (suc (suc n))) h k = absurd (omega arith_z)
to-bit (negsuc n) h k = absurd h.le

pub bit_case : {x : ℤ} {G : Type 0} → Bit x → (x ≡ pos 0 → G) → (x ≡ pos 1 → G) → G
bit_case b0 f g = f refl
bit_case b1 f g = g refl

pub bit-of : (Q : ℤ → Type 0) → Q (pos 0) → Q (pos 1) → {r : ℤ} → Bit r → Q r
bit-of Q x y b0 = x
bit-of Q x y b1 = y

pub all-bits : (Q : ℤ → Type 0) → ((r : ℤ) → Bit r → Q r) ↔ (Q (pos 0) × Q (pos 1))
all-bits Q = (λ f. (f (pos 0) b0, f (pos 1) b1), λ h r w. bit-of Q h.0 h.1 w)

-- r is 1 exactly where A
unfoldable pub Reified : ℤ → Type 0 → Type 0
Reified r A = (r ≡ pos 1 → A) × (A → r ≡ pos 1)

0≢1 : ¬ (pos 0 ≡ pos 1)
0≢1 e = omega arith_z

pub reified-0 : (A : Type 0) → Reified (pos 0) A ↔ ¬ A
unfolding Reified
reified-0 A = (λ h a. 0≢1 (h.1 a), λ f. (λ e. absurd (0≢1 e), λ a. absurd (f a)))

pub reified-1 : (A : Type 0) → Reified (pos 1) A ↔ A
unfolding Reified
reified-1 A = (λ h. h.0 refl, λ a. (λ e. a, λ x. refl))

pub ruleset bits = (all-bits, reified-0, reified-1)
