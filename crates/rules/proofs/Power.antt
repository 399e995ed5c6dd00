-- The recursion that halves the exponent: what it keeps, by one induction for every exponent, and one step of it.
use Rattle.std.proofs.Common.{◌≡◌, refl, ap, subst, Bool, true, false, ℕ, zero, suc, ◌+◌, ◌/◌, ◌%◌, ◌≤◌, arith, leb, eqb, eq-eqb, ne_eqb, eqb-true, leb-true, leb-false}
use borrow.Author.Tests.{eqb-false}
use Rattle.integers.specs.Choice.{◌if◌else◌}
use Rattle.rules.specs.Power.{by_halves}

-- ---- two recursions at once: what holds of both for 1, and of the next steps for twice the exponent and for one more, holds for every exponent from 1 on

module _ {A B : Type 0} (R : ℕ → A → B → Type 0) {s : A} {f g : A → A} {s' : B} {f' g' : B → B}
    (one : R 1 s s')
    (twice : (k : ℕ) (a : A) (b : B) → R k a b → R (k + k) (f a) (f' b))
    (more : (k : ℕ) (a : A) (b : B) → R k a b → R (suc k) (g a) (g' b)) where
  halves : (steps k : ℕ) → 1 ≤ k → k ≤ steps → R k (by_halves s f g steps k) (by_halves s' f' g' steps k)
  unfolding by_halves
  halves zero k l m = absurd (omega arith)
  halves (suc steps) k l m = go (leb k 1) refl (eqb (k % 2) 0) refl (halves steps (k / 2))
    where
      go : (t : Bool) → leb k 1 ≡ t → (u : Bool) → eqb (k % 2) 0 ≡ u →
          (1 ≤ k / 2 → k / 2 ≤ steps → R (k / 2) (by_halves s f g steps (k / 2)) (by_halves s' f' g' steps (k / 2))) →
          let a = f (by_halves s f g steps (k / 2)) in
          let b = f' (by_halves s' f' g' steps (k / 2)) in
          R k (s if t else a if u else g a) (s' if t else b if u else g' b)
      go true e u d r = let i : 1 ≡ k = omega (arith, leb-true k 1 e) in subst (λ n. R n s s') i one
      go false e true d r =
          let h = r (omega (arith, leb-false k 1 e)) (omega (arith, leb-false k 1 e)) in
          let i : k / 2 + k / 2 ≡ k = omega (arith, eqb-true (k % 2) 0 d) in
          subst (λ n. R n (f (by_halves s f g steps (k / 2))) (f' (by_halves s' f' g' steps (k / 2)))) i (twice (k / 2) _ _ h)
      go false e false d r =
          let h = r (omega (arith, leb-false k 1 e)) (omega (arith, leb-false k 1 e)) in
          let i : suc (k / 2 + k / 2) ≡ k = omega (arith, eqb-false (k % 2) 0 d) in
          subst (λ n. R n (g (f (by_halves s f g steps (k / 2)))) (g' (f' (by_halves s' f' g' steps (k / 2))))) i (more (k / 2 + k / 2) _ _ (twice (k / 2) _ _ h))

  pub by-halves : (k : ℕ) → 1 ≤ k → R k (by_halves s f g k k) (by_halves s' f' g' k k)
  by-halves k l = halves k k l (omega arith)

-- one recursion: what every step keeps
module _ {A : Type 0} (P : A → Type 0) {s : A} {f g : A → A} (one : P s) (twice : (a : A) → P a → P (f a)) (more : (a : A) → P a → P (g a)) where
  pub kept_by_halves : (k : ℕ) → 1 ≤ k → P (by_halves s f g k k)
  kept_by_halves = by-halves (λ k a b. P a) {s' = s} {f' = f} {g' = g} one (λ k a b. twice a) (λ k a b. more a)

-- ---- one step, whatever the number of steps that are left

module _ {A : Type 0} (s : A) (f g : A → A) where
  enough : (m n k : ℕ) → k ≤ m → k ≤ n → by_halves s f g m k ≡ by_halves s f g n k
  unfolding by_halves
  enough zero zero k h i = refl
  enough zero (suc n) k h i = none (leb k 1) refl
    where
      none : (t : Bool) → leb k 1 ≡ t → s ≡ (s if t else f (by_halves s f g n (k / 2)) if eqb (k % 2) 0 else g (f (by_halves s f g n (k / 2))))
      none true e = refl
      none false e = absurd (omega (arith, leb-false k 1 e))
  enough (suc m) zero k h i = none (leb k 1) refl
    where
      none : (t : Bool) → leb k 1 ≡ t → (s if t else f (by_halves s f g m (k / 2)) if eqb (k % 2) 0 else g (f (by_halves s f g m (k / 2)))) ≡ s
      none true e = refl
      none false e = absurd (omega (arith, leb-false k 1 e))
  enough (suc m) (suc n) k h i = some (leb k 1) refl (enough m n (k / 2))
    where
      some : (t : Bool) → leb k 1 ≡ t → (k / 2 ≤ m → k / 2 ≤ n → by_halves s f g m (k / 2) ≡ by_halves s f g n (k / 2)) →
          (s if t else f (by_halves s f g m (k / 2)) if eqb (k % 2) 0 else g (f (by_halves s f g m (k / 2))))
          ≡ (s if t else f (by_halves s f g n (k / 2)) if eqb (k % 2) 0 else g (f (by_halves s f g n (k / 2))))
      some true e r = refl
      some false e r = ap (λ c. f c if eqb (k % 2) 0 else g (f c)) (r (omega (arith, leb-false k 1 e)) (omega (arith, leb-false k 1 e)))

  pub at_one : (k : ℕ) → k ≤ 1 → by_halves s f g k k ≡ s
  unfolding by_halves
  at_one zero l = refl
  at_one (suc zero) l = refl
  at_one (suc (suc k)) l = absurd (omega arith)

  at-half : (k : ℕ) → 2 ≤ k → let h = f (by_halves s f g (k / 2) (k / 2)) in by_halves s f g k k ≡ (h if eqb (k % 2) 0 else g h)
  unfolding by_halves
  at-half zero l = absurd (omega arith)
  at-half (suc k) l = go (leb (suc k) 1) refl
    where
      go : (t : Bool) → leb (suc k) 1 ≡ t → let h = f (by_halves s f g (suc k / 2) (suc k / 2)) in
          (s if t else f (by_halves s f g k (suc k / 2)) if eqb (suc k % 2) 0 else g (f (by_halves s f g k (suc k / 2)))) ≡ (h if eqb (suc k % 2) 0 else g h)
      go true e = absurd (omega (arith, leb-true (suc k) 1 e))
      go false e = ap (λ c. f c if eqb (suc k % 2) 0 else g (f c)) (enough k (suc k / 2) (suc k / 2) (omega arith) (omega arith))

  pub at_even : (k : ℕ) → 2 ≤ k → k % 2 ≡ 0 → by_halves s f g k k ≡ f (by_halves s f g (k / 2) (k / 2))
  at_even k l e = rw (eq-eqb (k % 2) 0 e) at (at-half k l)

  pub at-odd : (k : ℕ) → 2 ≤ k → ¬ (k % 2 ≡ 0) → by_halves s f g k k ≡ g (f (by_halves s f g (k / 2) (k / 2)))
  at-odd k l e = rw (ne_eqb (k % 2) 0 e) at (at-half k l)
