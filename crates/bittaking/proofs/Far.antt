-- Where a number is cut far from 0, what is made of it is outside the range either way.
use Rattle.std.proofs.Common.{◌≡◌, refl, sym, ◌∙◌, Bool, true, false, ◌+◌, ◌*◌, ◌≤◌, arith, ℤ, pos, nat_abs, to_z, of_z, w64, to_z-of_z}
use native.Mathlib.Decide.{dec_le}
use Rattle.integers.specs.Number.{◌⊕◌, ◌⊗◌, cut}
use Rattle.integers.proofs.Fits.{fits64, times-size, mul-le}
use Rattle.integers.proofs.Linear.{◌⊏◌, linear}
use Rattle.integers.proofs.Tests.{false-true}
use Rattle.words.specs.Word.{in_range}
use Rattle.words.proofs.ReadBack.{range-near}
use Rattle.bittaking.specs.Taking.{NearTimes, NearAdded, TakenAs}

near-same : (e : ℤ) → nat_abs e ≤ 536870912 → cut (pos 536870912) e ≡ e
unfolding cut
near-same = simp linear (omega arith)

cut-far : (e : ℤ) → 536870912 ≤ nat_abs e → nat_abs (cut (pos 536870912) e) ≡ 536870912
unfolding cut
cut-far = simp linear (omega arith)

pub cut-near : (e : ℤ) → nat_abs (cut (pos 536870912) e) ≤ 536870912
unfolding cut
cut-near = simp linear (omega arith)

above : (k : ℤ) → pos 0 ⊏ k → 1 ≤ nat_abs k
above = simp linear (omega arith)

parted : (p a : ℤ) → nat_abs p ≤ nat_abs (p ⊕ a) + nat_abs a
parted = simp linear (omega arith)

-- what is made of a number far from 0
outside : (k e a : ℤ) → NearTimes k → NearAdded a → 536870912 ≤ nat_abs e → in_range (k ⊗ e ⊕ a) ≡ false
outside k e a h l f = go (in_range (k ⊗ e ⊕ a)) refl
  where
    go : (t : Bool) → in_range (k ⊗ e ⊕ a) ≡ t → in_range (k ⊗ e ⊕ a) ≡ false
    go false q = q
    go true q =
        absurd (omega (arith, range-near (k ⊗ e ⊕ a) q, parted (k ⊗ e) a, times-size k e, mul-le {b = nat_abs e} {n = nat_abs e} (above k h.positive) (omega arith), l, f))

pub taken-cut : (k e a x : ℤ) → NearTimes k → NearAdded a → x ≡ k ⊗ cut (pos 536870912) e ⊕ a → TakenAs k e a x
taken-cut k e a x h l q = rw q (go (dec_le 536870912 (nat_abs e)))
  where
    go : Dec (536870912 ≤ nat_abs e) → TakenAs k e a (k ⊗ cut (pos 536870912) e ⊕ a)
    go (no n) = rw (near-same e (omega arith)) (record { tested = refl; same = λ t. refl })
    go (yes f) =
        let c = outside k (cut (pos 536870912) e) a h l (omega (arith, cut-far e f)) in
        record { tested = c ∙ sym (outside k e a h l f); same = λ t. false-true (sym c ∙ t) }

pub times-near : (k e : ℤ) → NearTimes k → nat_abs k * nat_abs (cut (pos 536870912) e) ≤ 144115188612726784
times-near k e h = omega (arith, mul-le h.few (cut-near e))

pub near-back : (z : ℤ) → nat_abs z ≤ 268435457 → to_z w64 (of_z w64 z) ≡ z
near-back z h = to_z-of_z (fits64 z (omega arith))
