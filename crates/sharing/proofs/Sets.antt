-- 27 set_in and 28 set_in_reif: their blocks hold exactly where x is in the set, and where r says whether it is.
use Rattle.std.proofs.Common.{◌≡◌, refl, ap, ◌↔◌, Bool, true, false, List, [], ◌∷◌, ◌++◌, map, arith, ℕ, zero, suc, ℤ, pos}
use mathlib.Core.Bool.{beq}
use Rattle.integers.specs.Choice.{◌if◌else◌}
use Rattle.integers.specs.Number.{◌⊕◌, ◌⊖◌, ◌⊗◌, ◌≟◌, count, +0, +1, -1}
use Rattle.integers.specs.Lists.{list_of}
use Rattle.integers.specs.Bounds.{width, values}
use Rattle.integers.specs.Terms.{Valuation, Term, ◌·◌, value}
use Rattle.integers.specs.declared.Bounds.{Bounds}
use Rattle.integers.proofs.Linear.{linear, arith_z}
use Rattle.integers.proofs.Bits.{Bit, b0, b1}
use Rattle.integers.proofs.Tests.{Says, false-true}
use Rattle.integers.proofs.Sums.{count-from}
use Rattle.models.specs.Builtin.{set_in, set_in_reif}
use Rattle.models.specs.Meaning.{meaning, on, member}
use Rattle.models.proofs.Arguments.{integer_arguments, boolean_arguments}
use Rattle.rowsystems.specs.Row.{sum=0}
use Rattle.rules.specs.Block.{source, aux}
use Rattle.rules.specs.Parts.{one, members}
use Rattle.rules.specs.Shared.{keep}
use Rattle.rules.specs.Rule.{rule, in_set, in_set_reified}
use Rattle.rules.specs.Pick.{bit_of, first_bit, pick}
use Rattle.sharing.proofs.Good.{dot, Sat, see}
use Rattle.sharing.proofs.Basics.{Correct}
use Rattle.sharing.proofs.OneHot.{dot-append, bit_sum, less-variable, Chooses, chosen-one, chosen_at, one_hot_sound, one_hot_complete, chosen-value, picked_value, bits-filled}
use Rattle.rules.proofs.Members.{member-passes, says-member, values-member, members-values, members-member, values_distinct, members_distinct}
use Rattle.sharing.proofs.FirstOnly.{value-bits}

-- ---- 27

pub set_in_correct : (β : ℕ → Bounds) (σ : Valuation) (x : ℕ) (S : List ℤ) → Correct β σ (set_in x S)
unfolding meaning rule in_set pick integer_arguments
set_in_correct β σ x S = record {
  sound = λ α f g.
      let c = chosen-value vs σ α x (one_hot_sound vs σ α g.0 g.1.0) g.1.1.0 in
      (says-member (σ x) S).1 ((members-member S (β x) (σ x)).0 c.0).1;
  complete = λ f t rest.
      let m = (members-member S (β x) (σ x)).1 (f.kept.0, (says-member (σ x) S).0 t) in
      let p = one_hot_complete (λ v. v ≟ σ x) vs rest (member-passes (σ x) vs m) in
      let α = value (first_bit (λ v. v ≟ σ x) vs ++ rest) in
      let c = picked_value vs α (σ x) p.1 in
      (p.0, (chosen-one vs σ α (σ x) c, ((chosen_at vs σ α (σ x) c (λ v. v) x).1 refl, tt)));
  filled = bits-filled (λ v. v ≟ σ x) vs;
  determined = λ α f g. value-bits vs σ α x (members_distinct S (β x)) g.0 g.1.0 g.1.1.0;
}
  where
    vs : List ℤ
    vs = members S (β x)

-- ---- 28

-- Σ w×bit over the labels that pass a test, the label of place k having its bit at g
pub dot-kept : {A X : Type 0} (w : A → ℤ) (t : A → Bool) (f : ℕ → A) (n : ℕ) (g : A → X) (θ : X → ℤ) (γ : Valuation) → ((k : ℕ) → θ (g (f k)) ≡ γ k) →
    dot θ (map (λ v. w v · g v) (keep t (list_of f n))) ≡ bit_sum (λ v. w v if t v else +0) (list_of f n) γ
unfolding list_of
dot-kept w t f zero g θ γ h = refl
dot-kept {A} {X} w t f (suc n) g θ γ h = go (t (f 0)) (dot-kept w t (λ k. f (suc k)) n g θ (λ k. γ (suc k)) (λ k. h (suc k)))
  where
    row : List A → List (Term X)
    row vs = map (λ v. w v · g v) vs

    K : List A
    K = keep t (list_of (λ k. f (suc k)) n)

    H : ℤ
    H = bit_sum (λ v. w v if t v else +0) (list_of (λ k. f (suc k)) n) (λ k. γ (suc k))

    without : (s h x : ℤ) → s ≡ h → s ≡ pos 0 ⊗ x ⊕ h
    without = simp linear (omega arith)

    go : (b : Bool) → dot θ (row K) ≡ H → dot θ (row (f 0 ∷ K if b else K)) ≡ (w (f 0) if b else +0) ⊗ γ 0 ⊕ H
    go true e = rw (h 0, e)
    go false e = without _ _ _ e

-- the third row: r is 1 exactly where the chosen value is in the set
third-row : (B : Bounds) (S : List ℤ) (r : ℕ) (σ α : Valuation) (v : ℤ) → Chooses (values B) α v →
    Sat (see σ α) (sum=0 (map (λ v. +1 · aux (count (v ⊖ B.lower))) (members S B) ++ (-1 · source r ∷ [])) +0) ↔ (bit_of (member v S) ≡ σ r)
unfolding values width bit_of
third-row B S r σ α v c =
    rw (
      dot-append (see σ α) (map (λ v. +1 · aux (count (v ⊖ B.lower))) (members S B)),
      members-values S B,
      dot-kept one (λ v. member v S) (λ k. B.lower ⊕ pos k) (count (B.upper ⊖ B.lower ⊕ +1)) (λ v. aux (count (v ⊖ B.lower))) (see σ α) α
          (λ k. ap α (count-from B.lower k)),
      c.1 (λ v. bit_of (member v S)),
    )
    (less-variable _ _)

pub says-bit : (t : Bool) {r : ℤ} → Bit r → Says (beq (r ≟ +1) t) (bit_of t ≡ r)
unfolding bit_of ◌≟◌
says-bit true b0 = (λ e. false-true e, λ e. absurd (omega arith_z))
says-bit true b1 = (λ e. refl, λ e. refl)
says-bit false b0 = (λ e. refl, λ e. refl)
says-bit false b1 = (λ e. false-true e, λ e. absurd (omega arith_z))

pub set_in_reif_correct : (β : ℕ → Bounds) (σ : Valuation) (x : ℕ) (S : List ℤ) (r : ℕ) → Correct β σ (set_in_reif x S r)
unfolding meaning on rule in_set_reified pick integer_arguments boolean_arguments
set_in_reif_correct β σ x S r = record {
  sound = λ α f g.
      let c = chosen-value vs σ α x (one_hot_sound vs σ α g.0 g.1.0) g.1.1.0 in
      (says-bit (member (σ x) S) f.zero_one.0).1 ((third-row (β x) S r σ α (σ x) c).0 g.1.1.1.0);
  complete = λ f t rest.
      let p = one_hot_complete (λ v. v ≟ σ x) vs rest (member-passes (σ x) vs ((values-member (β x) (σ x)).1 f.kept.0)) in
      let α = value (first_bit (λ v. v ≟ σ x) vs ++ rest) in
      let c = picked_value vs α (σ x) p.1 in
      let b = (says-bit (member (σ x) S) f.zero_one.0).0 t in
      (p.0, (chosen-one vs σ α (σ x) c, ((chosen_at vs σ α (σ x) c (λ v. v) x).1 refl, ((third-row (β x) S r σ α (σ x) c).1 b, tt))));
  filled = bits-filled (λ v. v ≟ σ x) vs;
  determined = λ α f g. value-bits vs σ α x (values_distinct (β x)) g.0 g.1.0 g.1.1.0;
}
  where
    vs : List ℤ
    vs = values (β x)
