-- The products of a power, written by halves.
use Rattle.std.proofs.Common.{◌≡◌, refl, sym, ap₂, ◌∙◌, subst, true, [], ◌∷◌, ◌++◌, ℕ, zero, suc, ◌+◌, ◌*◌, ◌/◌, ◌%◌, ◌≤◌, ◌<◌, arith, ℤ}
use native.Mathlib.Decide.{ℕ_discrete}
use Rattle.integers.specs.Number.{◌⊗◌}
use Rattle.words.specs.Small.{Near}
use Rattle.words.specs.Word.{in_range}
use Rattle.rules.specs.Power.{Values, next_value, no_value, squared_value, multiplied_value, power_values}
use Rattle.rules.specs.Pick.{power_pick}
use Rattle.rules.proofs.Power.{at_one, at_even, at-odd}
use Rattle.picking.specs.Output.{Ranged, Puts}
use Rattle.picking.specs.Powered.{PowersPut}
use Rattle.picking.specs.declared.Output.{Output}
use Rattle.picking.proofs.Puts.{then_puts, puts_none}
use Rattle.picking.proofs.Writing.{ranged-left, ranged-right}

-- ---- one product more

-- of a factor and the power
pub record NextPower (before after : Output) (held next factor : ℤ) : Type 0 where
  pub puts : Puts before ((factor ⊗ held) ∷ []) after
  pub value : next ≡ factor ⊗ held
  pub near : Near next

pub next_power : {q r : Output} {held next factor : ℤ} → Puts q ((factor ⊗ held) ∷ []) r → next ≡ factor ⊗ held → Near next → NextPower q r held next factor
next_power p v n = record { puts = p; value = v; near = n }

next-put : {p q r : Output} {held next : ℤ} {v : Values} {m : ℕ} {a : ℤ} (f : ℤ) → PowersPut p q held v m → a ≡ f → NextPower q r held next a →
    PowersPut p r next (next_value v f) (m + 10)
unfolding next_value
next-put {p} {q} {r} {held} {next} {v} f h e n =
    record {
      picked = subst (λ y. Puts p (v.picked ++ (y ∷ [])) r) (ap₂ ◌⊗◌ e h.held) (then_puts h.picked n.puts);
      held = n.value ∙ ap₂ ◌⊗◌ e h.held;
      near = n.near;
      few = omega (arith, h.few, n.puts.laid.ends);
    }

pub powers_one : (p : Output) (x : ℤ) (k : ℕ) → k < 2 → Near x → PowersPut p p x (power_values x k) (20 * k)
unfolding power_values no_value
powers_one p x k l h =
    subst (λ v. PowersPut p p x v (20 * k)) (sym (at_one (no_value x) (squared_value x) (multiplied_value x) k (omega arith)))
    (record { picked = puts_none; held = refl; near = h; few = omega arith })

-- ---- a power by its half

module _ (x : ℤ) (k : ℕ) (two : 2 ≤ k) where
  even_values : k % 2 ≡ 0 → power_values x k ≡ squared_value x (power_values x (k / 2))
  unfolding power_values
  even_values e = at_even (no_value x) (squared_value x) (multiplied_value x) k two e

  odd-values : ¬ (k % 2 ≡ 0) → power_values x k ≡ multiplied_value x (squared_value x (power_values x (k / 2)))
  unfolding power_values
  odd-values e = at-odd (no_value x) (squared_value x) (multiplied_value x) k two e

  -- what is in the range where all products are
  module _ (h : Ranged (power_values x k).picked) where
    odd-ranged : ¬ (k % 2 ≡ 0) → Ranged (multiplied_value x (squared_value x (power_values x (k / 2)))).picked
    odd-ranged e = subst (λ (v : Values). Ranged v.picked) (odd-values e) h

    square-ranged : Ranged (squared_value x (power_values x (k / 2))).picked
    unfolding multiplied_value next_value
    square-ranged = go (ℕ_discrete (k % 2) 0)
      where
        go : Dec (k % 2 ≡ 0) → Ranged (squared_value x (power_values x (k / 2))).picked
        go (yes e) = subst (λ (v : Values). Ranged v.picked) (even_values e) h
        go (no e) = ranged-left (squared_value x (power_values x (k / 2))).picked _ (odd-ranged e)

    pub half-ranged : Ranged (power_values x (k / 2)).picked
    unfolding squared_value next_value
    half-ranged = ranged-left (power_values x (k / 2)).picked _ square-ranged

    pub square_in : in_range ((power_values x (k / 2)).held ⊗ (power_values x (k / 2)).held) ≡ true
    unfolding squared_value next_value
    square_in = ranged-right (power_values x (k / 2)).picked _ square-ranged 0

    pub odd_in : ¬ (k % 2 ≡ 0) → in_range (x ⊗ (squared_value x (power_values x (k / 2))).held) ≡ true
    unfolding multiplied_value next_value
    odd_in e = ranged-right (squared_value x (power_values x (k / 2))).picked _ (odd-ranged e) 0

  module _ {p q r : Output} {half square : ℤ} (h : PowersPut p q half (power_values x (k / 2)) (20 * (k / 2))) (n : NextPower q r half square half) where
    pub square-put : PowersPut p r square (squared_value x (power_values x (k / 2))) (20 * (k / 2) + 10)
    unfolding squared_value
    square-put = next-put (power_values x (k / 2)).held h h.held n

    pub even_put : k % 2 ≡ 0 → PowersPut p r square (power_values x k) (20 * k)
    even_put e =
        let t = square-put in
        subst (λ v. PowersPut p r square v (20 * k)) (sym (even_values e)) (record { picked = t.picked; held = t.held; near = t.near; few = omega (arith, t.few) })

    pub odd-put : ¬ (k % 2 ≡ 0) → {s : Output} {power : ℤ} → NextPower r s square power x → PowersPut p s power (power_values x k) (20 * k)
    unfolding multiplied_value
    odd-put e {s} {power} m =
        let t = next-put x square-put refl m in
        subst (λ v. PowersPut p s power v (20 * k)) (sym (odd-values e)) (record { picked = t.picked; held = t.held; near = t.near; few = omega (arith, t.few) })

-- ---- the picks

pub pick_some : (x : ℤ) (k : ℕ) → 1 ≤ k → power_pick x k ≡ (power_values x k).picked
unfolding power_pick
pick_some x zero l = absurd (omega arith)
pick_some x (suc k) l = refl
