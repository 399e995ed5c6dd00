-- Steps inside an item: one word, and one step after another.
use Rattle.std.proofs.Common.{◌≡◌, refl, ap, sym, ◌∙◌, Bool, true, false, not, ◌||◌, List, ℕ, ◌+◌, ◌<◌, ◌≤◌, arith, add-zero, eqb-true, eq-eqb, ne_eqb, ltb-true, ltb-false, T, ltb, leb, eqb, length}
use borrow.Author.Tests.{eqb-false}
use lib.Signed.{lt_z}
use Rattle.integers.specs.Choice.{◌if◌else◌}
use Rattle.integers.proofs.Tests.{false-true}
use Rattle.integers.proofs.Booleans.{neither}
use Rattle.words.specs.Fault as Fault
use Rattle.words.specs.Kind as Kind
use Rattle.words.specs.Limit as Limit
use Rattle.words.specs.Word.{kind, payload, signed, too_low, word_at}
use Rattle.words.specs.Variables.{starts_pair}
use Rattle.words.specs.Check.{fault_number_in, Step, step_over}
use Rattle.rowsystems.specs.Reading.{fault_upper, fault_variable, not_above, fault_result, fault_due, after_due, started}
use Rattle.rowsystems.specs.declared.Due.{Due}
use Rattle.rowsystems.specs.declared.Due.TheVariants.{Source, SourceUpper, Item, AuxiliaryUpper, Terms, Coefficient, Result, FirstFactor, SecondFactor, Ended}
use Rattle.rowreading.specs.Onward.{onward, stopped, resumed, starts_kind, stage, is_ended, StepsTo}
use Rattle.rowreading.proofs.Onward.{fault_at, here, go_on, stop-at}

-- ---- a word inside an item starts no variable

-- whether what is due stands after the head of an item
abbrev pub inner : Due → Bool
inner due = ltb 0 (stage due)

plain-started : (w : ℕ) → starts_kind (kind w) ≡ false → started w ≡ 0
unfolding started starts_pair starts_kind
plain-started w e = rw (neither ((eqb (kind w) Kind.lower || eqb (kind w) Kind.auxiliary_lower) || eqb (kind w) Kind.boolean) ((eqb (kind w) Kind.at_most || eqb (kind w) Kind.equal) || eqb (kind w) Kind.product) e).0

-- of a fault f of the word w: without it the word starts none of these, and only after the end is it that of one word more
abbrev Inside : Due → ℕ → ℕ → Type 0
Inside due w f = (0 ≡ f → starts_kind (kind w) ≡ false) × (11 ≡ f → is_ended due ≡ true)

never : (b : Bool) {x y : ℕ} → (11 ≡ x → ⊥) → (11 ≡ y → ⊥) → 11 ≡ (x if b else y) → ⊥
never true f g e = f e
never false f g e = g e

differs : {x : ℕ} → (eqb 11 x ≡ false) → 11 ≡ x → ⊥
differs {x} f e = eqb-false 11 x f e

-- where another kind than k has fault 3, and x is the fault of a word of kind k
module _ (due : Due) where
  of-kind : (k w x : ℕ) → starts_kind k ≡ false → (11 ≡ x → ⊥) → Inside due w (Fault.wrong_kind if not (eqb (kind w) k) else x)
  of-kind k w x z n = go (eqb (kind w) k) refl
    where
      go : (b : Bool) → eqb (kind w) k ≡ b → Inside due w (Fault.wrong_kind if not b else x)
      go true e = (λ q. ap starts_kind (eqb-true (kind w) k e) ∙ z, λ q. absurd (n q))
      go false e = (λ q. absurd (omega arith), λ q. absurd (omega arith))

  upper-inside : (k lower w : ℕ) → starts_kind k ≡ false → Inside due w (fault_upper k lower w)
  unfolding fault_upper
  upper-inside k lower w z = of-kind k w _ z (never (too_low Limit.range w) (differs {x = Fault.lowest_number} refl) (never (lt_z (signed w) (signed lower)) (differs {x = Fault.upper_below_lower} refl) (differs {x = Fault.none} refl)))

  variable-inside : (n w : ℕ) → Inside due w (fault_variable n w)
  unfolding fault_variable starts_kind
  variable-inside n w = of-kind Kind.variable w _ refl (never (leb n (payload w)) (differs {x = Fault.not_declared} refl) (differs {x = Fault.none} refl))

  number-inside : (w : ℕ) → Inside due w (fault_number_in Limit.range w)
  unfolding fault_number_in starts_kind
  number-inside w = of-kind Kind.number w _ refl (never (too_low Limit.range w) (differs {x = Fault.lowest_number} refl) (differs {x = Fault.none} refl))

  result-inside : (n w f g : ℕ) → Inside due w (fault_result n w f g)
  unfolding fault_result starts_kind
  result-inside n w f g = of-kind Kind.variable w _ refl (never (leb n (payload w)) (differs {x = Fault.not_declared} refl) (never (not_above w f g) (differs {x = Fault.result_not_above} refl) (differs {x = Fault.none} refl)))

word-inside : (due : Due) (n w : ℕ) (l : List ℕ) → T (inner due) → Inside due w (fault_due due n w l)
unfolding fault_due starts_kind
word-inside Source n w l i = absurd i
word-inside (SourceUpper lower) n w l i = upper-inside (SourceUpper lower) Kind.upper lower w refl
word-inside Item n w l i = absurd i
word-inside (AuxiliaryUpper lower) n w l i = upper-inside (AuxiliaryUpper lower) Kind.auxiliary_upper lower w refl
word-inside (Terms left) n w l i = go (ltb 0 left)
  where
    go : (b : Bool) → Inside (Terms left) w (fault_variable n w if b else fault_number_in Limit.range w)
    go true = variable-inside (Terms left) n w
    go false = number-inside (Terms left) w
word-inside (Coefficient left) n w l i = number-inside (Coefficient left) w
word-inside Result n w l i = result-inside Result n w _ _
word-inside FirstFactor n w l i = variable-inside FirstFactor n w
word-inside SecondFactor n w l i = variable-inside SecondFactor n w
word-inside Ended n w l i = (λ e. absurd (omega arith), λ e. refl)

-- ---- one word

pub step : {ws : List ℕ} {due to : Due} {n at f : ℕ} → T (inner due) → at ≤ length ws →
    f ≡ fault_at ws due n at → after_due due (word_at ws at) ≡ to → StepsTo ws n due at to (step_over f at)
unfolding step_over resumed
step {ws} {due} {to} {n} {at} {f} i h e a = go (eqb f Fault.none) refl
  where
    go : (b : Bool) → eqb f Fault.none ≡ b → StepsTo ws n due at to (record { number = f; at = at + 1 } if b else record { number = f; at = at })
    go true t =
        let z : 0 ≡ fault_at ws due n at = sym (eqb-true f Fault.none t) ∙ e in
        record {
          reads =
              go_on ws due n at z
              ∙ ap (λ (k : ℕ). onward (after_due due (word_at ws at)) k (at + 1) ws) (ap (λ (s : ℕ). n + s) (plain-started (word_at ws at) ((word-inside due n (word_at ws at) _ i).0 z)) ∙ add-zero n)
              ∙ rw (t, a);
          on = omega arith;
          inside = omega (arith, here ws due n at z);
          plain = λ j l h. let k : at ≡ j = omega arith in rw (← k) ((word-inside due n (word_at ws at) _ i).0 z);
          last = λ k. (word-inside due n (word_at ws at) _ i).1 (sym k ∙ e);
        }
    go false t = record { reads = stop-at ws due n at f e (eqb-false f Fault.none t) ∙ rw t; on = omega arith; inside = h; plain = λ j l k. absurd (omega arith); last = λ k. (word-inside due n (word_at ws at) _ i).1 (sym k ∙ e) }

-- ---- one step after another

module _ {ws : List ℕ} {n : ℕ} {a b : Due} {at : ℕ} {r : Step} (g : StepsTo ws n a at b r) where
  pub gone : r.number ≡ 0 → onward a n at ws ≡ onward b n r.at ws
  unfolding resumed
  gone z = g.reads ∙ rw (eq-eqb r.number 0 z)

  pub halted : (r.number ≡ 0 → ⊥) → onward a n at ws ≡ stopped ws r.number r.at
  unfolding resumed
  halted z = g.reads ∙ rw (ne_eqb r.number 0 z)

  -- where what is due between is not the end
  pub and_then : {c : Due} {s : Step} → is_ended b ≡ false → r.number ≡ 0 → StepsTo ws n b r.at c s → StepsTo ws n a at c s
  and_then {c} {s} d z k =
      record {
        reads = gone z ∙ k.reads;
        on = omega (arith, g.on, k.on);
        inside = k.inside;
        plain = λ j l h. both j l h (ltb j r.at) refl;
        last = λ e. false-true (sym d ∙ k.last e);
      }
    where
      both : (j : ℕ) → at ≤ j → j < s.at → (t : Bool) → ltb j r.at ≡ t → starts_kind (kind (word_at ws j)) ≡ false
      both j l h true e = g.plain j l (ltb-true _ _ e)
      both j l h false e = k.plain j (ltb-false _ _ e) h

  pub or-halted : {c : Due} → (r.number ≡ 0 → ⊥) → StepsTo ws n a at c r
  unfolding resumed
  or-halted z = record { reads = halted z ∙ rw (ne_eqb r.number 0 z); on = g.on; inside = g.inside; plain = g.plain; last = g.last }
