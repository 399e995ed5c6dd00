-- One item: reading on from its head, what its kind says, and whether it is true.
use Rattle.std.proofs.Common.{◌≡◌, refl, ap, ◌∙◌, ◌⊎◌, inl, inr, ⊎_elim, Bool, true, false, ◌||◌, List, ℕ, ◌+◌, ◌*◌, ◌<◌, ◌≤◌, arith, ltb-false, eqb-true, eq-eqb, ne_eqb, le-leb, le-ltb, eqb, ltb, ℤ, length, drop, Result}
use Rattle.std.specs.Prelude.{IfOk}
use Rattle.std.proofs.lemmas.Result.{IfOk-weaker}
use borrow.Author.Tests.{eqb-false}
use Rattle.integers.specs.Choice.{◌if◌else◌}
use Rattle.integers.specs.Number.{◌⊕◌}
use Rattle.integers.specs.Terms.{Valuation, sum}
use Rattle.integers.proofs.Tests.{false-true}
use Rattle.words.specs.Fault as Fault
use Rattle.words.specs.Kind as Kind
use Rattle.words.specs.Limit as Limit
use Rattle.words.specs.Variables.{starts_pair}
use Rattle.words.specs.Word.{kind, payload, word_at}
use Rattle.variables.specs.Start.{starts}
use Rattle.rowsystems.specs.Reading.{fault_item, fault_source, after_due, after_item, started}
use Rattle.rowsystems.specs.Row.{product, satisfied}
use Rattle.rowsystems.specs.RowSystem.{number_at, variable_at, terms_in, constant_in, term_count}
use Rattle.rowsystems.specs.OneWord.{starts_sum, starts_row, row_of}
use Rattle.rowsystems.specs.declared.Due.{Due}
use Rattle.rowsystems.specs.declared.Due.TheVariants as due
use Rattle.rowfaults.specs.Head.{fault_at_head}
use Rattle.rowreading.specs.Onward.{starts_kind, Plain, is_ended, resumed, StepsTo}
use Rattle.rowreading.proofs.Heads.{head-here, head-halted, head-on}
use Rattle.integers.proofs.Booleans.{neither}
use Rattle.rowterms.specs.Values.{is_true}
use Rattle.rowterms.specs.declared.Seen.{Seen}
use Rattle.words.specs.declared.fault.Refusal.{Refusal}
use Rattle.words.specs.Check.{Step}
use Rattle.rowterms.proofs.Sums.{word-from, constant-from}
use Rattle.rowitems.specs.Passing.{ItemPassed}

-- ---- reading on from the head

-- the end word starts nothing
end-kind : (w : ℕ) → is_ended (after_due due.Source w) ≡ true → starts_kind (kind w) ≡ false
unfolding after_due after_item starts_kind
end-kind w e = go (eqb (kind w) Kind.lower) (eqb (kind w) Kind.boolean) (eqb (kind w) Kind.auxiliary_lower) (eqb (kind w) Kind.product) (eqb (kind w) Kind.rows_end) refl e
  where
    go : (a b c d f : Bool) → eqb (kind w) Kind.rows_end ≡ f →
        is_ended (due.SourceUpper w if a else due.Source if b else due.AuxiliaryUpper w if c else due.Result if d else due.Ended if f else due.Terms (payload w)) ≡ true →
        starts_kind (kind w) ≡ false
    go true b c d f q e = false-true e
    go false true c d f q e = false-true e
    go false false true d f q e = false-true e
    go false false false true f q e = false-true e
    go false false false false true q e = ap starts_kind (eqb-true (kind w) Kind.rows_end q)
    go false false false false false q e = false-true e

plain-from : (ws : List ℕ) (a b : ℕ) → starts_kind (kind (word_at ws a)) ≡ false → Plain ws (a + 1) b → Plain ws a b
plain-from ws a b e p j l h = go (eqb a j) refl
  where
    go : (t : Bool) → eqb a j ≡ t → starts_kind (kind (word_at ws j)) ≡ false
    go true q = rw (← eqb-true a j q) e
    go false q = p j (omega (arith, eqb-false a j q)) h

-- a place with the word w, and the fault f that it has as a head
pub record Head (ws : List ℕ) (s : Bool) (n at w f : ℕ) : Type 0 where
  pub within : at ≤ length ws
  pub word : w ≡ word_at ws at
  pub fault : f ≡ fault_at_head s n w

module _ {ws : List ℕ} {s : Bool} {n at w f : ℕ} (h : Head ws s n at w f) where
  there : f ≡ fault_at_head s n (word_at ws at)
  there = h.fault ∙ ap (fault_at_head s n) h.word

  pub head-there : f ≡ 0 → at < length ws
  head-there z = head-here ws s n at f there z

  pub head-stops : {to : Due} {m : ℕ} → (f ≡ 0 → ⊥) → ItemPassed ws s n at to m (record { number = f; at = at })
  unfolding resumed
  head-stops z =
      record {
        reads = head-halted ws s n at f there z ∙ rw (ne_eqb f 0 z);
        on = omega arith;
        past = λ k. absurd (z k);
        inside = h.within;
        plain = λ j l k. absurd (omega arith);
        last = λ i j l k. absurd (omega arith);
      }

  pub head-then : {to : Due} {m : ℕ} {r : Step} → f ≡ 0 → m ≡ n + started w → StepsTo ws m (after_due due.Source w) (at + 1) to r → ItemPassed ws s n at to m r
  head-then {to} {m} {r} z k g =
      record {
        reads = head-on ws s n at f there z ∙ rw (← h.word, ← k) g.reads;
        on = omega (arith, g.on);
        past = λ i. omega (arith, g.on);
        inside = g.inside;
        plain = g.plain;
        last = λ i. plain-from ws at r.at (rw (← h.word) (end-kind w (g.last i))) g.plain;
      }

-- ---- what a kind says

pub one-started : (w : ℕ) → starts w ≡ true → started w ≡ 1
unfolding starts started
one-started w e = rw e

pub none-started : (w : ℕ) → starts w ≡ false → started w ≡ 0
unfolding starts started
none-started w e = rw e

sum-kind : (w : ℕ) → starts_sum w ≡ true → (kind w ≡ Kind.at_most) ⊎ (kind w ≡ Kind.equal)
unfolding starts_sum
sum-kind w s = go (eqb (kind w) Kind.at_most) (eqb (kind w) Kind.equal) refl refl s
  where
    go : (a b : Bool) → eqb (kind w) Kind.at_most ≡ a → eqb (kind w) Kind.equal ≡ b → (a || b) ≡ true → (kind w ≡ Kind.at_most) ⊎ (kind w ≡ Kind.equal)
    go true b e f t = inl (eqb-true _ _ e)
    go false true e f t = inr (eqb-true _ _ f)
    go false false e f t = false-true t

-- no more terms than the limit
pub sum-few : (w : ℕ) → 0 ≡ (Fault.length_outside if ltb Limit.terms (payload w) else Fault.none) → payload w ≤ Limit.terms
sum-few w = go (ltb Limit.terms (payload w)) refl
  where
    go : (long : Bool) → ltb Limit.terms (payload w) ≡ long → 0 ≡ (Fault.length_outside if long else Fault.none) → payload w ≤ Limit.terms
    go true q e = absurd (omega arith)
    go false q e = ltb-false Limit.terms (payload w) q

module _ (w : ℕ) (t : starts_sum w ≡ true) where
  pub sum-due : after_due due.Source w ≡ due.Terms (payload w)
  unfolding after_due after_item
  sum-due = ⊎_elim (λ k. rw k) (λ k. rw k) (sum-kind w t)

  pub sum-starts : starts w ≡ false
  unfolding starts starts_pair
  sum-starts = ⊎_elim (λ k. rw k) (λ k. rw k) (sum-kind w t)

  pub starts_row-sum : starts_row w ≡ true
  unfolding starts_row
  starts_row-sum = ⊎_elim (λ k. rw k) (λ k. rw k) (sum-kind w t)

  pub sum-fault : (s : Bool) (n : ℕ) → fault_at_head s n w ≡ (Fault.length_outside if ltb Limit.terms (payload w) else Fault.none)
  unfolding fault_at_head fault_source fault_item
  sum-fault true n = ⊎_elim (λ k. rw k) (λ k. rw k) (sum-kind w t)
  sum-fault false n = ⊎_elim (λ k. rw k) (λ k. rw k) (sum-kind w t)

  pub sum-true : (σ : Valuation) (ws : List ℕ) → payload w ≤ Limit.terms →
      is_true w (sum σ (terms_in ws (payload w)) ⊕ constant_in ws (payload w)) ≡ satisfied σ (row_of w ws)
  unfolding is_true satisfied row_of term_count
  sum-true σ ws h =
      ⊎_elim
      (λ k. rw (eq-eqb (kind w) Kind.at_most k, le-leb (payload w) Limit.terms h))
      (λ k. rw (ne_eqb (kind w) Kind.at_most (λ i. omega (arith, i, k)), eq-eqb (kind w) Kind.equal k, le-leb (payload w) Limit.terms h))
      (sum-kind w t)

-- a row at a place, whose terms are not too many: its head has no fault, and what is due after it are its terms
module _ (ws : List ℕ) (at w : ℕ) (l : at ≤ length ws) (e : w ≡ word_at ws at) (t : starts_sum w ≡ true) (h : payload w ≤ Limit.terms) where
  pub row-head : (n : ℕ) (s : Bool) → Head ws s n at w 0
  row-head n s = record { within = l; word = e; fault = rw (sum-fault w t s n, le-ltb Limit.terms (payload w) h) }

  pub row-passed : {s : Bool} {n : ℕ} {to : Due} {r : Step} → StepsTo ws n (due.Terms (payload w)) (at + 1) to r → ItemPassed ws s n at to n r
  row-passed {s} {n} g = head-then (row-head n s) refl (omega (arith, none-started w (sum-starts w t))) (rw (sum-due w t) g)

  -- it is true or not, as what its terms add up to and its constant say
  pub row-true : (σ : Valuation) → is_true w (sum σ (terms_in (drop (at + 1) ws) (payload w)) ⊕ number_at ws (at + 1 + 2 * payload w)) ≡ satisfied σ (row_of w (drop (at + 1) ws))
  row-true σ = rw (constant-from ws (at + 1) (payload w) (at + 1 + 2 * payload w) refl) (sum-true w t σ (drop (at + 1) ws) h)

  pub row-judges : (σ : Valuation) {terms k : ℕ} {total : ℤ} {holds : Bool} → terms ≡ payload w → k ≡ terms → total ≡ sum σ (terms_in (drop (at + 1) ws) k) →
      holds ≡ is_true w (total ⊕ number_at ws (at + 1 + 2 * terms)) → holds ≡ satisfied σ (row_of w (drop (at + 1) ws))
  row-judges σ p q r s = s ∙ rw (r, q, p) (row-true σ)

pub product-row : (w : ℕ) → kind w ≡ Kind.product → starts_row w ≡ true
unfolding starts_row
product-row w k = rw k

pub product-due : (w : ℕ) → kind w ≡ Kind.product → after_due due.Source w ≡ due.Result
unfolding after_due after_item
product-due w k = rw k

-- where no variable, row or product starts, the end does
pub end-due : (s : Bool) (n w : ℕ) → starts w ≡ false → starts_sum w ≡ false → (kind w ≡ Kind.product → ⊥) → 0 ≡ fault_at_head s n w → after_due due.Source w ≡ due.Ended
unfolding starts starts_pair starts_sum fault_at_head fault_source fault_item after_due after_item
end-due s n w v u p e =
    let a = neither (eqb (kind w) Kind.lower || eqb (kind w) Kind.auxiliary_lower) (eqb (kind w) Kind.boolean) v in
    let b = neither (eqb (kind w) Kind.lower) (eqb (kind w) Kind.auxiliary_lower) a.0 in
    let c = neither (eqb (kind w) Kind.at_most) (eqb (kind w) Kind.equal) u in
    go b.0 a.1 b.1 c.0 c.1 (ne_eqb _ _ p) (eqb (kind w) Kind.rows_end) refl s e
  where
    go : eqb (kind w) Kind.lower ≡ false → eqb (kind w) Kind.boolean ≡ false → eqb (kind w) Kind.auxiliary_lower ≡ false →
        eqb (kind w) Kind.at_most ≡ false → eqb (kind w) Kind.equal ≡ false → eqb (kind w) Kind.product ≡ false →
        (t : Bool) → eqb (kind w) Kind.rows_end ≡ t → (s : Bool) → 0 ≡ fault_at_head s n w → after_due due.Source w ≡ due.Ended
    go f g h i j k true t s e = rw (f, g, h, k, t)
    go f g h i j k false t true e = absurd (omega (arith, (rw (f, g, h, i, j, k, t) at e)))
    go f g h i j k false t false e = absurd (omega (arith, (rw (h, i, j, k, t) at e)))

-- a product is what its three variables say
pub product-true : (σ : Valuation) (ws : List ℕ) (w b : ℕ) → kind w ≡ Kind.product →
    satisfied σ (product (variable_at ws b) (variable_at ws (b + 1)) (variable_at ws (b + 2))) ≡ satisfied σ (row_of w (drop b ws))
unfolding row_of variable_at
product-true σ ws w b k = rw (k, word-from ws b 0 b (omega arith), word-from ws b 1 (b + 1) (omega arith), word-from ws b 2 (b + 2) (omega arith))

-- what is seen of a row or a product
pub seen-row : (r : Result Seen Refusal) (w : ℕ) {x y : Bool} → starts_row w ≡ true → x ≡ y → IfOk r (λ s. s.holds ≡ x) → IfOk r (λ s. (starts_row w ≡ true) × (s.holds ≡ y))
seen-row r w {x} {y} p e h = IfOk-weaker r (λ s. s.holds ≡ x) (λ s. (starts_row w ≡ true) × (s.holds ≡ y)) (λ s k. (p, k ∙ e)) h
