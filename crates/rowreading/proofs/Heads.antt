-- The head of an item: what is due after it, whether source variables may still stand or not.
use Rattle.std.proofs.Common.{◌≡◌, refl, sym, ◌∙◌, Bool, true, false, ◌||◌, List, ℕ, zero, suc, ◌+◌, ◌-◌, ◌<◌, ◌≤◌, arith, ne_eqb, eqb, length}
use Rattle.integers.proofs.Booleans.{bit_le}
use Rattle.words.specs.Fault as Fault
use Rattle.words.specs.Kind as Kind
use Rattle.words.specs.Word.{kind, word_at}
use Rattle.words.specs.Variables.{starts_pair}
use Rattle.words.specs.Check.{Step}
use Rattle.rowsystems.specs.Reading.{fault_item, fault_due, after_due, started}
use Rattle.rowsystems.specs.declared.Due.TheVariants as due
use Rattle.rowreading.specs.declared.items.Item.{Item}
use Rattle.rowreading.specs.declared.items.Item.TheVariants.{Variable, Boolean, Auxiliary, Row, Product, End}
use Rattle.rowfaults.specs.Head.{fault_at_head}
use Rattle.rowreading.specs.Item.{start_due, due_with, item_terms, due_after}
use Rattle.rowreading.specs.Onward.{onward, stopped, StepsTo}
use Rattle.rowreading.proofs.Onward.{fault_at, here, go_on, stop-at}

-- ---- the head

head-fault : (s : Bool) (n w : ℕ) (l : List ℕ) → fault_at_head s n w ≡ fault_due (start_due s) n w l
unfolding fault_at_head start_due fault_due
head-fault true n w l = refl
head-fault false n w l = refl

-- a source variable has a fault where only items may stand
not-kind : (k n w : ℕ) → (kind w ≡ k → fault_item n w ≡ Fault.wrong_kind) → 0 ≡ fault_item n w → eqb (kind w) k ≡ false
not-kind k n w f e = ne_eqb (kind w) k (λ q. omega (arith, f q, e))

not-source : (n w : ℕ) → 0 ≡ fault_item n w → (eqb (kind w) Kind.lower ≡ false) × (eqb (kind w) Kind.boolean ≡ false)
unfolding fault_item
not-source n w e = (not-kind Kind.lower n w (λ q. rw q) e, not-kind Kind.boolean n w (λ q. rw q) e)

after-head : (s : Bool) (n w : ℕ) → 0 ≡ fault_at_head s n w → after_due (start_due s) w ≡ after_due due.Source w
unfolding fault_at_head start_due after_due
after-head true n w e = refl
after-head false n w e = rw ((not-source n w e).0, (not-source n w e).1)

module _ (ws : List ℕ) (s : Bool) (n at f : ℕ) (e : f ≡ fault_at_head s n (word_at ws at)) where
  at_head : f ≡ fault_at ws (start_due s) n at
  at_head = e ∙ head-fault s n (word_at ws at) _

  pub head-here : f ≡ 0 → at < length ws
  head-here z = here ws (start_due s) n at (sym z ∙ at_head)

  pub head-halted : (f ≡ 0 → ⊥) → onward (start_due s) n at ws ≡ stopped ws f at
  head-halted z = stop-at ws (start_due s) n at f at_head z

  pub head-on : f ≡ 0 → onward (start_due s) n at ws ≡ onward (after_due due.Source (word_at ws at)) (n + started (word_at ws at)) (at + 1) ws
  head-on z = go_on ws (start_due s) n at (sym z ∙ at_head) ∙ rw (after-head s n (word_at ws at) (sym z ∙ e))

  pub head-gone : (item : Item) → f ≡ 0 → due_after item ≡ after_due due.Source (word_at ws at) →
      onward (start_due s) n at ws ≡ onward (due_after item) (n + started (word_at ws at)) (at + 1) ws
  head-gone item z a =
      go_on ws (start_due s) n at (sym z ∙ at_head)
      ∙ rw (after-head s n (word_at ws at) (sym z ∙ e), ← a)

-- a word starts at most one variable
pub started-few : (w : ℕ) → started w ≤ 1
unfolding started
started-few w = bit_le (starts_pair w || eqb (kind w) Kind.boolean)

-- ---- the terms that are left

-- an item with terms left is a row, and a term read leaves one less
pub term-gone : {ws : List ℕ} {n at : ℕ} {r : Step} (item : Item) (left : ℕ) → 0 < left → left ≤ item_terms item →
    ((k : ℕ) → StepsTo ws n (due.Terms (suc k)) at (due.Terms k) r) → StepsTo ws n (due_with item left) at (due_with item (left - 1)) r
unfolding due_with item_terms
term-gone (Variable lower) left h k g = absurd (omega arith)
term-gone Boolean left h k g = absurd (omega arith)
term-gone (Auxiliary lower) left h k g = absurd (omega arith)
term-gone (Row terms) zero h k g = absurd (omega arith)
term-gone {ws} {n} {at} {r} (Row terms) (suc left) h k g = let e : left ≡ suc left - 1 = omega arith in rw (← e) (g left)
term-gone Product left h k g = absurd (omega arith)
term-gone End left h k g = absurd (omega arith)
