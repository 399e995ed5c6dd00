-- Steps over the words of a row.
use Rattle.std.proofs.Common.{◌≡◌, refl, List, ℕ, suc, ◌+◌, ◌-◌, ◌*◌, ◌<◌, ◌≤◌, arith, ne_eqb, length}
use lib.ListN.{get_or-eq_default}
use Rattle.words.specs.Fault as Fault
use Rattle.words.specs.Limit as Limit
use Rattle.words.specs.Word.{kind, word_at}
use Rattle.words.specs.Check.{Step, fault_number_in, step_over}
use Rattle.rowsystems.specs.declared.Due.{Due}
use Rattle.rowsystems.specs.declared.Due.TheVariants.{Terms, Item}
use Rattle.rowreading.specs.Onward.{StepsTo}
use Rattle.rowreading.proofs.Inner.{row-constant}
use Rattle.rowreading.proofs.Steps.{and_then, or-halted}

-- past a word without a fault, or to its fault
pub step-halts : {ws : List ℕ} {n p at f : ℕ} {a b c : Due} → StepsTo ws n a p b (step_over f at) → (f ≡ 0 → ⊥) → StepsTo ws n a p c (record { number = f; at = at })
unfolding step_over
step-halts {f = f} g z = or-halted (rw (ne_eqb f 0 z) at g) z

pub step-goes : {ws : List ℕ} {n p f : ℕ} {a b : Due} (at : ℕ) → StepsTo ws n a p b (step_over f at) → f ≡ 0 → StepsTo ws n a p b (record { number = 0; at = at + 1 })
unfolding step_over
step-goes at g z = rw z at g

-- where the words have ended, a constant is missing
pub constant-missing : (ws : List ℕ) (at : ℕ) → length ws ≤ at → fault_number_in Limit.range (word_at ws at) ≡ Fault.wrong_kind
unfolding fault_number_in word_at kind
constant-missing ws at h = rw (get_or-eq_default ws 0 {n = at} h)

-- a row, k terms of which are read
module _ (ws : List ℕ) (n start terms k : ℕ) (g : StepsTo ws n (Terms terms) start (Terms (terms - k)) (record { number = 0; at = start + 2 * k })) where
  abbrev place : ℕ
  place = start + 2 * k

  -- past the next term, or to its fault
  pub next-term : {r : Step} → k < terms → ((left : ℕ) → StepsTo ws n (Terms (suc left)) place (Terms left) r) → StepsTo ws n (Terms terms) start (Terms (terms - (k + 1))) r
  next-term h f =
      let e : suc (terms - (k + 1)) ≡ terms - k = omega arith in
      and_then g refl refl (rw e at (f (terms - (k + 1))))

  -- past what follows the last term, or to its fault
  pub after-terms : {r : Step} → k ≡ terms → StepsTo ws n (Terms 0) (start + 2 * terms) Item r → StepsTo ws n (Terms terms) start Item r
  after-terms e f =
      let z : terms - k ≡ 0 = omega arith in
      let a : start + 2 * k ≡ start + 2 * terms = omega arith in
      and_then (rw (z, a) at g) refl refl f

  pub next-constant : k ≡ terms → StepsTo ws n (Terms terms) start Item (step_over (fault_number_in Limit.range (word_at ws (start + 2 * terms))) (start + 2 * terms))
  next-constant e =
      let a : start + 2 * k ≡ start + 2 * terms = omega arith in
      after-terms e (row-constant ws n (start + 2 * terms) (omega (arith, g.inside)))
