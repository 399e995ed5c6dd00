-- Steps inside a constraint: one word, and one step after another.
use Rattle.std.proofs.Common.{◌≡◌, refl, ap, sym, ◌∙◌, Bool, true, false, List, [], append-nil, ℕ, ◌+◌, ◌<◌, ◌≤◌, arith, add-zero, ltb-true, ltb-false, eqb-true, eq-eqb, ne_eqb, eqb, ltb, length, Err}
use borrow.Author.Tests.{eqb-false}
use lib.ListN.{get_or-eq_default}
use Rattle.integers.specs.Choice.{◌if◌else◌}
use Rattle.words.specs.Fault as Fault
use Rattle.words.specs.Word.{kind, word_at}
use Rattle.words.specs.Variables.{variables, starts_pair}
use Rattle.words.specs.declared.fault.Refusal as error
use Rattle.words.specs.Check.{Step, step_of, step_over}
use Rattle.words.proofs.Faulty.{fault-number}
use Rattle.words.proofs.Reading.{word-then}
use Rattle.models.specs.Reading.{fault_end, after_due, declared, started}
use Rattle.models.specs.declared.Due.{Due}
use Rattle.models.proofs.Sound.{Plain}
use Rattle.models.proofs.Constraints.{starts_none}
use Rattle.modelitems.specs.Onward.{onward, stopped, resumed, Skipped, StepsTo}
use Rattle.modelitems.proofs.Onward.{fault_at, here, go_on, stop-at}

-- a word of a kind above 0 is there
pub present : (ws : List ℕ) (at : ℕ) → 1 ≤ kind (word_at ws at) → at < length ws
unfolding word_at kind
present ws at k = go (ltb at (length ws)) refl
  where
    go : (b : Bool) → ltb at (length ws) ≡ b → at < length ws
    go true t = ltb-true at (length ws) t
    go false t = absurd (let z : 1 ≤ 0 = rw (get_or-eq_default ws 0 {n = at} (ltb-false at (length ws) t)) at k in omega arith)

-- ---- words that start neither a variable nor a constraint

plain-declares : (w : ℕ) → Plain w → declared w ≡ []
unfolding declared
plain-declares w h = rw (ne_eqb (kind w) 1 (λ e. omega (arith, h.low)), ne_eqb (kind w) 3 (λ e. omega (arith, h.low)))

plain-starts : (w : ℕ) → Plain w → started w ≡ 0
unfolding started
plain-starts w h = rw (ne_eqb (kind w) 4 (λ e. omega (arith, h.low)))

skip-none : (ws : List ℕ) (at : ℕ) → Skipped ws at at
skip-none ws at = record { same_variables = refl; same_constraints = refl }

skip-one : (ws : List ℕ) (at : ℕ) → at < length ws → Plain (word_at ws at) → Skipped ws at (at + 1)
unfolding variables starts_pair word_at
skip-one ws at l h = record {
  same_variables = ap variables (word-then ws at l) ∙ rw (ne_eqb (kind (word_at ws at)) 1 (λ e. omega (arith, h.low)), ne_eqb (kind (word_at ws at)) 8 (λ e. omega (arith, h.high)), ne_eqb (kind (word_at ws at)) 3 (λ e. omega (arith, h.low)));
  same_constraints = starts_none ws at l (λ e. omega (arith, h.low));
}

-- ---- one word

pub step : {ws ts : List ℕ} {due to : Due} {c at f : ℕ} → at ≤ length ws → fault_end due ≡ Fault.words_end → (f ≡ 0 → Plain (word_at ws at)) →
    f ≡ fault_at ws ts due c at → after_due due (word_at ws at) ≡ to → StepsTo ws ts c due at to (step_over f at)
unfolding step_over resumed
step {ws} {ts} {due} {to} {c} {at} {f} h d p e a = go (eqb f Fault.none) refl
  where
    go : (b : Bool) → eqb f Fault.none ≡ b → StepsTo ws ts c due at to (record { number = f; at = at + 1 } if b else record { number = f; at = at })
    go true t =
        let z : 0 ≡ fault_at ws ts due c at = sym (eqb-true f Fault.none t) ∙ e in
        let q = p (eqb-true f Fault.none t) in
        let l = here ws ts due c at z in
        record {
          reads =
              go_on ws ts due c at z
              ∙ rw (t, a, plain-declares (word_at ws at) q, plain-starts (word_at ws at) q, append-nil ts, add-zero c);
          on = omega arith;
          inside = omega arith;
          skipped = skip-one ws at l q;
        }
    go false t = record { reads = stop-at ws ts due c at f d e (eqb-false f Fault.none t) ∙ rw t; on = omega arith; inside = h; skipped = skip-none ws at }

-- no word
pub no_word : {ws ts : List ℕ} {due : Due} {c at : ℕ} → at ≤ length ws → StepsTo ws ts c due at due (record { number = Fault.none; at = at })
unfolding resumed
no_word {ws} {ts} {due} {c} {at} h = record { reads = refl; on = omega arith; inside = h; skipped = skip-none ws at }

-- ---- one step after another

module _ {ws ts : List ℕ} {c : ℕ} {a b : Due} {at : ℕ} {r : Step} (g : StepsTo ws ts c a at b r) where
  pub gone : r.number ≡ 0 → onward a ts c at ws ≡ onward b ts c r.at ws
  unfolding resumed
  gone z = g.reads ∙ rw (eq-eqb r.number 0 z)

  pub halted : (r.number ≡ 0 → ⊥) → onward a ts c at ws ≡ stopped ws r.number r.at
  unfolding resumed
  halted z = g.reads ∙ rw (ne_eqb r.number 0 z)

  pub and_then : {d : Due} {s : Step} → r.number ≡ 0 → StepsTo ws ts c b r.at d s → StepsTo ws ts c a at d s
  and_then z k = record {
    reads = gone z ∙ k.reads;
    on = omega (arith, g.on, k.on);
    inside = k.inside;
    skipped = record {
      same_variables = g.skipped.same_variables ∙ k.skipped.same_variables;
      same_constraints = g.skipped.same_constraints ∙ k.skipped.same_constraints;
    };
  }

  pub or-halted : {d : Due} → (r.number ≡ 0 → ⊥) → StepsTo ws ts c a at d r
  unfolding resumed
  or-halted z = record { reads = halted z ∙ rw (ne_eqb r.number 0 z); on = g.on; inside = g.inside; skipped = g.skipped }

  -- what is due next may be told otherwise
  pub to-alike : {d : Due} → onward b ts c r.at ws ≡ onward d ts c r.at ws → StepsTo ws ts c a at d r
  unfolding resumed
  to-alike {d} e = record { reads = g.reads ∙ rw e; on = g.on; inside = g.inside; skipped = g.skipped }

  -- a refusal ends what follows too
  pub or-refused : {d : Due} (x : error.Refusal) → step_of (Err x) ≡ r → StepsTo ws ts c a at d (step_of (Err x))
  or-refused {d} x e = rw e (or-halted (λ z. fault-number x.fault (ap (λ (s : Step). s.number) e ∙ z)))
