use Rattle.std.proofs.Common.{◌≡◌, refl, sym, ◌∙◌, arith, true, false, not, ◌+◌, ◌-◌, ◌*◌, ◌<◌, ◌≤◌, length, drop, to_z-of_z, Err}
use borrow.Author.Tests.{not-true, not-false}
use Rattle.integers.specs.Bounds.{within}
use Rattle.integers.specs.Terms.{value}
use Rattle.integers.proofs.Fits.{fits64, back}
use Rattle.words.specs.Word.{word_at, payload}
use Rattle.words.specs.Limit as Limit
use Rattle.words.specs.Faults.{fault_number}
use Rattle.words.proofs.Faulty.{fault-number}
use Rattle.variables.specs.Start.{starts, pair_bounds}
use Rattle.rowsystems.specs.declared.Due.TheVariants.{Item, Terms}
use Rattle.rowreading.specs.Item.{start_due}
use Rattle.rowreading.specs.Onward.{onward, StepsTo}
use Rattle.rowreading.proofs.Inner.{no_word}
use Rattle.rowreading.proofs.Steps.{or-halted}
use Rattle.rowterms.proofs.Steps.{next-term, after-terms}
use Rattle.rowterms.proofs.Sums.{no-terms, term-added}
use Rattle.rowitems.proofs.Passing.{starts_row-sum, row-passed, row-judges}
use Rattle.words.specs.Check.{step_of}
use Rattle.rowjudge.proofs.Judging.{begun, variable-judged, left, row-judged, goes, Stopping, stops, stopped-judged}
use Rattle.rowjudge.proofs.judge_on.Goals.{Then-starts_variable, Else-starts_variable, In-Ok, After-is-sources, Joined-starts_variable, then-starts_variable+in-Err, else-starts_variable+then-starts_sum+in-Err-row_terms, else-starts_variable+then-starts_sum+in-Ok-row_terms+then-loop-term-test+in-Err-see_term, else-starts_variable+then-starts_sum+in-Ok-row_terms+else-loop-term-test+in-Err-see_constant, else-starts_variable+else-starts_sum+in-Err-see_other}
use Rattle.rowjudge.proofs.judge_on.Goals as goal

pub items-init : goal.items-init
items-init c = record { placed = c.requires.0; reads = refl; judging = begun _ _ _ _ _ c.requires.1 }

-- ---- a variable

-- a variable starts at the place, or none does
variable : (c : Then-starts_variable) → starts (word_at c.args.ws.now c.items.at) ≡ true
variable c = rw c.at-head.ensures at (sym c.if-starts_variable.ensures)

other : (c : Else-starts_variable) → starts (word_at c.args.ws.now c.items.at) ≡ false
other c = rw c.at-head.ensures at (sym c.if-starts_variable.ensures)

-- the variable's words are there; whether the value keeps its bounds
there : (c : In-Ok) → c.items.at < length c.args.ws.now
there c = omega (arith, c.in-Ok.ensures.step.past refl, c.in-Ok.ensures.step.inside)

kept : (c : In-Ok) → let ws = c.args.ws.now in let at = c.items.at in c.in-Ok.seen.holds ≡ within (pair_bounds (word_at ws at) (word_at ws (at + 1))) c.value_or_outside-v.result
kept c = c.in-Ok.ensures.truth ∙ rw (to_z-of_z (record { sfits = c.value_or_outside-v.type_inv }), c.at-head.ensures)

-- what reading on finds is what reading from the start finds
read_past : (c : After-is-sources) → let a = c.args in onward (start_due (not c.is-sources.result)) (c.items.n + 1) c.in-Ok.seen.at a.ws.now ≡ onward (start_due a.first) a.before a.start a.ws.now
read_past c = rw c.is-sources.ensures (sym (goes c.in-Ok.ensures.step refl) ∙ c.items.invariant.reads)

pub returns-then-not-seen : goal.returns-then-not-seen
returns-then-not-seen c =
    let g = goal.at.returns-then-not-seen c in
    let s = c.in-Ok.ensures.step in
    left c.items.invariant.judging (there g.In-Ok) (variable g.Then-starts_variable) c.value_or_outside-v.ensures (sym (kept g.In-Ok) ∙ not-true _ c.if-not-seen.true) s.plain (omega (arith, s.past refl)) s.inside
    _ (c.judge_rest.ensures.reads ∙ read_past g.After-is-sources) c.judge_rest.ensures.judged

pub items-preserved-then-starts_variable : goal.items-preserved-then-starts_variable
items-preserved-then-starts_variable c =
    let g = goal.at.items-preserved-then-starts_variable c in
    let s = c.in-Ok.ensures.step in
    record {
      placed = record { within = s.inside; few = c.items.invariant.placed.few };
      reads = read_past g.After-is-sources;
      judging = variable-judged c.items.invariant.judging (there g.In-Ok) (variable g.Then-starts_variable) c.value_or_outside-v.ensures (sym (kept g.In-Ok) ∙ not-false _ c.if-not-seen.false) s.plain (omega (arith, s.past refl)) s.inside;
    }

-- ---- a row

pub loop-term-init : goal.loop-term-init
loop-term-init c =
    let terms = c.in-Ok-row_terms.terms in
    let e : terms - 0 ≡ terms = omega arith in
    let p : c.items.at + 1 + 0 ≡ c.items.at + 1 = omega arith in
    record {
      reads = rw (e, p) (no_word c.args.ws.now c.items.n (c.items.at + 1) (omega (arith, c.in-Ok-row_terms.ensures.whole.2)));
      total = sym (no-terms (drop (c.items.at + 1) c.args.ws.now) c.args.values.now);
      size = omega arith;
    }

pub loop-term-preserved : goal.loop-term-preserved
loop-term-preserved c =
    let i = c.loop-term.invariant in
    let place = c.items.at + 1 + 2 * c.loop-term.term in
    let e : place + 2 ≡ c.items.at + 1 + 2 * (c.loop-term.term + 1) = omega arith in
    let b = back c.plus-total.result c.plus-total.type_inv in
    let p = back c.in-Ok-see_term.product (fits64 c.in-Ok-see_term.product (omega (arith, c.in-Ok-see_term.ensures.size))).sfits in
    record {
      reads = rw e at (next-term c.args.ws.now c.items.n (c.items.at + 1) c.in-Ok-row_terms.terms c.loop-term.term i.reads c.loop-term-test.true c.in-Ok-see_term.ensures.steps);
      total = b ∙ c.plus-total.ensures.value ∙ rw (p, c.in-Ok-see_term.ensures.value) (term-added c.args.ws.now c.args.values.now (c.items.at + 1) c.loop-term.term place _ refl i.total);
      size = rw b (omega (arith, rw p at c.plus-total.ensures.size, c.in-Ok-see_term.ensures.size, i.size));
    }

pub items-preserved-then-starts_sum : goal.items-preserved-then-starts_sum
unfolding start_due
items-preserved-then-starts_sum c =
    let i = c.items.invariant in
    let whole = c.in-Ok-row_terms.ensures.whole in
    let t = rw c.bits.ensures at (sym c.if-starts_sum.ensures) in
    let h : payload c.at-head.result ≤ Limit.terms = omega (arith, whole.0, whole.1) in
    let end : c.loop-term.term ≡ c.in-Ok-row_terms.terms = omega (arith, c.loop-term-test.false) in
    let s = row-passed c.args.ws.now c.items.at c.at-head.result i.placed.within c.at-head.ensures t h {s = c.items.sources} (rw whole.0 at (after-terms c.args.ws.now c.items.n (c.items.at + 1) c.in-Ok-row_terms.terms c.loop-term.term c.loop-term.invariant.reads end c.in-Ok-see_constant.ensures.step)) in
    let v = row-judges c.args.ws.now c.items.at c.at-head.result i.placed.within c.at-head.ensures t h (value c.args.values.now) whole.0 end c.loop-term.invariant.total c.in-Ok-see_constant.ensures.truth in
    record {
      placed = record { within = s.inside; few = i.placed.few };
      reads = sym (goes s refl) ∙ i.reads;
      judging = rw (c.with_row-said.ensures, v, c.at-head.ensures) (row-judged i.judging (omega (arith, s.past refl, s.inside)) (other (goal.at.items-preserved-then-starts_sum c).Else-starts_variable) (rw c.at-head.ensures at (starts_row-sum c.at-head.result t)) s.plain (omega (arith, s.past refl)) s.inside);
    }

-- ---- a product

pub items-preserved : goal.items-preserved
unfolding start_due
items-preserved c =
    let l = c.items in
    let s = c.in-Ok-see_other.ensures.step in
    let t = rw c.at-head.ensures at c.in-Ok-see_other.ensures.truth in
    record {
      placed = record { within = s.inside; few = l.invariant.placed.few };
      reads = sym (goes s refl) ∙ l.invariant.reads;
      judging = rw (c.with_row-said-else-starts_sum.ensures, t.1) (row-judged l.invariant.judging (omega (arith, s.past refl, s.inside)) (other (goal.at.items-preserved c).Else-starts_variable) t.0 s.plain (omega (arith, s.past refl)) s.inside);
    }

-- ---- where the pass stops

out : (c : Joined-starts_variable) → let a = c.args in let found = c.if-starts_variable.found in
    Stopping a.ws.now a.values.now a.first a.before a.start a.k c.items.n c.items.said (fault_number found.fault) found.place
out c =
    let i = c.items.invariant in
    elim c.if-starts_variable.branch [
      | then-starts_variable+in-Err w ↦ rw w.found-is (stops i.judging w.in-Err.ensures.step (fault-number _) i.reads)
      | else-starts_variable+then-starts_sum+in-Err-row_terms w ↦ rw w.found-is (stops i.judging (w.in-Err-row_terms.ensures.halts c.items.sources) (fault-number _) i.reads)
      | else-starts_variable+then-starts_sum+in-Ok-row_terms+then-loop-term-test+in-Err-see_term w ↦ rw w.found-is (
          let whole = w.in-Ok-row_terms.ensures.whole in
          let t = rw w.bits.ensures at (sym w.if-starts_sum.ensures) in
          let h : payload c.at-head.result ≤ Limit.terms = omega (arith, whole.0, whole.1) in
          let x = next-term c.args.ws.now c.items.n (c.items.at + 1) w.in-Ok-row_terms.terms w.loop-term.term w.loop-term.invariant.reads w.loop-term-test.true w.in-Err-see_term.ensures.steps in
          let y : StepsTo c.args.ws.now c.items.n (Terms w.in-Ok-row_terms.terms) (c.items.at + 1) Item (step_of (Err w.in-Err-see_term.refusal)) = or-halted x (fault-number _) in
          stops i.judging (row-passed c.args.ws.now c.items.at c.at-head.result i.placed.within c.at-head.ensures t h {s = c.items.sources} {to = Item} (rw whole.0 at y)) (fault-number _) i.reads)
      | else-starts_variable+then-starts_sum+in-Ok-row_terms+else-loop-term-test+in-Err-see_constant w ↦ rw w.found-is (
          let whole = w.in-Ok-row_terms.ensures.whole in
          let t = rw w.bits.ensures at (sym w.if-starts_sum.ensures) in
          let h : payload c.at-head.result ≤ Limit.terms = omega (arith, whole.0, whole.1) in
          let end : w.loop-term.term ≡ w.in-Ok-row_terms.terms = omega (arith, w.loop-term-test.false) in
          stops i.judging (row-passed c.args.ws.now c.items.at c.at-head.result i.placed.within c.at-head.ensures t h {s = c.items.sources} (rw whole.0 at (after-terms c.args.ws.now c.items.n (c.items.at + 1) w.in-Ok-row_terms.terms w.loop-term.term w.loop-term.invariant.reads end w.in-Err-see_constant.ensures.step))) (fault-number _) i.reads)
      | else-starts_variable+else-starts_sum+in-Err-see_other w ↦ rw w.found-is (stops i.judging w.in-Err-see_other.ensures.step (fault-number _) i.reads)
    ]

pub returns : goal.returns
returns c = stopped-judged (out (goal.at.returns c).Joined-starts_variable) _ c.judge_end.ensures.reads c.judge_end.ensures.judged
