use Rattle.std.proofs.Common.{◌≡◌, sym, ap, ◌∙◌, Bool, List, ℕ, ◌+◌, ◌-◌, arith, refl}
use Rattle.std.proofs.lemmas.Result.{err_from_is_err_and}
use Rattle.words.specs.Faults.{fault_number}
use Rattle.words.specs.Word.{word_at}
use Rattle.words.specs.Refusals as number
use Rattle.words.specs.declared.fault.Refusal.{Refusal}
use Rattle.words.proofs.Faulty.{fault-number}
use Rattle.rowfaults.specs.Head.{fault_at_head}
use Rattle.rowreading.specs.Item.{start_due, due_after, item_terms}
use Rattle.rowreading.specs.Onward.{onward, stopped}
use Rattle.rowreading.proofs.Counts.{CountedFrom, count-plain, count_head, counted}
use Rattle.rowreading.proofs.Heads.{started-few, head-here, head-halted, head-gone, term-gone}
use Rattle.rowreading.proofs.Onward.{at_the_end}
use Rattle.rowreading.proofs.Steps.{gone, halted}
use Rattle.rowreading.proofs.read_on.Goals.{In_default, Joined-check_head, in-Err, in_default+then-loop-test+in-Err-read_term, in_default+else-loop-test+in-Err-read_rest}
use Rattle.rowreading.proofs.read_on.Goals as goal

-- the head has no fault
head : (c : In_default) → 0 ≡ fault_at_head c.items.sources c.items.n (word_at c.args.ws.now c.items.at)
head c = c.in_default.ensures ∙ rw c.at-head.ensures

-- reading stops with a refusal: at the head, in a term, after the terms
pub record Out (ws : List ℕ) (first : Bool) (before start n : ℕ) (found : Refusal) : Type 0 where
  pub reads : stopped ws (fault_number found.fault) found.place ≡ onward (start_due first) before start ws
  pub all : CountedFrom ws before start n found.place

out : (c : Joined-check_head) → Out c.args.ws.now c.args.first c.args.before c.args.start c.match-check_head.n c.match-check_head.found
out c =
    elim c.match-check_head.branch [
      | in-Err w ↦ rw (w.n-is, w.found-is) (record {
        reads =
            sym (head-halted c.args.ws.now c.items.sources c.items.n c.items.at (fault_number w.in-Err.fault) (w.in-Err.ensures ∙ rw c.at-head.ensures) (fault-number _))
            ∙ c.items.invariant.reads;
        all = c.items.invariant.count;
      })
      | in_default+then-loop-test+in-Err-read_term w ↦ rw (w.n-is, w.found-is) (let t = w.in-Err-read_term.ensures.steps in record {
        reads = sym (halted (term-gone w.from-item.result (w.terms-end.result - w.loop.counter) (omega arith) (omega arith) t) (fault-number _)) ∙ w.loop.invariant.reads;
        all = count-plain w.loop.invariant.count (t 0).plain (t 0).on (t 0).inside;
      })
      | in_default+else-loop-test+in-Err-read_rest w ↦ rw (w.n-is, w.found-is) (let e = w.in-Err-read_rest.ensures in record {
        reads = let z : w.terms-end.result - w.loop.counter ≡ 0 = omega (arith, w.loop-test.false) in sym (halted e (fault-number _)) ∙ rw z at w.loop.invariant.reads;
        all = count-plain w.loop.invariant.count e.plain e.on e.inside;
      })
    ]

pub overflow_add-n : goal.overflow_add-n
overflow_add-n c =
    record { fits = omega (arith, c.started_of-n.ensures, started-few c.at-head.result, c.items.invariant.count.few, c.items.invariant.placed.within, c.items.invariant.placed.few, c.requires.1) }

pub loop-init : goal.loop-init
unfolding due_after
loop-init c =
    let f = head (goal.at.loop-init c).In_default in
    let here = head-here c.args.ws.now c.items.sources c.items.n c.items.at 0 f refl in
    let all : c.terms-end.result - 0 ≡ item_terms c.from-item.result = omega (arith, c.terms-end.ensures) in
    record {
      placed = record { within = omega (arith, here); few = c.items.invariant.placed.few };
      count = rw (c.started_of-n.ensures, c.at-head.ensures) (count_head c.items.invariant.count here);
      past = omega arith;
      reads =
          rw (all, c.started_of-n.ensures, c.at-head.ensures)
          (sym (head-gone c.args.ws.now c.items.sources c.items.n c.items.at 0 f c.from-item.result refl (c.from-item.ensures ∙ rw c.at-head.ensures))
          ∙ c.items.invariant.reads);
    }

pub loop-preserved : goal.loop-preserved
loop-preserved c =
    let t = c.in-Ok.ensures.steps in
    let left : c.terms-end.result - c.loop.counter - 1 ≡ c.terms-end.result - (c.loop.counter + 1) = omega arith in
    record {
      placed = record { within = (t 0).inside; few = c.loop.invariant.placed.few };
      count = count-plain c.loop.invariant.count (t 0).plain (t 0).on (t 0).inside;
      past = omega (arith, c.loop.invariant.past, (t 0).on);
      reads = rw (← left) (sym (gone (term-gone c.from-item.result (c.terms-end.result - c.loop.counter) (omega arith) (omega arith) t) refl) ∙ c.loop.invariant.reads);
    }

pub items-preserved : goal.items-preserved
items-preserved c =
    let e = c.in-Ok-read_rest.ensures in
    let z : c.terms-end.result - c.loop.counter ≡ 0 = omega (arith, c.loop-test.false) in
    record {
      placed = record { within = e.inside; few = c.loop.invariant.placed.few };
      count = count-plain c.loop.invariant.count e.plain e.on e.inside;
      reads = rw c.sources_after-sources.ensures (sym (gone e refl) ∙ rw z at c.loop.invariant.reads);
    }

pub returns-in_err-refusal_at-clause-reads : goal.returns-in_err-refusal_at-clause-reads
returns-in_err-refusal_at-clause-reads c =
    let p = err_from_is_err_and c.from_residual.result c.from_residual.ensures.1 in
    rw (p.1, p.2) (c.in_err-refusal_at.ensures ∙ (out (goal.at.returns-in_err-refusal_at-clause-reads c).Joined-check_head).reads)

pub returns-clause-reads : goal.returns-clause-reads
returns-clause-reads c = c.in_ok-refusal_at.ensures ∙ (out (goal.at.returns-clause-reads c).Joined-check_head).reads

pub returns-clause-counts : goal.returns-clause-counts
returns-clause-counts c =
    let found = c.match-check_head.found in
    let ended = at_the_end c.args.ws.now (fault_number found.fault) found.place (fault-number _) (ap (λ (r : number.Refusal). r.number) (sym c.in_ok-refusal_at.ensures)) in
    counted (out (goal.at.returns-clause-counts c).Joined-check_head).all ended.1
