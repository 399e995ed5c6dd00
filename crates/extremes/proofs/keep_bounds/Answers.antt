use Rattle.std.proofs.Common.{◌≡◌, ◌+◌, sym, ◌∙◌, set}
use Rattle.words.specs.Word.{word_at}
use Rattle.variables.specs.Start.{pair_bounds}
use Rattle.extremes.proofs.Kept.{kept, passed, ended-count, ended-over}
use Rattle.extremes.proofs.keep_bounds.Goals.{then-starts_variable, else-starts_variable}
use Rattle.extremes.proofs.keep_bounds.Goals as goal

pub loop-i-preserved : goal.loop-i-preserved
unfolding word_at
loop-i-preserved c =
    elim c.if-starts_variable.branch [
      | then-starts_variable w ↦
          let e : c.if-starts_variable.domains ≡ set c.loop-i.domains c.loop-i.n (pair_bounds (word_at c.args.ws.now c.loop-i.i) (word_at c.args.ws.now (c.loop-i.i + 1))) = w.domains-is ∙ w.put.ensures ∙ rw (w.bounds_from.ensures, w.at.ensures, c.from-word.ensures) in
          rw (e, w.n-is) (kept c.loop-i.invariant c.loop-i-test.true (sym (rw c.from-word.ensures at c.starts_variable.ensures) ∙ w.if-starts_variable.true))
      | else-starts_variable w ↦ rw (w.domains-is, w.n-is) (passed c.loop-i.invariant c.loop-i-test.true (sym (rw c.from-word.ensures at c.starts_variable.ensures) ∙ w.if-starts_variable.false))
    ]

pub returns-clause-count : goal.returns-clause-count
returns-clause-count c = ended-count c.loop-i.invariant c.loop-i-test.false

pub returns-clause-kept : goal.returns-clause-kept
returns-clause-kept c = ended-over c.loop-i.invariant c.loop-i-test.false
