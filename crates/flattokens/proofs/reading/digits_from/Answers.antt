-- 17 digits come to a number of 64 bits.
use Rattle.std.proofs.Common.{sym, ◌∙◌, arith, refl}
use Rattle.flattokens.proofs.Runs.{digits_on, digits_over, small, larger, at_most}
use Rattle.flattokens.proofs.reading.digits_from.Goals as goal

pub overflow_mul-n : goal.overflow_mul-n
overflow_mul-n c = record { fits = omega (arith, small c.loop-b.n c.loop-b.b-index c.loop-b.invariant.size (omega arith)) }

pub overflow_add-n : goal.overflow_add-n
overflow_add-n c = record { fits = omega (arith, small c.loop-b.n c.loop-b.b-index c.loop-b.invariant.size (omega arith), c.saturating_sub.type_inv) }

pub loop-b-init : goal.loop-b-init
loop-b-init c = record { same = refl; size = omega arith }

pub loop-b-preserved : goal.loop-b-preserved
loop-b-preserved c = record {
  same = rw c.saturating_sub.ensures (sym (digits_on c.args.spelled.now c.loop-b.b-index c.loop-b.n c.loop-b-test.true) ∙ c.loop-b.invariant.same);
  size = larger c.loop-b.n c.loop-b.b-index c.saturating_sub.result c.loop-b.invariant.size (omega (arith, c.type_inv.spelled c.loop-b.b-index, c.saturating_sub.ensures));
}

pub returns-clause-value : goal.returns-clause-value
returns-clause-value c = sym (digits_over c.args.spelled.now c.loop-b.b-index c.loop-b.n c.loop-b-test.false) ∙ c.loop-b.invariant.same

pub returns-clause-size : goal.returns-clause-size
returns-clause-size c = at_most c.loop-b.n c.loop-b.b-index c.loop-b.invariant.size (omega arith)
