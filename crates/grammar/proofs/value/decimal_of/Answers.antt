use Rattle.std.proofs.Common.{refl, sym, ap, ◌∙◌, ℕ, ◌+◌, ◌*◌, ◌-◌, ◌≡◌, arith, drop, get_or}
use Rattle.grammar.specs.Value.{digits_from}
use Rattle.grammar.specs.Machine.{cap}
use Rattle.grammar.proofs.Numbers.{cap-again, cap-most, cap-min, digits-on, digits-end}
use Rattle.grammar.proofs.value.decimal_of.Goals as goal

pub overflow_mul-n : goal.overflow_mul-n
overflow_mul-n c = record { fits = omega (arith, cap-most c.loop-b.n, c.loop-b.invariant.0) }

pub overflow_add-n : goal.overflow_add-n
overflow_add-n c = record { fits = omega (arith, cap-most c.loop-b.n, c.loop-b.invariant.0) }

pub loop-b-init : goal.loop-b-init
unfolding cap
loop-b-init c = (refl, refl)

pub loop-b-preserved : goal.loop-b-preserved
loop-b-preserved c =
    let e : c.min-n.result ≡ cap (c.loop-b.n * 10 + (get_or c.args.digits.now c.loop-b.b-index 0 - 48)) = rw (c.min-n.ensures, c.saturating_sub.ensures) (cap-min _) in (
      rw (← cap-again, ← e) at e,
      c.loop-b.invariant.1 ∙ digits-on c.args.digits.now c.loop-b.b-index c.loop-b.n c.loop-b-test.true ∙ ap (λ (n : ℕ). cap (digits_from n (drop (c.loop-b.b-index + 1) c.args.digits.now))) (sym e),
    )

pub returns-clause-value : goal.returns-clause-value
returns-clause-value c = c.loop-b.invariant.0 ∙ sym (c.loop-b.invariant.1 ∙ digits-end c.args.digits.now c.loop-b.b-index c.loop-b.n c.loop-b-test.false)

pub returns-clause-size : goal.returns-clause-size
returns-clause-size c = omega (arith, cap-most c.loop-b.n, c.loop-b.invariant.0)
