use Rattle.std.proofs.Common.{◌≡◌, refl, ap, ◌∙◌, arith, ◌-◌, length, get_or, length-set}
use Rattle.integers.specs.Number.{+0, +1}
use Rattle.integers.specs.Terms.{value}
use Rattle.integers.proofs.Fits.{back, plus-size}
use Rattle.solutions.proofs.Stepping.{begun-step, same-value, over, up}
use Rattle.solutions.proofs.step.Goals.{After-value_at-v}
use Rattle.solutions.proofs.step.Goals as goal

-- the value at the place is still what it was
same : (c : After-value_at-v) → c.value_at-v.result ≡ get_or c.args.values.now (c.loop-k.k - 1) +0
unfolding value
same c = c.value_at-v.ensures ∙ same-value _ _ c.loop-k.invariant.1 (c.loop-k.k - 1) (omega arith)

pub plus-requires : goal.plus-requires
unfolding value
plus-requires c =
    rw (back c.value_at-v.result c.value_at-v.type_inv, same (goal.at.plus-requires c).After-value_at-v) (omega (arith, c.requires (c.loop-k.k - 1)))

pub put_value-requires : goal.put_value-requires
unfolding value
put_value-requires c =
    let k = c.loop-k.k - 1 in
    rw (back c.plus.result c.plus.type_inv, c.plus.ensures.value, back c.value_at-v.result c.value_at-v.type_inv, same (goal.at.put_value-requires c).After-value_at-v)
    (omega (arith, c.requires k, plus-size (get_or c.args.values.now k +0) +1))

pub returns-then-v-upper : goal.returns-then-v-upper
returns-then-v-upper c =
    let s = same (goal.at.returns-then-v-upper c).After-value_at-v in
    let h = up _ _ c.loop-k.invariant.1 (c.loop-k.k - 1) (omega arith) (rw (back c.value_at-v.result c.value_at-v.type_inv, back c.upper.result c.upper.type_inv, c.upper.ensures.value, c.domain_of-domain.ensures, s) at c.if-v-upper.true) in
    record { more = h.0; list = rw (c.put_value.ensures, back c.plus.result c.plus.type_inv, c.plus.ensures.value, back c.value_at-v.result c.value_at-v.type_inv, s) h.1 }

pub loop-k-preserved : goal.loop-k-preserved
loop-k-preserved c =
    let s = same (goal.at.loop-k-preserved c).After-value_at-v in (
      ap length c.put_value-in-loop-k.ensures ∙ simp length-set c.loop-k.invariant.0,
      rw (c.put_value-in-loop-k.ensures, back c.lower.result c.lower.type_inv, c.lower.ensures.value, c.domain_of-domain.ensures)
          (over _ _ c.loop-k.invariant.1 (c.loop-k.k - 1) (omega arith) (rw (back c.value_at-v.result c.value_at-v.type_inv, back c.upper.result c.upper.type_inv, c.upper.ensures.value, c.domain_of-domain.ensures, s) at c.if-v-upper.false)),
    )

pub loop-k-init : goal.loop-k-init
loop-k-init c = (refl, begun-step _ _)
