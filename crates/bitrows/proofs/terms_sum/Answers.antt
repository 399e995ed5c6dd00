use Rattle.std.proofs.Common.{◌≡◌, refl, sym, ap, ◌∙◌, ◌*◌, arith}
use Rattle.rowsystems.specs.RowSystem.{constant_in}
use Rattle.integers.proofs.Fits.{back}
use Rattle.arguments.proofs.Size.{read}
use Rattle.bitrows.proofs.Constant.{lower-none, lower_more, variable_below}
use Rattle.bitrows.proofs.terms_sum.Goals as goal

pub loop-k-init : goal.loop-k-init
loop-k-init g c = (λ σ p. lower-none _ _, omega arith)

pub value-x-requires : goal.value-x-requires
value-x-requires g c = (c.requires.near _ (rw c.row_variable.ensures (variable_below c.args.args.now (2 * c.loop-k.k)))).0

pub term_at-requires : goal.term_at-requires
term_at-requires g c =
    let near = (c.requires.near _ (rw c.row_variable.ensures (variable_below c.args.args.now (2 * c.loop-k.k)))).1 _ c.value-x.ensures in
    (omega (arith, c.loop-k-test.true, c.requires.few), rw (back c.value-x.result c.value-x.type_inv) near)

pub loop-k-preserved : goal.loop-k-preserved
loop-k-preserved g c = (
  λ σ p.
      let x = read c.value-x.type_inv (p _ _ (rw c.row_variable.ensures (variable_below c.args.args.now (2 * c.loop-k.k))) c.value-x.ensures) ∙ ap σ c.row_variable.ensures in
      read c.plus-total.type_inv c.plus-total.ensures.value ∙ rw (c.loop-k.invariant.0 σ p, read c.term_at.type_inv c.term_at.ensures.value, x) (sym (lower_more _ _ c.loop-k.k)),
  rw (back c.plus-total.result c.plus-total.type_inv) (omega (arith, rw (back c.term_at.result c.term_at.type_inv) at c.plus-total.ensures.size, c.loop-k.invariant.1, c.term_at.ensures.size)),
)

pub returns : goal.returns
unfolding constant_in
returns g c =
    let k : c.loop-k.k ≡ c.args.n = omega (arith, c.loop-k-test.false) in
    record {
      sums = λ σ p. read c.plus.type_inv c.plus.ensures.value ∙ rw (c.loop-k.invariant.0 σ p, k, read c.signed_at.type_inv c.signed_at.ensures.value) refl;
      size =
          rw (back c.plus.result c.plus.type_inv)
          (omega (arith, rw (back c.signed_at.result c.signed_at.type_inv) at c.plus.ensures.size, c.signed_at.ensures.near, c.loop-k.invariant.1, k, c.requires.few));
    }
