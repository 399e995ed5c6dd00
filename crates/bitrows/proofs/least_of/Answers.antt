use Rattle.std.proofs.Common.{◌≡◌, sym, ◌∙◌, arith}
use Rattle.rowsystems.specs.RowSystem.{constant_in}
use Rattle.integers.proofs.Fits.{back}
use Rattle.arguments.proofs.Size.{read}
use Rattle.bitforms.specs.BitRow.{least}
use Rattle.bitrows.proofs.Constant.{least-none, least_more}
use Rattle.bitrows.proofs.least_of.Goals as goal

pub loop-k-init : goal.loop-k-init
loop-k-init c = (least-none _ _, omega arith)

pub loop-k-preserved : goal.loop-k-preserved
loop-k-preserved c = (
  read c.plus-total.type_inv c.plus-total.ensures.value ∙ rw (c.loop-k.invariant.0, read c.least_term.type_inv c.least_term.ensures.value) (sym (least_more _ _ c.loop-k.k)),
  rw (back c.plus-total.result c.plus-total.type_inv) (omega (arith, rw (back c.least_term.result c.least_term.type_inv) at c.plus-total.ensures.size, c.loop-k.invariant.1, c.least_term.ensures.size)),
)

pub returns-clause-value : goal.returns-clause-value
unfolding constant_in least
returns-clause-value c =
    let k : c.loop-k.k ≡ c.args.n = omega (arith, c.loop-k-test.false) in
    read c.plus.type_inv c.plus.ensures.value ∙ rw (c.loop-k.invariant.0, k, read c.signed_at.type_inv c.signed_at.ensures.value)
