use Rattle.std.proofs.Common.{◌∙◌, ◌<◌, arith, w64}
use mir.Facts.{to_z_pos}
use Rattle.integers.proofs.Fits.{back}
use Rattle.arguments.proofs.Size.{read}
use Rattle.bitenergy.proofs.Whole.{slacked}
use Rattle.bitenergy.proofs.slacked_sum.Goals as goal

pub returns-clause-value : goal.returns-clause-value
returns-clause-value c =
    let h : c.weigh.result < 9223372036854775808 = omega (arith, c.weigh.ensures.size, c.slack_of.ensures.size) in
    read c.plus.type_inv c.plus.ensures.value
    ∙ rw (back c.sum_at.result c.sum_at.type_inv, to_z_pos w64 {n = c.weigh.result} h)
    (slacked c.args.bits.now c.args.table.now c.args.first _ _ _ _ _ c.sum_at.ensures.value c.slack_of.ensures.value c.weigh.ensures.value)
