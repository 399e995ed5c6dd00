use Rattle.std.proofs.Common.{◌∙◌, ◌<◌, arith, w64}
use mir.Facts.{to_z_pos}
use Rattle.arguments.proofs.Size.{read}
use Rattle.bittables.specs.BitTables.{firsts}
use Rattle.bitreading.proofs.Variable.{variable-reads}
use Rattle.bitreading.proofs.read_variable.Goals as goal

pub returns-clause-value : goal.returns-clause-value
returns-clause-value c =
    let h : c.weigh.result < 9223372036854775808 = omega (arith, c.weigh.ensures.size, c.span_at.ensures.size) in
    read c.plus.type_inv c.plus.ensures.value
    ∙ rw (read c.lower.type_inv c.lower.ensures.value, to_z_pos w64 {n = c.weigh.result} h, c.domain_of.ensures)
    (variable-reads c.args.bits.now.bytes.now c.args.table.now.domains.now (firsts c.args.table.now.bits.now) c.args.v _ _ _ c.bits_at.ensures.first c.span_at.ensures.value c.weigh.ensures.value)
