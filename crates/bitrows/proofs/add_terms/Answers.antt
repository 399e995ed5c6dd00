use Rattle.arguments.proofs.Size.{read}
use Rattle.bittables.specs.BitTables.{firsts}
use Rattle.bitrows.proofs.Over.{terms-none, terms-more}
use Rattle.bitrows.proofs.add_terms.Goals as goal

pub loop-k-init : goal.loop-k-init
loop-k-init c = terms-none _ _ _ _

pub loop-k-preserved : goal.loop-k-preserved
loop-k-preserved c =
    terms-more c.args.args.now c.args.table.now.domains.now (firsts c.args.table.now.bits.now) c.loop-k.k (rw (read c.signed_at.type_inv c.signed_at.ensures.value, c.row_variable.ensures) at c.add_variable.ensures) c.loop-k.invariant
