use Rattle.std.proofs.Common.{ap, ◌∙◌, arith, length}
use Rattle.bitforms.specs.Weights.{weights}
use Rattle.bittables.proofs.Bits.{firsts_set, counts_set}
use Rattle.bittables.proofs.Keeping.{keeping_begun, keeping_more}
use Rattle.bittables.proofs.keep_bits.Goals as goal

pub overflow_add-at : goal.overflow_add-at
overflow_add-at c = omega (arith, c.loop-v.invariant.few, c.requires, c.weight_count-count.ensures.few)

pub loop-v-preserved : goal.loop-v-preserved
loop-v-preserved c =
    rw (c.put.ensures, firsts_set, counts_set)
    (keeping_more (c.weight_count-count.ensures.value ∙ ap (λ w. length (weights w)) c.span_at.ensures.value) c.weight_count-count.ensures.few c.loop-v.invariant)

pub loop-v-init : goal.loop-v-init
loop-v-init c = keeping_begun _ _ _
