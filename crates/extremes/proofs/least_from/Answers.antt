use Rattle.std.proofs.Common.{◌≡◌, refl, ◌∙◌, arith, to_z-of_z}
use Rattle.integers.proofs.Fits.{back}
use Rattle.integers.specs.Lists.{list_of}
use Rattle.models.specs.Model.{nums}
use Rattle.rules.specs.Parts.{least_from}
use Rattle.extremes.proofs.Rising.{least_more}
use Rattle.extremes.proofs.least_from.Goals as goal

pub loop-k-init : goal.loop-k-init
unfolding list_of least_from
loop-k-init c = refl

pub loop-k-preserved : goal.loop-k-preserved
loop-k-preserved c =
    back c.nearer-least_yet.result c.nearer-least_yet.type_inv ∙ c.nearer-least_yet.ensures ∙ rw (back c.num_at.result c.num_at.type_inv, c.num_at.ensures.value, c.loop-k.invariant, least_more)

pub returns : goal.returns
unfolding nums
returns c =
    let e : c.loop-k.k ≡ c.size_at-k-end.result = omega arith in c.loop-k.invariant ∙ rw (e, c.size_at-k-end.ensures.value, to_z-of_z c.ranges.from, to_z-of_z c.ranges.above)
