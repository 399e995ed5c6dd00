-- a part that does not begin here stands in what is left
use Rattle.std.proofs.Common.{◌<◌, length, arith, sym, ◌∙◌}
use Rattle.flatplaces.proofs.Parts.{contains_more}
use Rattle.flatplaces.proofs.paths.contains_part.Goals as goal

pub loop-at-preserved : goal.loop-at-preserved
loop-at-preserved c =
    let lt : c.loop-at.at < length c.args.text.now = omega arith in
    c.loop-at.invariant ∙ contains_more c.args.text.now c.args.part.now c.loop-at.at lt (sym c.if-starts_with.ensures.value)
