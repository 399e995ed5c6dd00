use Rattle.std.proofs.Common.{sym, ◌∙◌, rules, w64, FitsSigned, to_z-of_z, get_or}
use Rattle.integers.specs.Number.{+0}
use Rattle.integers.proofs.Fits.{back}
use Rattle.flatrewriting.proofs.Extremes.{lowest-at, lowest-end}
use Rattle.flatrewriting.proofs.variables.lowest_from.Goals as goal

pub loop-number-preserved : goal.loop-number-preserved
loop-number-preserved c =
    let g : FitsSigned w64 (get_or c.args.others.now c.loop-number.number-index +0) = search rules in
    rw (back c.least-lowest.result c.least-lowest.type_inv, c.least-lowest.ensures, to_z-of_z g) (sym (lowest-at _ c.args.others.now c.loop-number.number-index c.loop-number-test.true) ∙ c.loop-number.invariant)

pub returns : goal.returns
returns c =
    sym (lowest-end _ c.args.others.now c.loop-number.number-index c.loop-number-test.false) ∙ (rw (to_z-of_z c.ranges.first) at c.loop-number.invariant)
