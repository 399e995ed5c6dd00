-- The bits of the labels are 1 at one place only.
use Rattle.std.proofs.Common.{◌≤◌, arith, to_z-of_z, rules}
use Rattle.integers.specs.Number.{+1}
use Rattle.arguments.proofs.Size.{read}
use Rattle.words.specs.Small.{Near}
use Rattle.extremes.proofs.Size.{width-size}
use Rattle.picking.proofs.Only.{bits-ranged, only-length}
use Rattle.picking.proofs.Labels.{label-bits}
use Rattle.picking.proofs.Output.labels.Goals.{After-width_of-n}
use Rattle.picking.proofs.Output.labels.Goals as goal

few : (c : After-width_of-n) → c.width_of-n.result ≤ 268435457
few c =
    let near : Near c.args.labels.lower × Near c.args.labels.upper = (search rules, search rules) in
    omega (arith, c.width_of-n.ensures, width-size c.args.labels.lower c.args.labels.upper near.0 near.1)

pub only-requires : goal.only-requires
only-requires c =
    (omega (arith, c.requires.0, few (goal.at.only-requires c).After-width_of-n), bits-ranged c.width_of-n.result c.place_of-h.result)

pub returns : goal.returns
returns c =
    let f = rw (to_z-of_z c.ranges.v, read c.lower.type_inv c.lower.ensures.value, c.width_of-n.ensures) at c.place_of-h.ensures in
    record {
      puts = rw (label-bits c.args.labels c.args.v c.place_of-h.result f) (rw c.width_of-n.ensures at c.only.ensures);
      few = omega (arith, c.only.ensures.laid.ends, only-length c.width_of-n.result c.place_of-h.result +1, few (goal.at.returns c).After-width_of-n);
    }
