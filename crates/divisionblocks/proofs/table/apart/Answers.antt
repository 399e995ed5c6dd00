-- Differences of end products and bounds near 0 fit.
use Rattle.std.proofs.Common.{arith, rules, true}
use Rattle.integers.proofs.Fits.{back}
use Rattle.arguments.proofs.Size.{read}
use Rattle.extremes.proofs.Size.{pick-size}
use Rattle.divisionblocks.proofs.table.apart.Goals as goal

pub returns-clause-size : goal.returns-clause-size
returns-clause-size c =
    rw (read c.largest.type_inv c.largest.ensures, back c.minus.result c.minus.type_inv, back c.minus-2.result c.minus-2.type_inv)
    (pick-size true c.minus.result c.minus-2.result (omega (arith, rw (back c.args.p.upper (search rules), back c.lower.result c.lower.type_inv) at c.minus.ensures.size, c.lower.ensures.near, c.requires.1)) (omega (arith, rw (back c.args.p.lower (search rules), back c.upper.result c.upper.type_inv) at c.minus-2.ensures.size, c.upper.ensures.near, c.requires.0)))
