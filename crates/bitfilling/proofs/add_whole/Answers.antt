-- A row without the bit adds nothing.
use Rattle.std.proofs.Common.{sym, ◌∙◌, arith, get_or}
use Rattle.integers.specs.Number.{+0}
use Rattle.integers.proofs.Fits.{back}
use Rattle.integers.proofs.Tests.{says-equal}
use Rattle.bitlines.proofs.Dense.{peak-at}
use Rattle.bitfilling.proofs.Lines.{none-square}
use Rattle.bitfilling.proofs.add_whole.Goals as goal

pub returns-else-not-equal : goal.returns-else-not-equal
returns-else-not-equal c =
    let b = back (get_or c.args.row.now c.args.i +0) (omega (arith, peak-at c.args.row.now c.args.i, c.requires.small)) in
    none-square c.args.row.now c.args.line.now c.args.c c.args.i c.args.m (sym b ∙ (says-equal _ +0).0 (sym c.equal.ensures ∙ c.if-not-equal.false))
