use Rattle.std.proofs.Common.{[], get_or, rules}
use Rattle.integers.specs.Number.{+0}
use Rattle.integers.proofs.Fits.{back}
use Rattle.laying.proofs.Written.{writing-none, writing-more}
use Rattle.divisionblocks.proofs.table.write_table.Goals as goal

pub loop-row-init : goal.loop-row-init
loop-row-init c = writing-none _ _

pub loop-row-preserved : goal.loop-row-preserved
loop-row-preserved c =
    let row = get_or c.args.table.now c.loop-row.row-index [] in
    writing-more c.loop-row.invariant
    (rw (
      c.new.ensures,
      c.new-in-loop-row.ensures,
      c.new-in-loop-row-2.ensures,
      c.new-in-loop-row-3.ensures,
      c.new-in-loop-row-4.ensures,
      c.new-in-loop-row-5.ensures,
      back (get_or row 0 +0) (search rules),
      back (get_or row 1 +0) (search rules),
      back (get_or row 2 +0) (search rules),
      back (get_or row 3 +0) (search rules),
      back (get_or row 4 +0) (search rules),
      back (get_or row 5 +0) (search rules),
      back (get_or row 6 +0) (search rules),
    ) at c.row.ensures)
