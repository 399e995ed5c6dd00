use Rattle.powerblocks.proofs.Steps.{ranges_one, ranges_even, ranges_odd}
use Rattle.powerblocks.proofs.+write_ranges.Goals as goal

-- The bounds are those of half the power, and one or two more.
pub returns-then-k-lt2 : goal.returns-then-k-lt2
returns-then-k-lt2 t c = ranges_one c.args.writer.now c.args.range c.args.k c.if-k-lt2.true

pub returns-then-k-eq0 : goal.returns-then-k-eq0
returns-then-k-eq0 t c = ranges_even c.args.range c.args.k c.if-k-lt2.false c.write_ranges-half.ensures c.next_range-square.ensures c.if-k-eq0.true

pub returns : goal.returns
returns t c = ranges_odd c.args.range c.args.k c.if-k-lt2.false c.write_ranges-half.ensures c.next_range-square.ensures c.if-k-eq0.false c.next_range.ensures
