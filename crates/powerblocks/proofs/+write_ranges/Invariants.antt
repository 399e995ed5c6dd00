-- Each call halves the exponent.
use Rattle.powerblocks.proofs.+write_ranges.Given as goal

abbrev pub decreases-write_ranges : goal.decreases-write_ranges
decreases-write_ranges l = l.k
