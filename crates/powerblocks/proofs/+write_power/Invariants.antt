-- Each call halves the exponent.
use Rattle.powerblocks.proofs.+write_power.Given as goal

abbrev pub decreases-write_power : goal.decreases-write_power
decreases-write_power l = l.k
