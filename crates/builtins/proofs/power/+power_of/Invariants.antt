-- The power k is made of the power k / 2, which is smaller from 2 on: the measure is k.
use Rattle.builtins.proofs.power.+power_of.Given as goal

abbrev pub decreases-power_of : goal.decreases-power_of
decreases-power_of l = l.k
