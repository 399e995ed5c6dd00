-- The products of the power k are those of the power k / 2, which is smaller from 2 on, and one or two more: the measure is k.
use Rattle.picking.proofs.Output.+powers.Given as goal

abbrev pub decreases-powers : goal.decreases-powers
decreases-powers l = l.k
