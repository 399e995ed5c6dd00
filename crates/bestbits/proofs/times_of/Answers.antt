-- The number fits.
use Rattle.bestbits.proofs.Distance.{width-back}
use Rattle.bestbits.proofs.times_of.Goals as goal

pub returns : goal.returns
returns c = width-back c.args.width c.requires
