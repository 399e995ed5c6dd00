use Rattle.laying.proofs.Written.{wrote-then}
use Rattle.fixedblocks.proofs.boolean.two_products.Goals as goal

-- Two bits and two products, one after the other.
pub returns : goal.returns
returns c = wrote-then c.bound.ensures (wrote-then c.bound-2.ensures (wrote-then c.times.ensures c.times-2.ensures))
