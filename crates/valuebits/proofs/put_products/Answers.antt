use Rattle.valuebits.proofs.Products.{crossing_more, crossing_done}
use Rattle.valuebits.proofs.put_products.Goals as goal

pub loop-f-preserved : goal.loop-f-preserved
loop-f-preserved c = crossing_more c.loop-f-test.true c.loop-f.invariant c.put_times-to.ensures

pub returns-clause-laid : goal.returns-clause-laid
returns-clause-laid c = crossing_done c.loop-f-test.false c.loop-f.invariant
