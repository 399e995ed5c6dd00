use Rattle.std.proofs.Common.{arith}
use Rattle.decimals.proofs.Digits.{decimal-small, decimal-more}
use Rattle.decimals.proofs.digit_count.Goals as goal

pub loop-rest-preserved : goal.loop-rest-preserved
loop-rest-preserved c = omega (arith, decimal-more c.loop-rest.rest c.loop-rest-test.true)

pub returns : goal.returns
returns c = omega (arith, decimal-small c.loop-rest.rest c.loop-rest-test.false)
