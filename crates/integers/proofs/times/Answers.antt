-- The product of two numbers fits where that of their absolute values does.
use Rattle.std.proofs.Common.{◌∙◌, arith, to_z-of_z}
use Rattle.integers.specs.Number.{◌⊗◌}
use Rattle.integers.proofs.Fits.{fits64, times-size}
use Rattle.integers.proofs.times.Goals as goal

pub overflow_mul-result : goal.overflow_mul-result
unfolding ◌⊗◌
overflow_mul-result c = simp (to_z-of_z c.ranges.a, to_z-of_z c.ranges.b) (fits64 _ (omega (arith, times-size c.args.a c.args.b)))

pub returns-clause-value : goal.returns-clause-value
unfolding ◌⊗◌
returns-clause-value c = to_z-of_z (overflow_mul-result c) ∙ simp (to_z-of_z c.ranges.a, to_z-of_z c.ranges.b)

pub returns-clause-size : goal.returns-clause-size
returns-clause-size c = rw (returns-clause-value c) (omega (arith, times-size c.args.a c.args.b))
