-- The difference of two numbers fits where their absolute values add up to less than 2^63.
use Rattle.std.proofs.Common.{◌∙◌, arith, to_z-of_z}
use Rattle.integers.specs.Number.{◌⊖◌}
use Rattle.integers.proofs.Fits.{fits64, minus-size}
use Rattle.integers.proofs.minus.Goals as goal

pub overflow_sub-result : goal.overflow_sub-result
unfolding ◌⊖◌
overflow_sub-result c = simp (to_z-of_z c.ranges.a, to_z-of_z c.ranges.b) (fits64 _ (omega (arith, minus-size c.args.a c.args.b)))

pub returns-clause-value : goal.returns-clause-value
unfolding ◌⊖◌
returns-clause-value c = to_z-of_z (overflow_sub-result c) ∙ simp (to_z-of_z c.ranges.a, to_z-of_z c.ranges.b)

pub returns-clause-size : goal.returns-clause-size
returns-clause-size c = rw (returns-clause-value c) (minus-size c.args.a c.args.b)
