use Rattle.std.proofs.Common.{rules, ◌+◌, to_z-of_z}
use Rattle.models.specs.Model.{var}
use Rattle.laying.proofs.Writer.each.Goals as goal

pub returns : goal.returns
returns c = rw (← c.size_at.ensures.value) (rw (to_z-of_z c.ranges.c) at (c.multiples.ensures (λ k. var c.args.args.now (c.args.i + 1 + k)) (λ k r h p. search rules)))
