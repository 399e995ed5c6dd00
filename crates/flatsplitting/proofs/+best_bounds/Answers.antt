use Rattle.std.proofs.Common.{rules}
use Rattle.integers.specs.Choice.{◌if◌else◌}
use Rattle.integers.specs.Number.{min_z, max_z}
use Rattle.flatzinc.specs.Numbers.{bounds_of}
use Rattle.flatsplitting.proofs.Sizes as s
use Rattle.flatsplitting.proofs.+best_bounds.Goals as goal

pub returns : goal.returns
returns t c =
    let h = c.in-Some.ensures.cases in
    rw (s.best-step (max_z if c.args.largest else min_z) (bounds_of c.args.variables.now) c.args.numbers.now c.in-Some.v.now c.in-Some.others.now h.0 c.if-is_empty.ensures) (search rules)
