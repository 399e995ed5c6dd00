use Rattle.std.proofs.Common.{arith}
use Rattle.integers.specs.Bounds.{bounds_in}
use Rattle.models.specs.Model.{size, var}
use Rattle.arguments.proofs.Size.{size-le}
use Rattle.extremes.proofs.Size.{places-width}
use Rattle.choiceblocks.proofs.labels.Goals as goal

-- The width of the places of a list of at most 32 elements.
pub returns-clause-size : goal.returns-clause-size
returns-clause-size c = omega (arith, rw c.element_places.ensures at c.width_of.ensures, places-width (bounds_in c.args.domains.now (var c.args.args.now 0)) (size c.args.args.now 1), size-le c.args.args.now 1)
