-- The number of each shape of an argument, 0 where there is none.
use Rattle.std.specs.Prelude.{ℕ, Option, None, Some}
use Rattle.models.specs.Shape as Shape
use Rattle.models.specs.declared.shape.Shape.{Shape}
use Rattle.models.specs.declared.shape.Shape.TheVariants as s

abbrev pub shape_number : Shape → ℕ
shape_number s.Integer = Shape.integer
shape_number s.Boolean = Shape.boolean
shape_number s.Number = Shape.number
shape_number s.Exponent = Shape.exponent
shape_number s.Numbers = Shape.numbers
shape_number s.Integers = Shape.integers
shape_number s.Booleans = Shape.booleans
shape_number s.Parallel = Shape.parallel

abbrev pub argument_number : Option Shape → ℕ
argument_number None = Shape.none
argument_number (Some s) = shape_number s
