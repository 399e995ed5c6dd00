-- A word that a token writes is not 0, since no kind has the number 0. For the steps.
use Rattle.std.proofs.Common.{◌<◌, arith}
use Rattle.words.specs.Kinds.{kind_number}
use Rattle.words.specs.declared.kind.Kind.{Kind}
use Rattle.words.specs.declared.kind.Kind.TheVariants as k

pub some_kind : (kind : Kind) → 0 < kind_number kind
some_kind k.Lower = omega arith
some_kind k.Upper = omega arith
some_kind k.Boolean = omega arith
some_kind k.Constraint = omega arith
some_kind k.Variable = omega arith
some_kind k.Number = omega arith
some_kind k.ModelEnd = omega arith
some_kind k.AuxiliaryLower = omega arith
some_kind k.AuxiliaryUpper = omega arith
some_kind k.AtMost = omega arith
some_kind k.Equal = omega arith
some_kind k.Product = omega arith
some_kind k.RowsEnd = omega arith
