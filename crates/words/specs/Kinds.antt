-- The number of each kind; a number is decoded as the kind that has it.
use Rattle.std.specs.Prelude.{◌≡◌, ℕ, Result, MatchResult}
use Rattle.words.specs.Kind as Kind
use Rattle.words.specs.declared.kind.Kind.{Kind}
use Rattle.words.specs.declared.kind.Kind.TheVariants as k
use Rattle.words.specs.declared.kind.UnknownKind.{UnknownKind}

abbrev pub kind_number : Kind → ℕ
kind_number k.Lower = Kind.lower
kind_number k.Upper = Kind.upper
kind_number k.Boolean = Kind.boolean
kind_number k.Constraint = Kind.constraint
kind_number k.Variable = Kind.variable
kind_number k.Number = Kind.number
kind_number k.ModelEnd = Kind.model_end
kind_number k.AuxiliaryLower = Kind.auxiliary_lower
kind_number k.AuxiliaryUpper = Kind.auxiliary_upper
kind_number k.AtMost = Kind.at_most
kind_number k.Equal = Kind.equal
kind_number k.Product = Kind.product
kind_number k.RowsEnd = Kind.rows_end

-- the kind with this number, or the number where no kind has it
abbrev pub Decodes : ℕ → Result Kind UnknownKind → Type 0
Decodes n r = MatchResult r (λ k. kind_number k ≡ n) (λ e. (e.0 ≡ n) × ((k : Kind) → kind_number k ≡ n → ⊥))
