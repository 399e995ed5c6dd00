-- The number of the sum of which a rule has L and U, 0 where there is none.
use Rattle.std.specs.Prelude.{ℕ, Option, None, Some}
use Rattle.linearsums.specs.Sum.{no_sum, of_terms, of_two}
use Rattle.linearsums.specs.declared.SumForm.{SumForm}
use Rattle.linearsums.specs.declared.SumForm.TheVariants as f

abbrev pub form_number : Option SumForm → ℕ
form_number None = no_sum
form_number (Some f.OfTerms) = of_terms
form_number (Some f.OfTwo) = of_two
