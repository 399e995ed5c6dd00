-- What the statements of specs/ are worth: each is false of wrong row systems, for models of 1, 2 and 3 variables. So a weaker statement, one that holds
-- of fewer models or lists or asks less, makes a line of these fail.
use Rattle.sharing.specs.SharedSolutions.{SharedSolutions}
use Rattle.sharing.specs.ExactlyOne.{ExactlyOne, AsManySolutions}
use Rattle.sharing.proofs.WrongSystems.{three, free, at_most_0, of_0_and_1, no_row, wider, with_row, two_bits, loses, admits, admits-outside, two-lists, loses-shared, loses-one, loses-many, admits-shared, admits-many, two-lists-one, two-lists-many}

-- of a row system that loses the solution 1, one that admits 1 where the model does not, and one that admits 2, which is out of bounds
pub shared-solutions : three (λ n. (SharedSolutions (free n) (with_row n) → ⊥) × (SharedSolutions (at_most_0 n) (no_row n) → ⊥) × (SharedSolutions (free n) (wider n) → ⊥))
shared-solutions = (
  (loses-shared _ _ _ loses.0, admits-shared _ _ _ admits.0, admits-shared _ _ _ admits-outside.0),
  (loses-shared _ _ _ loses.1, admits-shared _ _ _ admits.1, admits-shared _ _ _ admits-outside.1),
  (loses-shared _ _ _ loses.2, admits-shared _ _ _ admits.2, admits-shared _ _ _ admits-outside.2),
)

-- of one that has no auxiliaries for a solution, and of one that has two lists of them
pub exactly-one : three (λ n. (ExactlyOne (free n) (with_row n) → ⊥) × (ExactlyOne (of_0_and_1 n) (two_bits n) → ⊥))
exactly-one = (
  (loses-one _ _ _ loses.0, two-lists-one _ _ _ _ _ _ two-lists.0),
  (loses-one _ _ _ loses.1, two-lists-one _ _ _ _ _ _ two-lists.1),
  (loses-one _ _ _ loses.2, two-lists-one _ _ _ _ _ _ two-lists.2),
)

-- of one that loses a solution, one that admits another, and one whose further solution has auxiliaries that are not picked
pub as-many-solutions : three (λ n. (AsManySolutions (free n) (with_row n) → ⊥) × (AsManySolutions (at_most_0 n) (no_row n) → ⊥) × (AsManySolutions (of_0_and_1 n) (two_bits n) → ⊥))
as-many-solutions = (
  (loses-many _ _ _ loses.0, admits-many _ _ _ admits.0, two-lists-many _ _ _ _ _ _ two-lists.0),
  (loses-many _ _ _ loses.1, admits-many _ _ _ admits.1, two-lists-many _ _ _ _ _ _ two-lists.1),
  (loses-many _ _ _ loses.2, admits-many _ _ _ admits.2, two-lists-many _ _ _ _ _ _ two-lists.2),
)
