-- 01, Words: the words of rows, products and auxiliaries; and every number that they hold.
use mathlib.Core.List.{List, [], ◌∷◌, ◌++◌, flat_map, map}
use Rattle.std.specs.Prelude.{ℕ, ℤ, length}
use Rattle.integers.specs.Terms.{Term}
use Rattle.integers.specs.declared.Bounds.{Bounds}
use Rattle.words.specs.Word.{word, number_word}
use Rattle.words.specs.Kind as Kind
use Rattle.rowsystems.specs.Row.{Row, sum≤0, sum=0, product}

-- "8 and 9 lower and upper bound of an auxiliary"
unfoldable pub bound_words : Bounds → List ℕ
bound_words B = number_word Kind.auxiliary_lower B.lower ∷ number_word Kind.auxiliary_upper B.upper ∷ []

-- "each term a 5 and a 6 (coefficient)"
unfoldable pub term_words : Term ℕ → List ℕ
term_words t = word Kind.variable t.variable ∷ number_word Kind.number t.coefficient ∷ []

-- "payload the number of terms, each term .., then a 6 (constant)"
unfoldable pub sum_words : ℕ → List (Term ℕ) → ℤ → List ℕ
sum_words k ts c = word k (length ts) ∷ (flat_map term_words ts ++ (number_word Kind.number c ∷ []))

-- "C a product, payload 0, then three 5: result, factor, factor"
unfoldable pub row_words : Row ℕ → List ℕ
row_words (sum≤0 ts c) = sum_words Kind.at_most ts c
row_words (sum=0 ts c) = sum_words Kind.equal ts c
row_words (product r f g) = word Kind.product 0 ∷ word Kind.variable r ∷ word Kind.variable f ∷ word Kind.variable g ∷ []

-- the numbers that bounds and a row hold
unfoldable pub bound_numbers : Bounds → List ℤ
bound_numbers B = B.lower ∷ B.upper ∷ []

unfoldable pub row_numbers : {X : Type 0} → Row X → List ℤ
row_numbers (sum≤0 ts c) = map (λ t. t.coefficient) ts ++ (c ∷ [])
row_numbers (sum=0 ts c) = map (λ t. t.coefficient) ts ++ (c ∷ [])
row_numbers (product r f g) = []
