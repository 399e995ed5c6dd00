-- The bits of values: of a variable those of its value less its lower bound, of a row ≤ those of its slack, minus the row's sum; of a product each is the
-- product of its two bits.
use mathlib.Core.List.{List, [], ◌++◌, map, flat_map, flatten}
use Rattle.std.specs.Prelude.{ℕ, ◌*◌, ℤ, length}
use Rattle.integers.specs.Number.{◌⊕◌, ◌⊖◌, neg, count}
use Rattle.integers.specs.Lists.{list_of}
use Rattle.integers.specs.Bounds.{bounds_in}
use Rattle.integers.specs.Terms.{Valuation, sum, value}
use Rattle.integers.specs.declared.Bounds.{Bounds}
use Rattle.words.specs.Variables.{variables}
use Rattle.rowsystems.specs.Row.{Row, sum≤0, sum=0, product}
use Rattle.rowsystems.specs.RowSystem.{rows}
use Rattle.bitforms.specs.Chosen.{chosen}
use Rattle.bitforms.specs.Encoding.{weights_of}
use Rattle.bitforms.specs.BitRow.{slack_weights}

-- of a value within bounds
unfoldable pub bits_of_value : Bounds → ℤ → List ℕ
bits_of_value B x = chosen (weights_of B) (count (x ⊖ B.lower))

-- of a product, the first factor's bits outermost
unfoldable pub bit_products : List ℕ → List ℕ → List ℕ
bit_products fs gs = flat_map (λ f. map (λ g. f * g) gs) fs

-- a row's own bits, where variables have the bounds β and the values σ
unfoldable pub own_bits : (ℕ → Bounds) → Valuation → Row ℕ → List ℕ
own_bits β σ (sum≤0 ts c) = chosen (slack_weights β ts c) (count (neg (sum σ ts ⊕ c)))
own_bits β σ (sum=0 ts c) = []
own_bits β σ (product r f g) = bit_products (bits_of_value (β f) (σ f)) (bits_of_value (β g) (σ g))

-- of rows, one after another
abbrev pub rows_bits : (ℕ → Bounds) → Valuation → List (Row ℕ) → List ℕ
rows_bits β σ qs = flat_map (own_bits β σ) qs

-- of n variables
unfoldable pub variable_bits : (ℕ → Bounds) → Valuation → ℕ → List ℕ
variable_bits β σ n = flatten (list_of (λ v. bits_of_value (β v) (σ v)) n)

-- of a row system's words
unfoldable pub value_bits : List ℕ → List ℤ → List ℕ
value_bits ws vs =
    let β = bounds_in (variables ws) in
    variable_bits β (value vs) (length (variables ws)) ++ rows_bits β (value vs) (rows ws)
