-- The value that a variable's bits read as, by a table; a row or product over bits by it; sums of rows and products over bits at such values.
use Rattle.std.specs.Prelude.{◌≡◌, List, ℕ, ◌<◌, ◌≤◌, ℤ, nat_abs, length, get_or}
use Rattle.integers.specs.Bounds.{bounds_in}
use Rattle.integers.specs.Number.{◌⊕◌, ◌⊖◌, ◌⊗◌, +0}
use Rattle.integers.specs.Terms.{Term, sum}
use Rattle.bitforms.specs.OverBits.{OverBits, evaluate, weighted_bits}
use Rattle.bitforms.specs.BitRow.{BitRow, slack_weights, pairs_of, product_whole}
use Rattle.bittables.specs.BitTables.{firsts, bits_of, encoding_by, row_by}
use Rattle.bittables.specs.declared.table.BitTable.{BitTable}
use Rattle.bitrows.specs.Values.{largest_value}
use Rattle.bitreading.specs.declared.bits.Bits.{Bits}
use Rattle.bitreading.specs.BitsGiven.{bits_in}

abbrev pub value_of : Bits → BitTable → ℕ → ℤ
value_of b t v = evaluate (bits_in b.bytes.now) (encoding_by t.domains.now (firsts t.bits.now) v)

-- a list has the values of the first variables
pub record ValuesListed (b : Bits) (t : BitTable) (values : List ℤ) : Type 0 where
  pub is : (v : ℕ) → v < length values → get_or values v +0 ≡ value_of b t v
  pub near : (v : ℕ) → v < length values → nat_abs (get_or values v +0) ≤ largest_value

-- of the one with a head
abbrev pub row_at : BitTable → ℕ → ℕ → List ℕ → BitRow
row_at t first head args = row_by t.domains.now (firsts t.bits.now) first head args

abbrev pub factors_less : Bits → BitTable → ℕ → ℕ → ℤ
factors_less b t f g =
    (bounds_in t.domains.now f).lower ⊗ value_of b t g ⊕ (bounds_in t.domains.now g).lower ⊗ (value_of b t f ⊖ (bounds_in t.domains.now f).lower)

-- a product of variables f and g with the result r
abbrev pub product_over : BitTable → ℕ → ℕ → ℕ → ℕ → OverBits
product_over t first r f g =
    let E = encoding_by t.domains.now (firsts t.bits.now) in
    let F = bits_of t.domains.now (firsts t.bits.now) in
    product_whole (E r) (E f) (E g) (pairs_of first (F f) (F g))

-- a row ≤ with its slack
abbrev pub slacked_sum : Bits → BitTable → ℕ → List (Term ℕ) → ℤ → ℤ
slacked_sum b t first ts c =
    sum (value_of b t) ts ⊕ c ⊕ sum (bits_in b.bytes.now) (weighted_bits first (slack_weights (bounds_in t.domains.now) ts c))
