-- The pieces of the blocks over a shared variable, for a constraint given by the words after its head.
use mathlib.Core.List.{List, [], ◌∷◌, ◌++◌, map, flat_map}
use Rattle.std.specs.Prelude.{ℕ, ◌+◌, ◌<◌, ◌≤◌, eqb, length, ℤ, pos}
use Rattle.integers.specs.Choice.{◌if◌else◌}
use Rattle.integers.specs.Number.{◌⊖◌, max_z, count, +0, +1}
use Rattle.integers.specs.Bounds.{◌to◌, within, width, values}
use Rattle.integers.specs.declared.Bounds.{Bounds}
use Rattle.words.specs.Limit as Limit
use Rattle.models.specs.Meaning.{member}
use Rattle.models.specs.Model.{var, vars, nums, past}
use Rattle.rules.specs.Parts.{Z, one, nth, chosen}
use Rattle.rules.specs.Shared.{keep, Encoded, first_of, value_bit, new_bits, new_rows, left_out, shared_rule, bit_products, kept_sum}
use Rattle.laying.specs.Part.{Part, bound_parts, row_parts, block_parts}
use Rattle.laying.specs.Sizes.{first_numbers}
use Rattle.encodings.specs.Uses.{choice_of, Recorded}
use Rattle.sharedblocks.specs.LeftOut.{keeps}

-- the number of x's first bit: the block's own bits are numbered from `first` on
abbrev pub bits_from : Encoded → ℕ → ℕ → ℕ
bits_from e first x = first if eqb (first_of e x) 0 else first_of e x

-- the number of the bit of the first place of a list that x can have, x's lower bound being l
abbrev pub place_bit : Encoded → ℕ → ℕ → ℤ → ℕ
place_bit e first x l = bits_from e first x + count (max_z +1 l ⊖ l)

-- what laying a block wants: numbers of auxiliaries that do not wrap, a variable of at most 64 values
abbrev pub Encodable : (ℕ → Bounds) → Encoded → ℕ → List ℕ → Type 0
Encodable β e first args = (first < first_numbers) × (width (β (var args 0)) ≤ Limit.set_bits) × Recorded e

-- given the bounds of the variables and the record of encoded ones: the new bits, their rows, the row of the bits left out, the whole block
module _ (β : ℕ → Bounds) (e : Encoded) where
  abbrev pub new_bit_parts : List ℕ → List Part
  new_bit_parts args = bound_parts (new_bits β e (var args 0))

  abbrev pub new_row_parts : ℕ → List ℕ → List Part
  new_row_parts first args = flat_map (row_parts first) (new_rows β e (var args 0))

  abbrev pub left_out_parts : ℕ → ℕ → List ℕ → List Part
  left_out_parts first code args = flat_map (row_parts first) (left_out β e (keeps code args) (var args 0))

  abbrev pub shared_parts : ℕ → ℕ → List ℕ → List Part
  shared_parts first code args = block_parts first (shared_rule β e (choice_of code args))

module _ (β : ℕ → Bounds) (args : List ℕ) where
  -- 25: the places that its i can have, and the bounds of their z
  abbrev pub kept_places : List ℤ
  kept_places = keep (within (+1 to pos (length (vars args 1)))) (values (β (var args 0)))

  unfoldable pub kept_zeros : List Part
  kept_zeros = bound_parts (map (λ j. Z (β (nth 0 (vars args 1) j))) kept_places)

  module _ (e : Encoded) (first : ℕ) where
    -- 24: the row of the numbers
    unfoldable pub numbers_row : List Part
    numbers_row = row_parts first (kept_sum β e (nth +0 (nums args 1)) (within (+1 to pos (length (nums args 1)))) (var args 0) (var args (past args 1)))

    -- 25: the products, and their row
    unfoldable pub product_rows : List Part
    product_rows =
        let n = length (new_bits β e (var args 0)) in
        flat_map (row_parts first) (bit_products (nth 0 (vars args 1)) (value_bit β e (var args 0)) kept_places n ++ (chosen one kept_places n (var args (past args 1)) ∷ []))

    -- 28: the row of the members
    unfoldable pub members_row : List Part
    members_row = row_parts first (kept_sum β e one (λ v. member v (nums args 1)) (var args 0) (var args (past args 1)))

-- by the code, given the bounds of the variables: the bounds of the z; the rows after those of the new bits
module _ (β : ℕ → Bounds) where
  abbrev pub zero_parts : ℕ → List ℕ → List Part
  zero_parts code args = kept_zeros β args if eqb code 25 else []

  unfoldable pub own_row_parts : Encoded → ℕ → ℕ → List ℕ → List Part
  own_row_parts e first code args =
      members_row β args e first if eqb code 28
      else left_out_parts β e first code args ++ (numbers_row β args e first if eqb code 24 else product_rows β args e first if eqb code 25 else [])
