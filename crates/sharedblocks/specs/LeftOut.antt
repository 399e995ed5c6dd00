-- The values of a variable that a constraint of code 24, 25 or 27 keeps, and the row of the bits of the others.
use Rattle.std.specs.Prelude.{Bool, not, List, [], ◌∷◌, ◌++◌, ℕ, ◌+◌, ltb, eqb, length, ℤ, pos}
use Rattle.integers.specs.Choice.{◌if◌else◌}
use Rattle.integers.specs.Number.{◌⊕◌, +0, +1}
use Rattle.integers.specs.Lists.{list_of}
use Rattle.integers.specs.Bounds.{◌to◌, within}
use Rattle.words.specs.Kind as Kind
use Rattle.models.specs.Meaning.{member}
use Rattle.models.specs.Model.{size, nums}
use Rattle.rules.specs.Shared.{keep}
use Rattle.laying.specs.Part.{Part, head, term, constant}
use Rattle.laying.specs.Lists.{many}

module _ (code : ℕ) (args : List ℕ) where
  -- 24 and 25 keep the places of the list, 27 the members of the set
  unfoldable pub keeps : ℤ → Bool
  keeps v = within (+1 to pos (size args 1)) v if ltb code 26 else member v (nums args 1)

  module _ (from : ℤ) where
    -- the bit of the k-th value from `from` on, the bits numbered from v on, where that value is left out
    abbrev pub left_at : ℕ → ℕ → List Part
    left_at v k = term +1 (v + k) ∷ [] if not (keeps (from ⊕ pos k)) else []

    -- how many of n values from `from` on are left out
    unfoldable pub left_count : ℕ → ℕ
    left_count n = length (keep (λ v. not (keeps v)) (list_of (λ k. from ⊕ pos k) n))

    -- the row of their bits, where there are any
    unfoldable pub left_row : ℕ → ℕ → List Part
    left_row v n = [] if eqb (left_count n) 0 else head Kind.equal (left_count n) ∷ (many (left_at v) n ++ (constant +0 ∷ []))
