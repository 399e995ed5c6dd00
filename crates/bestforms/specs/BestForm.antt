-- The form of a row system taken M times, and the variable's distance from its best bound.
use Rattle.std.specs.Prelude.{List, ℕ, ◌+◌, ℤ, pos}
use Rattle.integers.specs.Number.{◌⊖◌, neg, count, +1}
use Rattle.integers.specs.Bounds.{bounds_in}
use Rattle.integers.specs.Terms.{value}
use Rattle.integers.specs.declared.Bounds.{Bounds}
use Rattle.words.specs.Variables.{variables}
use Rattle.bitforms.specs.OverBits.{OverBits, scaled}
use Rattle.bitforms.specs.Matrix.{coefficient_of, Entry}
use Rattle.bitforms.specs.BitForm.{encoding}
use Rattle.bitforms.specs.Taken.{taken_constant, taken_entries}
use Rattle.bitforms.specs.FormWords.{words_of}
use Rattle.bitforms.specs.ReadForm.{form_at}
use Rattle.bestforms.specs.declared.Direction.{Direction}
use Rattle.bestforms.specs.declared.Direction.TheVariants.{Least, Greatest}

-- where the least value is the best, the value less the lower bound; where the greatest is, the upper bound less the value
unfoldable pub distance : Direction → Bounds → ℤ → ℤ
distance Least B x = x ⊖ B.lower
distance Greatest B x = B.upper ⊖ x

-- it as a sum over bits, of a variable's
unfoldable pub distance_over : Direction → Bounds → OverBits → OverBits
distance_over Least B s = record { constant = s.constant ⊖ B.lower; terms = s.terms }
distance_over Greatest B s = record { constant = B.upper ⊖ s.constant; terms = scaled (neg +1) s.terms }

-- M, the width and 1, above every distance
unfoldable pub factor_of : Bounds → ℕ
factor_of B = count (B.upper ⊖ B.lower) + 1

-- ---- of a row system's words, a variable and a direction

unfoldable pub factor : List ℕ → ℕ → ℕ
factor ws v = factor_of (bounds_in (variables ws) v)

unfoldable pub objective : List ℕ → ℕ → Direction → OverBits
objective ws v d = distance_over d (bounds_in (variables ws) v) (encoding ws v)

unfoldable pub best_constant : List ℕ → ℕ → Direction → ℤ
best_constant ws v d = taken_constant ws (pos (factor ws v)) (objective ws v d).constant

unfoldable pub best_entries : List ℕ → ℕ → Direction → List Entry
best_entries ws v d = taken_entries ws (pos (factor ws v)) (coefficient_of (objective ws v d).terms)

-- written as the words of every form are
unfoldable pub best_words : List ℕ → ℕ → Direction → List ℕ
best_words ws v d = words_of (best_constant ws v d) (best_entries ws v d)

-- the form's value at a list of bits
abbrev pub best_form : List ℕ → ℕ → Direction → List ℤ → ℤ
best_form ws v d bs = form_at (value bs) (best_constant ws v d) (best_entries ws v d)
