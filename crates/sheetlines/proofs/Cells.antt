-- Terms and lines: that numbers fit their columns, how long the parts of a row are, and laying them one after another.
use Rattle.std.proofs.Common.{◌≡◌, refl, ◌∙◌, List, [], ◌∷◌, ◌++◌, ℕ, zero, suc, ◌+◌, ◌*◌, ◌≤◌, ◌<◌, arith, ℤ, length, length-append, drop, drop_of_length-le, drop-cons}
use Rattle.integers.specs.Lists.{list_of}
use Rattle.integers.specs.Terms.{Term, ◌·◌}
use Rattle.integers.proofs.Lists.{list_of-length}
use Rattle.integers.proofs.Places.{get_or-list_of}
use Rattle.words.specs.Small.{Near}
use Rattle.words.specs.Word.{signed, payload, word_at}
use Rattle.words.proofs.ReadBack.{signed-near}
use Rattle.decimals.specs.Column.{blanks, right}
use Rattle.decimals.specs.Decimal.{decimal, numeral}
use Rattle.decimals.proofs.Columns.{length-blanks, length-right, length-left}
use Rattle.decimals.proofs.Digits.{decimal-length, numeral-length}
use Rattle.words.specs.Bytes.{bytes}
use Rattle.rowsystems.specs.Row.{product}
use Rattle.rowsystems.specs.RowSystem.{terms_in, number_at, variable_at, constant_in}
use Rattle.sheetlines.specs.Lines.{cell, line_end, term_text, room_after, term_lines, sum_lines, row_lines}

-- ---- numbers fit their columns

pub number_fits : (z : ℤ) → Near z → length (numeral z) ≤ 10
number_fits z h = numeral-length 8 z (omega (arith, h))

pub variable-fits : (v : ℕ) → v < 268435456 → length (decimal v) ≤ 11
variable-fits v h = omega (arith, decimal-length 8 v (omega (arith, h)))

pub length-row_number : (k : ℕ) → k < 1000000 → length (decimal k) ≤ 6
length-row_number k h = decimal-length 5 k h

-- a term that fits its columns
pub record Fits (t : Term ℕ) : Type 0 where
  pub number : Near t.coefficient
  pub variable : t.variable < 268435456

pub of_word : (w v : ℕ) → v < 268435456 → Fits (signed w · v)
of_word w v h = record { number = signed-near w; variable = h }

-- ---- lengths

pub cell-length : (t : Term ℕ) → Fits t → length (cell t) ≡ 23
unfolding cell
cell-length t h =
    length-append (right 10 (numeral t.coefficient)) _
    ∙ omega (arith, length-right 10 (numeral t.coefficient) (number_fits t.coefficient h.number), length-left 11 (decimal t.variable) (variable-fits t.variable h.variable))

pub end-length : (room : ℕ) → length (line_end room) ≡ 23 * room + 4
unfolding line_end
end-length room = length-append (blanks (23 * room + 3)) _ ∙ omega (arith, length-blanks (23 * room + 3))

-- ---- terms

pub room-few : (room : ℕ) → room ≤ 3 → room_after room ≤ 3
unfolding room_after
room-few zero h = omega arith
room-few (suc room) h = omega arith

module _ (t : Term ℕ) where
  pub term-some : (room : ℕ) → 0 < room → term_text room t ≡ cell t
  unfolding term_text
  term-some zero h = absurd (omega arith)
  term-some (suc room) h = refl

  pub term-length : Fits t → (room : ℕ) → length (term_text room t) ≤ 35
  unfolding term_text
  term-length f zero = omega (arith, length-append (line_end 0) (blanks 8 ++ cell t), length-append (blanks 8) (cell t), cell-length t f, end-length 0, length-blanks 8)
  term-length f (suc room) = omega (arith, cell-length t f)

-- the term at a place, and those after it
module _ (ws : List ℕ) (n k : ℕ) where
  pub term-then : k < n → (room : ℕ) →
      term_lines room (drop k (terms_in ws n)) ≡ term_text room (number_at ws (2 * k + 1) · variable_at ws (2 * k)) ++ term_lines (room_after room) (drop (k + 1) (terms_in ws n))
  unfolding term_lines terms_in
  term-then h room =
      let f : ℕ → Term ℕ = λ k. number_at ws (2 * k + 1) · variable_at ws (2 * k) in
      let l : k < length (list_of f n) = rw (list_of-length f n) h in
      let e : suc k ≡ k + 1 = omega arith in
      rw (drop-cons (list_of f n) k (f 0) l, get_or-list_of f n k (f 0) h, ← e)

  pub term-last : n ≤ k → (room : ℕ) → term_lines room (drop k (terms_in ws n)) ≡ line_end room
  unfolding term_lines terms_in
  term-last h room =
      let f : ℕ → Term ℕ = λ k. number_at ws (2 * k + 1) · variable_at ws (2 * k) in
      let l : length (list_of f n) ≤ k = rw (list_of-length f n) h in
      rw (drop_of_length-le (list_of f n) l)

-- ---- rows

-- a product is printed as a row whose words have coefficient 1 and the constant 0
pub product-lines : (k a b c : ℕ) →
    sum_lines k (58 ∷ 61 ∷ []) (terms_in (a ∷ 1 ∷ b ∷ 1 ∷ c ∷ 1 ∷ 0 ∷ []) 3) (constant_in (a ∷ 1 ∷ b ∷ 1 ∷ c ∷ 1 ∷ 0 ∷ []) 3)
    ≡ row_lines k (product (payload a) (payload b) (payload c))
unfolding row_lines bytes terms_in list_of number_at variable_at constant_in word_at signed payload
product-lines k a b c = refl
