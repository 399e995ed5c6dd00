-- Every line of a sheet has exactly 80 printed columns and a line feed, for every accepted row system; so its bytes are 81 times its lines.
use Rattle.std.proofs.Common.{◌≡◌, refl, ◌∙◌, Bool, true, false, List, [], ◌∷◌, ◌++◌, append_assoc, ℕ, zero, suc, ◌+◌, ◌-◌, ◌*◌, ◌/◌, ◌%◌, ◌≤◌, ◌<◌, arith, ltb, le-leb, ℤ, pos, negsuc, length, length-append}
use Rattle.integers.specs.Lists.{list_of, all}
use Rattle.integers.specs.Choice.{◌if◌else◌}
use Rattle.integers.specs.Number.{+0, +1}
use Rattle.integers.specs.Terms.{Term, ◌·◌}
use Rattle.integers.proofs.Lists.{all_append}
use Rattle.integers.proofs.Tests.{All}
use Rattle.words.specs.Answer.{Answer}
use Rattle.words.specs.Small.{Near}
use Rattle.decimals.specs.Column.{blanks, right, left}
use Rattle.decimals.specs.Decimal.{last_digits, decimal, numeral}
use Rattle.decimals.proofs.Columns.{length-blanks, length-right}
use Rattle.words.specs.Bytes.{bytes}
use Rattle.rowsystems.specs.Reading.{read_rows}
use Rattle.rowsystems.specs.Row.{Row, sum≤0, sum=0, product}
use Rattle.rowsystems.specs.RowSystem.{rows}
use Rattle.rowsystems.proofs.Sizes.{few_words, rows_few}
use Rattle.sheetlines.specs.Lines.{cell, line_end, term_text, room_after, term_lines, constant_line, sum_lines, row_lines, rows_lines}
use Rattle.sheets.specs.Sheet.{sheet_text, sheet, sheet_page}
use Rattle.sheets.specs.EightyColumns.{takes_a_column, InLines, no_line, a-line, EightyColumns}
use Rattle.sheetlines.proofs.Cells.{Fits, number_fits, length-row_number, cell-length}
use Rattle.sheets.proofs.Fitting.{RowFits, one-fits, rows_fit}
use Rattle.sheets.proofs.ReadBack.{page_is, wrote_all}

abbrev pub Printable : ℕ → Type 0
Printable b = (32 ≤ b) × (b ≤ 126)

-- as the test says it
printed-all : (l : List ℕ) → All Printable l → all takes_a_column l ≡ true
unfolding all
printed-all [] h = refl
printed-all (b ∷ l) h = rw (le-leb 32 b h.0.0, le-leb b 126 h.0.1) (printed-all l h.1)

line_of : (l : List ℕ) {rest : List ℕ} {n : ℕ} → length l ≡ 80 → All Printable l → InLines rest n → InLines (l ++ (10 ∷ rest)) (suc n)
line_of l e h r = a-line l e (printed-all l h) r

pub lines-length : {t : List ℕ} {n : ℕ} → InLines t n → length t ≡ 81 * n
lines-length no_line = refl
lines-length (a-line l {rest = rest} {lines = n} e h r) = length-append l (10 ∷ rest) ∙ omega (arith, lines-length r)

-- ---- what is printed

printed-append : (xs ys : List ℕ) → All Printable xs → All Printable ys → All Printable (xs ++ ys)
printed-append xs ys h k = (all_append Printable xs ys).1 (h, k)

printed-blanks : (n : ℕ) → All Printable (blanks n)
unfolding blanks
printed-blanks zero = tt
printed-blanks (suc n) = ((omega arith, omega arith), printed-blanks n)

printed-digits : (k n : ℕ) → All Printable (last_digits k n)
unfolding last_digits
printed-digits zero n = tt
printed-digits (suc k) n = go (ltb 9 n) (printed-digits k (n / 10))
  where
    go : (t : Bool) → All Printable (last_digits k (n / 10)) → All Printable ((last_digits k (n / 10) if t else []) ++ ((48 + n % 10) ∷ []))
    go true h = printed-append (last_digits k (n / 10)) _ h ((omega arith, omega arith), tt)
    go false h = ((omega arith, omega arith), tt)

printed-decimal : (n : ℕ) → All Printable (decimal n)
unfolding decimal
printed-decimal n = printed-digits (suc n) n

printed-numeral : (z : ℤ) → All Printable (numeral z)
unfolding numeral
printed-numeral (pos n) = printed-decimal n
printed-numeral (negsuc n) = ((omega arith, omega arith), printed-decimal (suc n))

printed-right : (w : ℕ) (t : List ℕ) → All Printable t → All Printable (right w t)
unfolding right
printed-right w t h = printed-append (blanks _) t (printed-blanks _) h

printed-left : (w : ℕ) (t : List ℕ) → All Printable t → All Printable (left w t)
unfolding left
printed-left w t h = printed-append t (blanks _) h (printed-blanks _)

printed-cell : (t : Term ℕ) → All Printable (cell t)
unfolding cell
printed-cell t =
    printed-append (right 10 (numeral t.coefficient)) _ (printed-right 10 _ (printed-numeral t.coefficient))
    ((omega arith, omega arith), ((omega arith, omega arith), printed-left 11 _ (printed-decimal t.variable)))

-- ---- the lines of terms

-- how many lines end among so many terms and after them, in a line with room for so many
abbrev pub lines_of : ℕ → ℕ → ℕ
lines_of room zero = 1
lines_of zero (suc n) = suc (lines_of 2 n)
lines_of (suc room) (suc n) = lines_of room n

terms_in_lines : (p : List ℕ) (room : ℕ) (ts : List (Term ℕ)) {rest : List ℕ} {n : ℕ} → length p + 23 * room + 3 ≡ 80 → All Printable p → All Fits ts → InLines rest n →
    InLines (p ++ (term_lines room ts ++ rest)) (lines_of room (length ts) + n)
unfolding term_lines term_text room_after line_end
terms_in_lines p room [] {rest} {n} e h f r =
    let same : p ++ ((blanks (23 * room + 3) ++ (10 ∷ [])) ++ rest) ≡ (p ++ blanks (23 * room + 3)) ++ (10 ∷ rest) = simp append_assoc in
    let count : 1 + n ≡ suc n = omega arith in
    rw (same, count) (line_of (p ++ blanks (23 * room + 3)) (length-append p (blanks (23 * room + 3)) ∙ omega (arith, length-blanks (23 * room + 3))) (printed-append p _ h (printed-blanks (23 * room + 3))) r)
terms_in_lines p zero (t ∷ ts) {rest} {n} e h f r =
    let same : p ++ ((((blanks 3 ++ (10 ∷ [])) ++ (blanks 8 ++ cell t)) ++ term_lines 2 ts) ++ rest) ≡ (p ++ blanks 3) ++ (10 ∷ ((blanks 8 ++ cell t) ++ (term_lines 2 ts ++ rest))) = simp append_assoc in
    let count : suc (lines_of 2 (length ts)) + n ≡ suc (lines_of 2 (length ts) + n) = omega arith in
    rw (same, count)
    (line_of (p ++ blanks 3) (length-append p (blanks 3) ∙ omega (arith, length-blanks 3)) (printed-append p _ h (printed-blanks 3))
    (terms_in_lines (blanks 8 ++ cell t) 2 ts (omega (arith, length-append (blanks 8) (cell t), length-blanks 8, cell-length t f.0)) (printed-append (blanks 8) (cell t) (printed-blanks 8) (printed-cell t)) f.1 r))
terms_in_lines p (suc room) (t ∷ ts) {rest} {n} e h f r =
    let same : p ++ ((cell t ++ term_lines room ts) ++ rest) ≡ (p ++ cell t) ++ (term_lines room ts ++ rest) = simp append_assoc in
    rw same
    (terms_in_lines (p ++ cell t) room ts (omega (arith, length-append p (cell t), cell-length t f.0)) (printed-append p (cell t) h (printed-cell t)) f.1 r)

-- ---- rows

-- the lines of a row, and of all rows
abbrev pub line_count : Row ℕ → ℕ
line_count (sum≤0 ts c) = lines_of 3 (length ts) + 1
line_count (sum=0 ts c) = lines_of 3 (length ts) + 1
line_count (product r f g) = 2

sum_in_lines : (k x y : ℕ) (ts : List (Term ℕ)) (c : ℤ) {rest : List ℕ} {n : ℕ} → k < 1000000 → Printable x → Printable y → All Fits ts → Near c → InLines rest n →
    InLines (sum_lines k (x ∷ y ∷ []) ts c ++ rest) (lines_of 3 (length ts) + (1 + n))
unfolding sum_lines constant_line
sum_in_lines k x y ts c {rest} {n} l hx hy f h r =
    let C = right 80 (numeral c) in
    let H = right 6 (decimal k) ++ (x ∷ y ∷ []) in
    let same : (right 6 (decimal k) ++ ((x ∷ y ∷ []) ++ (term_lines 3 ts ++ (C ++ (10 ∷ []))))) ++ rest ≡ H ++ (term_lines 3 ts ++ (C ++ (10 ∷ rest))) = simp append_assoc in
    let count : 1 + n ≡ suc n = omega arith in
    rw (same, count)
    (terms_in_lines H 3 ts
    (omega (arith, length-append (right 6 (decimal k)) (x ∷ y ∷ []), length-right 6 (decimal k) (length-row_number k l)))
    (printed-append (right 6 (decimal k)) _ (printed-right 6 _ (printed-decimal k)) (hx, (hy, tt))) f
    (line_of C (length-right 80 (numeral c) (omega (arith, number_fits c h))) (printed-right 80 _ (printed-numeral c)) r))

row_in_lines : (k : ℕ) (row : Row ℕ) {rest : List ℕ} {n : ℕ} → k < 1000000 → RowFits row → InLines rest n → InLines (row_lines k row ++ rest) (line_count row + n)
unfolding row_lines bytes list_of
row_in_lines k (sum≤0 ts c) {n = n} l h r =
    let e : lines_of 3 (length ts) + 1 + n ≡ lines_of 3 (length ts) + (1 + n) = omega arith in
    rw e (sum_in_lines k 60 61 ts c l (omega arith, omega arith) (omega arith, omega arith) h.0 h.1 r)
row_in_lines k (sum=0 ts c) {n = n} l h r =
    let e : lines_of 3 (length ts) + 1 + n ≡ lines_of 3 (length ts) + (1 + n) = omega arith in
    rw e (sum_in_lines k 61 32 ts c l (omega arith, omega arith) (omega arith, omega arith) h.0 h.1 r)
row_in_lines k (product v f g) {n = n} l h r =
    let e : 2 + n ≡ 1 + (1 + n) = omega arith in
    rw e (sum_in_lines k 58 61 (+1 · v ∷ +1 · f ∷ +1 · g ∷ []) +0 l (omega arith, omega arith) (omega arith, omega arith) (one-fits v h.0, (one-fits f h.1, (one-fits g h.2, tt))) (omega arith) r)

abbrev pub lines_count : List (Row ℕ) → ℕ
lines_count [] = 0
lines_count (row ∷ rs) = line_count row + lines_count rs

rows_in_lines : (k : ℕ) (rs : List (Row ℕ)) → k + length rs ≤ 1000000 → All RowFits rs → InLines (rows_lines k rs) (lines_count rs)
unfolding rows_lines
rows_in_lines k [] l h = no_line
rows_in_lines k (row ∷ rs) l h = row_in_lines k row (omega arith) h.0 (rows_in_lines (k + 1) rs (omega arith) h.1)

-- ---- how many lines there are

-- so many terms take a line for each three, and one where there is none
pub lines_are : (room n : ℕ) → lines_of room n ≡ 1 + (n - room + 2) / 3
lines_are room zero = omega arith
lines_are zero (suc n) = omega (arith, lines_are 2 n)
lines_are (suc room) (suc n) = omega (arith, lines_are room n)

-- ---- the law

pub sheet_in_lines : (ws : List ℕ) → (read_rows ws).number ≡ 0 → InLines (sheet_text ws) (lines_count (rows ws))
unfolding sheet_text
sheet_in_lines ws e = rows_in_lines 0 (rows ws) (omega (arith, rows_few ws, few_words ws e)) (rows_fit ws)

pub sheet-bytes : (ws : List ℕ) → (read_rows ws).number ≡ 0 → length (sheet_text ws) ≡ 81 * lines_count (rows ws)
sheet-bytes ws e = lines-length (sheet_in_lines ws e)

-- THE LAW, of the bytes that were written
pub eighty_columns : (ws page : List ℕ) → EightyColumns (sheet ws (length page)) (sheet_page ws page)
eighty_columns ws page n e =
    let text = page_is ws page n e in
    let w = wrote_all ws page n e in
    (lines_count (rows ws), (w.1 ∙ sheet-bytes ws w.0, rw text (sheet_in_lines ws w.0)))

pub columns_of : (ws before : List ℕ) {later : List ℕ} {answer : Answer} → answer ≡ sheet ws (length before) → later ≡ sheet_page ws before → EightyColumns answer later
columns_of ws before e f = rw (e, f) (eighty_columns ws before)
