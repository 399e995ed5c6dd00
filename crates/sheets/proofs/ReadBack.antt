-- A sheet can be read back: row systems with the same sheet have the same rows, with their signs, terms and constants.
use Rattle.std.proofs.Common.{◌≡◌, refl, sym, ap, ◌∙◌, Bool, true, false, List, [], ◌∷◌, ◌++◌, append_assoc, ℕ, zero, suc, ◌+◌, ◌-◌, ◌*◌, ◌≤◌, arith, ltb, eqb, ℤ, length, length-append, get_or, take, ltb-false}
use mathlib.Core.List.{append_cancel_left, head-eq_of_cons-eq, tail-eq_of_cons-eq}
use Rattle.integers.specs.Lists.{list_of}
use Rattle.integers.specs.Choice.{◌if◌else◌}
use Rattle.integers.specs.Number.{+0, +1}
use Rattle.integers.specs.Terms.{Term, ◌·◌}
use Rattle.integers.proofs.Tests.{All}
use Rattle.words.specs.Answer.{written, refused_or, ◌else_answer◌}
use Rattle.words.specs.Fault as Fault
use Rattle.words.specs.Overlay.{overlay}
use Rattle.words.specs.Refusal.{◌at_place◌, accepted, fault_or, ◌else_refuse◌, room_fault}
use Rattle.words.specs.Refusals.{Refusal}
use Rattle.words.specs.Small.{Near}
use Rattle.words.proofs.Overlay.{front-over}
use Rattle.decimals.specs.Column.{blanks, right, left}
use Rattle.decimals.specs.Decimal.{decimal, numeral}
use Rattle.decimals.proofs.Columns.{length-blanks, blank_at, length-right}
use Rattle.decimals.proofs.ReadBack.{same-right, same_left}
use Rattle.words.specs.Bytes.{bytes}
use Rattle.rowsystems.specs.Reading.{read_rows}
use Rattle.rowsystems.specs.Row.{Row, sum≤0, sum=0, product}
use Rattle.rowsystems.specs.RowSystem.{rows}
use Rattle.sheetlines.specs.Lines.{cell, line_end, term_text, room_after, term_lines, constant_line, sum_lines, row_lines, rows_lines}
use Rattle.sheets.specs.Sheet.{sheet_text, sheet_fault, sheet, sheet_page}
use Rattle.sheetlines.proofs.Cells.{Fits, number_fits, cell-length}
use Rattle.sheets.proofs.Fitting.{RowFits, one-fits, rows_fit}

-- ---- texts whose first parts are equally long

split : (xs ys : List ℕ) {more other : List ℕ} → length xs ≡ length ys → xs ++ more ≡ ys ++ other → (xs ≡ ys) × (more ≡ other)
split [] [] e h = (refl, h)
split [] (y ∷ ys) e h = absurd (omega arith)
split (x ∷ xs) [] e h = absurd (omega arith)
split (x ∷ xs) (y ∷ ys) e h =
    let r = split xs ys (omega arith) (tail-eq_of_cons-eq h) in
    (ap (λ (z : ℕ). z ∷ xs) (head-eq_of_cons-eq h) ∙ ap (λ (l : List ℕ). y ∷ l) r.0, r.1)

past : (xs more : List ℕ) (i : ℕ) → get_or (xs ++ more) (length xs + i) 0 ≡ get_or more i 0
past [] more i = let e : 0 + i ≡ i = omega arith in ap (λ (n : ℕ). get_or more n 0) e
past (x ∷ xs) more i = let e : suc (length xs) + i ≡ suc (length xs + i) = omega arith in ap (λ (n : ℕ). get_or (x ∷ (xs ++ more)) n 0) e ∙ past xs more i

-- ---- terms

-- the "v" of a term
mark : (t : Term ℕ) → Fits t → (more : List ℕ) → get_or (cell t ++ more) 11 0 ≡ 118
unfolding cell
mark t f more =
    let R = right 10 (numeral t.coefficient) in
    let L = left 11 (decimal t.variable) in
    let e : length R + 1 ≡ 11 = omega (arith, length-right 10 (numeral t.coefficient) (number_fits t.coefficient f.number)) in
    ap (λ (l : List ℕ). get_or l 11 0) (append_assoc R (32 ∷ 118 ∷ L) more)
    ∙ ap (λ (n : ℕ). get_or (R ++ (32 ∷ 118 ∷ (L ++ more))) n 0) (sym e)
    ∙ past R (32 ∷ 118 ∷ (L ++ more)) 1

same-cell : (t u : Term ℕ) → Fits t → Fits u → cell t ≡ cell u → t ≡ u
unfolding cell
same-cell t u f g e =
    let R : Term ℕ → List ℕ = λ t. right 10 (numeral t.coefficient) in
    let l : length (R t) ≡ length (R u) = length-right 10 (numeral t.coefficient) (number_fits t.coefficient f.number) ∙ sym (length-right 10 (numeral u.coefficient) (number_fits u.coefficient g.number)) in
    let s = split (R t) (R u) l e in
    let a = same-right 10 t.coefficient u.coefficient s.0 in
    let x = same_left 11 t.variable u.variable (tail-eq_of_cons-eq (tail-eq_of_cons-eq s.1)) in
    ap (λ (c : ℤ). c · t.variable) a ∙ ap (λ (v : ℕ). u.coefficient · v) x

same-term : (room : ℕ) (t u : Term ℕ) → Fits t → Fits u → (more other : List ℕ) → term_text room t ++ more ≡ term_text room u ++ other → (t ≡ u) × (more ≡ other)
unfolding term_text
same-term zero t u f g more other e =
    let d = blanks 8 in
    let shorter : d ++ (cell t ++ more) ≡ d ++ (cell u ++ other) = append_cancel_left (line_end 0) _ _ (simp append_assoc at e) in
    let s = split (cell t) (cell u) (cell-length t f ∙ sym (cell-length u g)) (append_cancel_left d _ _ shorter) in
    (same-cell t u f g s.0, s.1)
same-term (suc room) t u f g more other e =
    let s = split (cell t) (cell u) (cell-length t f ∙ sym (cell-length u g)) e in
    (same-cell t u f g s.0, s.1)

-- ---- the line of the constant

same-constant : (c d : ℤ) → Near c → Near d → (more other : List ℕ) → constant_line c ++ more ≡ constant_line d ++ other → (c ≡ d) × (more ≡ other)
unfolding constant_line
same-constant c d h k more other e =
    let l : (z : ℤ) → Near z → length (right 80 (numeral z)) ≡ 80 = λ z n. length-right 80 (numeral z) (omega (arith, number_fits z n)) in
    let longer : right 80 (numeral c) ++ (10 ∷ more) ≡ right 80 (numeral d) ++ (10 ∷ other) = sym (append_assoc (right 80 (numeral c)) (10 ∷ []) more) ∙ e ∙ append_assoc (right 80 (numeral d)) (10 ∷ []) other in
    let s = split (right 80 (numeral c)) (right 80 (numeral d)) (l c h ∙ sym (l d k)) longer in
    (same-right 80 c d s.0, tail-eq_of_cons-eq s.1)

-- it is blank where the first term of a line has its "v"
blank_there : (c : ℤ) → Near c → (more : List ℕ) → get_or (constant_line c ++ more) 19 0 ≡ 32
unfolding constant_line right
blank_there c h more =
    let n = 80 - length (numeral c) in
    let e : ((blanks n ++ numeral c) ++ (10 ∷ [])) ++ more ≡ blanks n ++ (numeral c ++ (10 ∷ more)) = simp append_assoc in
    rw e (blank_at n 19 _ (omega (arith, number_fits c h)))

end_is : (room : ℕ) → blanks (23 * room + 3) ++ (10 ∷ []) ≡ line_end room
unfolding line_end
end_is room = refl

-- so the end of the terms is no term
no-term : (room : ℕ) (u : Term ℕ) → Fits u → (c : ℤ) → Near c → (more other : List ℕ) → line_end room ++ (constant_line c ++ more) ≡ term_text room u ++ other → ⊥
unfolding term_text
no-term zero u g c h more other e =
    let d = blanks 8 in
    let line : constant_line c ++ more ≡ d ++ (cell u ++ other) = append_cancel_left (line_end 0) _ _ (simp append_assoc at e) in
    let p : length d + 11 ≡ 19 = omega (arith, length-blanks 8) in
    let v : get_or (d ++ (cell u ++ other)) 19 0 ≡ 118 = ap (λ (n : ℕ). get_or (d ++ (cell u ++ other)) n 0) (sym p) ∙ past d (cell u ++ other) 11 ∙ mark u g other in
    let x : ◌≡◌ {A = ℕ} 32 118 = sym (blank_there c h more) ∙ ap (λ (l : List ℕ). get_or l 19 0) line ∙ v in
    omega arith
no-term (suc room) u g c h more other e = ends (23 * suc room + 3) (omega arith) (ap (λ (l : List ℕ). l ++ (constant_line c ++ more)) (end_is (suc room)) ∙ e)
  where
    ends : (n : ℕ) → 12 ≤ n → (blanks n ++ (10 ∷ [])) ++ (constant_line c ++ more) ≡ cell u ++ other → ⊥
    ends n l e =
        let b : get_or ((blanks n ++ (10 ∷ [])) ++ (constant_line c ++ more)) 11 0 ≡ 32 = rw (append_assoc (blanks n) (10 ∷ []) (constant_line c ++ more)) (blank_at n 11 _ (omega arith)) in
        let x : ◌≡◌ {A = ℕ} 32 118 = sym b ∙ ap (λ (l : List ℕ). get_or l 11 0) e ∙ mark u g other in
        omega arith

-- ---- all terms of a row, and its constant

same-terms : (room : ℕ) (ts us : List (Term ℕ)) → All Fits ts → All Fits us → (c d : ℤ) → Near c → Near d → (more other : List ℕ) →
    term_lines room ts ++ (constant_line c ++ more) ≡ term_lines room us ++ (constant_line d ++ other) → (ts ≡ us) × ((c ≡ d) × (more ≡ other))
unfolding term_lines
same-terms room [] [] f g c d h k more other e = (refl, same-constant c d h k more other (append_cancel_left (line_end room) _ _ e))
same-terms room [] (u ∷ us) f g c d h k more other e =
    let rest = term_lines (room_after room) us in
    absurd (no-term room u g.0 c h more (rest ++ (constant_line d ++ other)) (e ∙ append_assoc (term_text room u) rest (constant_line d ++ other)))
same-terms room (t ∷ ts) [] f g c d h k more other e =
    let rest = term_lines (room_after room) ts in
    absurd (no-term room t f.0 d k other (rest ++ (constant_line c ++ more)) (sym e ∙ append_assoc (term_text room t) rest (constant_line c ++ more)))
same-terms room (t ∷ ts) (u ∷ us) f g c d h k more other e =
    let A = term_lines (room_after room) ts in
    let B = term_lines (room_after room) us in
    let longer = sym (append_assoc (term_text room t) A (constant_line c ++ more)) ∙ e ∙ append_assoc (term_text room u) B (constant_line d ++ other) in
    let s = same-term room t u f.0 g.0 (A ++ (constant_line c ++ more)) (B ++ (constant_line d ++ other)) longer in
    let r = same-terms (room_after room) ts us f.1 g.1 c d h k more other s.1 in
    (ap (λ (z : Term ℕ). z ∷ ts) s.0 ∙ ap (λ (l : List (Term ℕ)). u ∷ l) r.0, r.1)

-- ---- rows: the two bytes of the sign, the terms and the constant that are printed, and the row that these say

abbrev first : Row ℕ → ℕ
first (sum≤0 ts c) = 60
first (sum=0 ts c) = 61
first (product r f g) = 58

abbrev second : Row ℕ → ℕ
second (sum≤0 ts c) = 61
second (sum=0 ts c) = 32
second (product r f g) = 61

abbrev terms : Row ℕ → List (Term ℕ)
terms (sum≤0 ts c) = ts
terms (sum=0 ts c) = ts
terms (product r f g) = +1 · r ∷ +1 · f ∷ +1 · g ∷ []

abbrev constant : Row ℕ → ℤ
constant (sum≤0 ts c) = c
constant (sum=0 ts c) = c
constant (product r f g) = +0

abbrev variable_of : List (Term ℕ) → ℕ → ℕ
variable_of ts i = (get_or ts i (+0 · 0)).variable

abbrev row_by : ℕ → List (Term ℕ) → ℤ → Row ℕ
row_by sign ts c =
    sum≤0 ts c if eqb sign 60
    else sum=0 ts c if eqb sign 61
    else product (variable_of ts 0) (variable_of ts 1) (variable_of ts 2)

row-by : (row : Row ℕ) → row_by (first row) (terms row) (constant row) ≡ row
row-by (sum≤0 ts c) = refl
row-by (sum=0 ts c) = refl
row-by (product r f g) = refl

lines-by : (k : ℕ) (row : Row ℕ) → row_lines k row ≡ sum_lines k (first row ∷ second row ∷ []) (terms row) (constant row)
unfolding row_lines bytes list_of
lines-by k (sum≤0 ts c) = refl
lines-by k (sum=0 ts c) = refl
lines-by k (product r f g) = refl

fits_by : (row : Row ℕ) → RowFits row → All Fits (terms row) × Near (constant row)
fits_by (sum≤0 ts c) h = h
fits_by (sum=0 ts c) h = h
fits_by (product r f g) h = ((one-fits r h.0, (one-fits f h.1, (one-fits g h.2, tt))), omega arith)

same_sum : (k x y z w : ℕ) (ts us : List (Term ℕ)) (c d : ℤ) → All Fits ts × Near c → All Fits us × Near d → (more other : List ℕ) →
    sum_lines k (x ∷ y ∷ []) ts c ++ more ≡ sum_lines k (z ∷ w ∷ []) us d ++ other → (x ≡ z) × ((ts ≡ us) × ((c ≡ d) × (more ≡ other)))
unfolding sum_lines
same_sum k x y z w ts us c d f g more other e =
    let R = right 6 (decimal k) in
    let from : (s : List ℕ) (ts : List (Term ℕ)) (c : ℤ) (more : List ℕ) → (R ++ (s ++ (term_lines 3 ts ++ constant_line c))) ++ more ≡ R ++ (s ++ (term_lines 3 ts ++ (constant_line c ++ more))) = λ s ts c more. simp append_assoc in
    let h : x ∷ y ∷ (term_lines 3 ts ++ (constant_line c ++ more)) ≡ z ∷ w ∷ (term_lines 3 us ++ (constant_line d ++ other)) =
    append_cancel_left R _ _ (sym (from (x ∷ y ∷ []) ts c more) ∙ e ∙ from (z ∷ w ∷ []) us d other) in
    (head-eq_of_cons-eq h, same-terms 3 ts us f.0 g.0 c d f.1 g.1 more other (tail-eq_of_cons-eq (tail-eq_of_cons-eq h)))

same_row : (k : ℕ) (r s : Row ℕ) → RowFits r → RowFits s → (more other : List ℕ) → row_lines k r ++ more ≡ row_lines k s ++ other → (r ≡ s) × (more ≡ other)
same_row k r s f g more other e =
    let h = same_sum k (first r) (second r) (first s) (second s) (terms r) (terms s) (constant r) (constant s) (fits_by r f) (fits_by s g) more other (rw (lines-by k r, lines-by k s) at e) in
    (sym (row-by r) ∙ rw (h.0, h.1.0, h.1.1.0) (row-by s), h.1.1.1)

some-line : (k : ℕ) (row : Row ℕ) (more : List ℕ) → 1 ≤ length (row_lines k row ++ more)
unfolding sum_lines
some-line k row more =
    let R = right 6 (decimal k) in
    let T = term_lines 3 (terms row) ++ constant_line (constant row) in
    rw (lines-by k row) (omega (arith, length-append (R ++ (first row ∷ second row ∷ T)) more, length-append R (first row ∷ second row ∷ T)))

pub same-rows : (k : ℕ) (rs ss : List (Row ℕ)) → All RowFits rs → All RowFits ss → rows_lines k rs ≡ rows_lines k ss → rs ≡ ss
unfolding rows_lines
same-rows k [] [] f g e = refl
same-rows k [] (s ∷ ss) f g e = absurd (omega (arith, ap length e, some-line k s (rows_lines (k + 1) ss)))
same-rows k (r ∷ rs) [] f g e = absurd (omega (arith, ap length e, some-line k r (rows_lines (k + 1) rs)))
same-rows k (r ∷ rs) (s ∷ ss) f g e =
    let h = same_row k r s f.0 g.0 (rows_lines (k + 1) rs) (rows_lines (k + 1) ss) e in
    ap (λ (z : Row ℕ). z ∷ rs) h.0 ∙ ap (λ (l : List (Row ℕ)). s ∷ l) (same-rows (k + 1) rs ss f.1 g.1 h.1)

-- ---- the law: of texts, and of what two calls leave

pub same-sheet : (ws us : List ℕ) → sheet_text ws ≡ sheet_text us → rows ws ≡ rows us
unfolding sheet_text
same-sheet ws us e = same-rows 0 (rows ws) (rows us) (rows_fit ws) (rows_fit us) e

-- the fault of the words, or 16 where the page is short
abbrev found : ℕ → ℕ → Bool → Refusal
found m p short = fault_or m p (Fault.output_too_short at_place 0 if short else accepted)

-- the bytes that a call says it wrote are the text
pub page_is : (ws page : List ℕ) (n : ℕ) → sheet ws (length page) ≡ written n → take n (sheet_page ws page) ≡ sheet_text ws
unfolding sheet sheet_page sheet_fault room_fault ◌else_refuse◌ ◌else_answer◌
page_is ws page n e = by (read_rows ws).number (read_rows ws).place (ltb (length page) (length (sheet_text ws))) refl e
  where
    by : (m p : ℕ) (short : Bool) → ltb (length page) (length (sheet_text ws)) ≡ short →
        refused_or (found m p short).number (found m p short).place (written (length (sheet_text ws))) ≡ written n →
        take n (overlay page 0 (sheet_text ws) if eqb (found m p short).number Fault.none else page) ≡ sheet_text ws
    by zero p true h e = let z : ◌≡◌ {A = ℕ} 0 1 = cc in absurd (omega arith)
    by zero p false h e = let l : n ≡ length (sheet_text ws) = cc in rw l (front-over page (sheet_text ws) (omega (arith, ltb-false)))
    by (suc m) p short h e = let z : ◌≡◌ {A = ℕ} 0 1 = cc in absurd (omega arith)

-- then the words have no fault, and all bytes of the text were written
pub wrote_all : (ws page : List ℕ) (n : ℕ) → sheet ws (length page) ≡ written n → ((read_rows ws).number ≡ 0) × (n ≡ length (sheet_text ws))
unfolding sheet sheet_fault room_fault ◌else_refuse◌ ◌else_answer◌
wrote_all ws page n e = by (read_rows ws).number (read_rows ws).place (ltb (length page) (length (sheet_text ws))) e
  where
    by : (m p : ℕ) (short : Bool) → refused_or (found m p short).number (found m p short).place (written (length (sheet_text ws))) ≡ written n →
        (m ≡ 0) × (n ≡ length (sheet_text ws))
    by zero p true e = let z : ◌≡◌ {A = ℕ} 0 1 = cc in absurd (omega arith)
    by zero p false e = let l : n ≡ length (sheet_text ws) = cc in (refl, l)
    by (suc m) p short e = let z : ◌≡◌ {A = ℕ} 0 1 = cc in absurd (omega arith)

-- two row systems are printed, each on a page of its own, and the pages have the same bytes: they have the same rows
pub read_back : (ws us page other : List ℕ) (n : ℕ) → sheet ws (length page) ≡ written n → sheet us (length other) ≡ written n →
    take n (sheet_page ws page) ≡ take n (sheet_page us other) → rows ws ≡ rows us
read_back ws us page other n e f h = same-sheet ws us (sym (page_is ws page n e) ∙ h ∙ page_is us other n f)
