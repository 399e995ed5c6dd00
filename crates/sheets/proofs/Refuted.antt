-- What EightyColumns is worth: it is false of wrong pages, of one line and of two.
use Rattle.std.proofs.Common.{◌≡◌, refl, sym, ap, ◌∙◌, subst, true, false, List, [], ◌∷◌, ◌++◌, ℕ, suc, ◌*◌, arith, eqb, length, replicate, get_or, take, drop}
use Rattle.std.proofs.Math.Seq.{take-append_seam, drop-append_seam}
use Rattle.integers.specs.Lists.{all}
use Rattle.integers.proofs.Tests.{false-true}
use Rattle.words.specs.Answer.{written}
use Rattle.sheets.specs.EightyColumns.{takes_a_column, InLines, no_line, a-line, EightyColumns}

-- a line feed after 80 columns, and lines after it
record Line (page : List ℕ) (lines : ℕ) : Type 0 where
  columns : all takes_a_column (take 80 page) ≡ true
  feed : take 1 (drop 80 page) ≡ 10 ∷ []
  others : InLines (drop 1 (drop 80 page)) lines

line : {page : List ℕ} {lines : ℕ} → InLines page lines → {n : ℕ} → lines ≡ suc n → Line page n
line no_line e = let no : ⊥ = omega (arith, e) in absurd no
line (a-line columns {rest} {lines} eighty fine later) {n} e =
    let page = columns ++ (10 ∷ rest) in
    let front : take 80 page ≡ columns = ap (λ k. take k page) (sym eighty) ∙ take-append_seam columns (10 ∷ rest) in
    let back : drop 80 page ≡ 10 ∷ rest = ap (λ k. drop k page) (sym eighty) ∙ drop-append_seam columns (10 ∷ rest) in
    let same : lines ≡ n = omega (arith, e) in
    record {
      columns = ap (all takes_a_column) front ∙ fine;
      feed = ap (take 1) back;
      others = subst (InLines (drop 1 (drop 80 page))) same (subst (λ d. InLines (drop 1 d) lines) (sym back) later);
    }

-- ---- pages, with 7 behind what was written

abbrev Page : List ℕ → Type 0
Page page = EightyColumns (written (length page)) (page ++ (7 ∷ []))

abbrev blanks : ℕ → List ℕ
blanks n = replicate n 32

abbrev right : List ℕ
right = blanks 80 ++ (10 ∷ [])

-- n lines, so that each has 81 bytes
first : (page : List ℕ) (n : ℕ) → length page ≡ 81 * suc n → Page page → Line (take (length page) (page ++ (7 ∷ []))) n
first page n e h = let x = h (length page) refl in line x.1.1 (omega (arith, e, x.1.0))

-- a line of 79 columns, one of 81, and both after a right one
lengths : (Page (blanks 79 ++ (10 ∷ [])) → ⊥) × (Page (blanks 81 ++ (10 ∷ [])) → ⊥) × (Page (right ++ (blanks 79 ++ (10 ∷ []))) → ⊥) × (Page (right ++ (blanks 81 ++ (10 ∷ []))) → ⊥)
lengths = (λ h. omega (arith, (h _ refl).1.0), λ h. omega (arith, (h _ refl).1.0), λ h. omega (arith, (h _ refl).1.0), λ h. omega (arith, (h _ refl).1.0))

feed-not : {b : ℕ} → eqb b 10 ≡ false → (b ∷ []) ≡ 10 ∷ [] → ⊥
feed-not f e = false-true (sym f ∙ ap (λ l. eqb (get_or l 0 0) 10) e)

-- no line feed, and none after a right line
no_feed : (Page (blanks 81) → ⊥) × (Page (right ++ blanks 81) → ⊥)
unfolding all
no_feed = (λ h. feed-not refl (first (blanks 81) 0 refl h).feed, λ h. feed-not refl (line (first (right ++ blanks 81) 1 refl h).others refl).feed)

-- a byte that takes no column: a line feed, 31 and 127
with_byte : ℕ → List ℕ
with_byte b = blanks 40 ++ (b ∷ (blanks 39 ++ (10 ∷ [])))

no_column : (Page (with_byte 10) → ⊥) × (Page (with_byte 31) → ⊥) × (Page (with_byte 127) → ⊥) × (Page (right ++ with_byte 127) → ⊥)
unfolding all with_byte
no_column = (
  λ h. false-true (first (with_byte 10) 0 refl h).columns,
  λ h. false-true (first (with_byte 31) 0 refl h).columns,
  λ h. false-true (first (with_byte 127) 0 refl h).columns,
  λ h. false-true (line (first (right ++ with_byte 127) 1 refl h).others refl).columns,
)

-- more was written than the lines, or less
other_counts : (EightyColumns (written 80) (right ++ (7 ∷ [])) → ⊥) × (EightyColumns (written 82) (right ++ (7 ∷ [])) → ⊥)
other_counts = (λ h. omega (arith, (h _ refl).1.0), λ h. omega (arith, (h _ refl).1.0))
