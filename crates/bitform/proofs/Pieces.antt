-- Whether the form fits, test by test, and its words, part by part.
use Rattle.std.proofs.Common.{◌≡◌, refl, sym, ap, ap₂, ◌∙◌, Bool, true, false, ◌&&◌, List, [], ◌∷◌, ◌++◌, ℕ, zero, suc, ◌+◌, ◌*◌, ◌≤◌, ◌<◌, mul-add, arith, eqb, ℤ, pos, negsuc, nat_abs, length, length-append, get_or}
use mathlib.Core.Path.{fun_ext}
use mathlib.Core.List.{flat_map}
use Rattle.std.proofs.Math.Nat.{suc-mul}
use Rattle.integers.specs.Choice.{◌if◌else◌}
use Rattle.integers.specs.Number.{◌≟◌, ◌⊕◌, ◌⊗◌, +0, +1}
use Rattle.integers.proofs.Linear.{linear, arith_z}
use Rattle.integers.specs.Bounds.{within}
use Rattle.integers.specs.Lists.{list_of, all}
use Rattle.integers.proofs.Places.{all_append}
use Rattle.integers.proofs.Tests.{says-equal}
use Rattle.integers.proofs.Booleans.{both_true}
use Rattle.words.specs.Kind as Kind
use Rattle.words.specs.LaidAt.{LaidAt}
use Rattle.words.specs.Overlay.{overlay}
use Rattle.words.specs.Word.{word, number_word, in_range}
use Rattle.words.proofs.Overlay.{overlay-append}
use Rattle.words.proofs.ReadBack.{says_range}
use Rattle.bitforms.specs.BitForm.{bit_rows_of, bit_count}
use Rattle.bitforms.specs.BitRow.{BitRow}
use Rattle.bitbounds.specs.Within.{EntriesWithin}
use Rattle.bitforms.specs.Matrix.{Entry, entry_of, entry_at, line_entries, entries_from, not_zero}
use Rattle.bitforms.specs.FormAnswer.{row_fits, all_fit}
use Rattle.bitforms.specs.Taken.{taken_entry, taken_constant, taken_entries, taken_words}
use Rattle.bitlines.specs.Line.{entries_words}
use Rattle.bitlines.proofs.Writing.{words_append}
use Rattle.bitwriting.proofs.Putting.{line-words}

-- 0 is in the range, so that leaving zeros out changes no test
zeros-pass : (xs : List Entry) → all (λ x. in_range x.number) (not_zero xs) ≡ all (λ x. in_range x.number) xs
unfolding all not_zero within
zeros-pass [] = refl
zeros-pass (x ∷ xs) = go (x.number ≟ +0) refl (zeros-pass xs)
  where
    zero_in : (z : ℤ) → (z ≟ +0) ≡ true → in_range z ≡ true
    zero_in z e = ap in_range ((says-equal z +0).0 e)

    go : (t : Bool) → (x.number ≟ +0) ≡ t → all (λ y. in_range y.number) (not_zero xs) ≡ all (λ y. in_range y.number) xs →
        all (λ y. in_range y.number) (not_zero xs if t else x ∷ not_zero xs) ≡ (in_range x.number && all (λ y. in_range y.number) xs)
    go true e h = h ∙ sym (rw (zero_in x.number e) refl)
    go false e h = ap (λ b. in_range x.number && b) h

module _ (ws : List ℕ) (k c : ℤ) (a : ℕ → ℤ) where
  -- all entries in rising order
  abbrev pub entries_of : List Entry
  entries_of = entries_from (taken_entry k a (bit_rows_of ws)) 0 (bit_count ws)

  abbrev pub fit : Bool
  fit = all_fit ws (taken_constant ws k c) (taken_entries ws k a)

  pub fits-found : {x y z : Bool} → all (row_fits (bit_count ws)) (bit_rows_of ws) ≡ x → in_range (taken_constant ws k c) ≡ y → all (λ x. in_range x.number) entries_of ≡ z → fit ≡ (x && (y && z))
  fits-found e f g = ap₂ ◌&&◌ e (ap₂ ◌&&◌ f (zeros-pass entries_of ∙ g))

  words_are : taken_words ws k c a ≡ number_word Kind.number (taken_constant ws k c) ∷ (entries_words entries_of ++ (word Kind.rows_end 0 ∷ []))
  unfolding entries_words
  words_are = refl

  pub words-length : length (taken_words ws k c a) ≡ 1 + length (entries_words entries_of) + 1
  words-length = ap length words_are ∙ (let e = length-append (entries_words entries_of) (word Kind.rows_end 0 ∷ []) in omega arith)

  -- the constant, the entries, the end
  pub parts-laid : (out x y z : List ℕ) (end : ℕ) → x ≡ overlay out 0 (number_word Kind.number (taken_constant ws k c) ∷ []) →
      LaidAt x 1 (entries_words entries_of) y end → z ≡ overlay y end (word Kind.rows_end 0 ∷ []) → z ≡ overlay out 0 (taken_words ws k c a)
  parts-laid out x y z end e l f =
      f ∙ ap₂ (λ x n. overlay x n (word Kind.rows_end 0 ∷ [])) l.over l.ends
      ∙ overlay-append x 1 (entries_words entries_of) (word Kind.rows_end 0 ∷ [])
      ∙ ap (λ x. overlay x 1 (entries_words entries_of ++ (word Kind.rows_end 0 ∷ []))) e
      ∙ overlay-append out 0 (number_word Kind.number (taken_constant ws k c) ∷ []) (entries_words entries_of ++ (word Kind.rows_end 0 ∷ []))
      ∙ ap (overlay out 0) (sym words_are)

  -- what a form that fits says of its rows and entries
  pub fits-inside : fit ≡ true → (all (row_fits (bit_count ws)) (bit_rows_of ws) ≡ true) × (all (λ x. in_range x.number) entries_of ≡ true)
  fits-inside h =
      let b = both_true (all (row_fits (bit_count ws)) (bit_rows_of ws)) _ h in
      let d = both_true (in_range (taken_constant ws k c)) _ b.1 in
      (b.0, sym (zeros-pass entries_of) ∙ d.1)

  -- what does not fit
  pub row_unfit : all (row_fits (bit_count ws)) (bit_rows_of ws) ≡ false → fit ≡ false
  row_unfit e = fits-found e refl refl

  pub constant_unfit : all (row_fits (bit_count ws)) (bit_rows_of ws) ≡ true → in_range (taken_constant ws k c) ≡ false → fit ≡ false
  constant_unfit e f = fits-found e f refl

-- ---- a form that is taken once, to which nothing is added

pub once : (e : ℤ) → +1 ⊗ e ⊕ +0 ≡ e
once = simp linear (omega arith)

pub entry-once : (a : ℕ → ℤ) → ((i : ℕ) → a i ≡ +0) → (rs : List BitRow) → taken_entry +1 a rs ≡ entry_of rs
unfolding taken_entry
entry-once a h rs = fun_ext (λ i. fun_ext (λ j. ap (λ x. +1 ⊗ entry_of rs i j ⊕ x) (go i (eqb i j)) ∙ once (entry_of rs i j)))
  where
    go : (i : ℕ) (t : Bool) → (a i if t else +0) ≡ +0
    go i true = h i
    go i false = refl

-- at most 3,072 words a line
pub lines-few : (e : ℕ → ℕ → ℤ) (i m : ℕ) → m ≤ 1024 → length (entries_words (entries_from e i m)) ≤ 3072 * m
unfolding entries_from entries_words not_zero flat_map
lines-few e i zero h = omega arith
lines-few e i (suc m) h =
    let r = lines-few e (suc i) m (omega arith) in
    let w = line-words e i (suc m) in
    rw (words_append (line_entries (e i) i (suc m)) (entries_from e (suc i) m), length-append (entries_words (line_entries (e i) i (suc m))) (entries_words (entries_from e (suc i) m))) (omega arith)

-- at most three words for each of m × (m + 1) / 2 entries
pub lines-most : (e : ℕ → ℕ → ℤ) (i m : ℕ) → 2 * length (entries_words (entries_from e i m)) ≤ 3 * (m * (m + 1))
unfolding entries_from entries_words not_zero flat_map
lines-most e i zero = omega arith
lines-most e i (suc m) =
    let r = lines-most e (suc i) m in
    let w = line-words e i (suc m) in
    let a = suc-mul m (suc m + 1) in
    let b : suc m + 1 ≡ m + 1 + 1 = omega arith in
    let d = mul-add m (m + 1) 1 in
    let f : suc m * (suc m + 1) ≡ m * (m + 1) + 2 * suc m = omega (arith, a, d, ap (λ k. m * k) b) in
    rw (words_append (line_entries (e i) i (suc m)) (entries_from e (suc i) m), length-append (entries_words (line_entries (e i) i (suc m))) (entries_words (entries_from e (suc i) m)))
    (omega (arith, r, w, f))

-- a test that every number passes is passed by all entries
all-pass : {A : Type 0} (t : A → Bool) (f : ℕ → A) (m : ℕ) → ((d : ℕ) → d < m → t (f d) ≡ true) → all t (list_of f m) ≡ true
unfolding all list_of
all-pass t f zero h = refl
all-pass t f (suc m) h = rw (h 0 (omega arith)) (all-pass t (λ d. f (suc d)) m (λ d l. h (suc d) (omega arith)))

pub entries-pass : (e : ℕ → ℕ → ℤ) (n i m : ℕ) → i + m ≤ n → ((a b : ℕ) → a < n → b < n → in_range (e a b) ≡ true) → all (λ x. in_range x.number) (entries_from e i m) ≡ true
unfolding entries_from all line_entries
entries-pass e n i zero l h = refl
entries-pass e n i (suc m) l h =
    all_append (λ x. in_range x.number) (line_entries (e i) i (suc m)) (entries_from e (suc i) m)
    ∙ rw (all-pass (λ x. in_range x.number) (λ d. entry_at i (i + d) (e i (i + d))) (suc m) (λ d k. h i (i + d) (omega arith) (omega arith)), entries-pass e n (suc i) m (omega arith) h) refl

pub near-in_range : (z : ℤ) → nat_abs z ≤ 134217727 → in_range z ≡ true
near-in_range (pos n) h = (says_range (pos n)).1 (omega arith_z, omega (arith_z, h))
near-in_range (negsuc n) h = (says_range (negsuc n)).1 (omega (arith_z, h), omega arith_z)

none-there : (xs : List ℤ) (i : ℕ) → length xs ≡ 0 → get_or xs i +0 ≡ +0
none-there [] i h = refl
none-there (x ∷ xs) i h = absurd (omega (arith, h))

-- of a form that is taken once, with nothing added, whose entries are near 0
pub taken-pass : (rs : List BitRow) (k : ℤ) (added : List ℤ) (n b : ℕ) → length added ≡ 0 → k ≡ +1 → EntriesWithin n rs b → b ≤ 134217727 →
    all (λ x. in_range x.number) (entries_from (taken_entry k (λ i. get_or added i +0) rs) 0 n) ≡ true
taken-pass rs k added n b z e w l =
    rw (e, entry-once (λ i. get_or added i +0) (λ i. none-there added i z) rs) (entries-pass (entry_of rs) n 0 n (omega arith) (λ i j u v. near-in_range (entry_of rs i j) (omega (arith, w i j u v, l))))
