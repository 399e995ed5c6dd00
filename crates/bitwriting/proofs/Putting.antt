-- Line after line: the entries left, tested and laid.
use Rattle.std.specs.Option.{is_some}
use Rattle.std.specs.Prelude.{IfSome}
use Rattle.std.proofs.Common.{◌≡◌, refl, sym, ap, ap₂, ◌∙◌, subst, eqb, Option, None, Some, Bool, true, false, not, ◌&&◌, List, [], ◌∷◌, ◌++◌, ℕ, zero, suc, ◌+◌, ◌*◌, ◌-◌, ◌<◌, ◌≤◌, arith, ℤ, length, get_or}
use mathlib.Core.List.{flat_map}
use Rattle.integers.specs.Choice.{◌if◌else◌}
use Rattle.integers.specs.Number.{◌⊕◌, ◌⊗◌, ◌≟◌, +0}
use Rattle.integers.specs.Lists.{list_of, all}
use Rattle.integers.proofs.Lists.{list_of-length}
use Rattle.integers.proofs.Booleans.{and-false, both_true}
use Rattle.integers.proofs.Places.{all_append, all_more}
use Rattle.words.specs.Limit as Limit
use Rattle.words.specs.LaidAt.{LaidAt}
use Rattle.words.specs.Overlay.{overlay}
use Rattle.words.specs.Word.{in_range}
use Rattle.words.proofs.Rest.{Rest, all_left, lay-part, same_rest, none_left, laid-length}
use Rattle.bitforms.specs.Matrix.{Entry, entry_of, entry_at, line_entries, entries_from, not_zero}
use Rattle.bitforms.specs.FormAnswer.{all_in_range}
use Rattle.bitforms.specs.FormWords.{entry_words}
use Rattle.bitforms.specs.Taken.{taken_entry}
use Rattle.bitforms.specs.BitRow.{BitRow}
use Rattle.bitlines.specs.Line.{entries_words}
use Rattle.bitlines.proofs.Writing.{words_append, Writing, writing-begun, writing_more, laid-zero, laid-entry}
use Rattle.bittaking.specs.Taking.{TakenAs, LineTaken}
use Rattle.bitwriting.specs.Bands.{TakenLine}
use Rattle.bitwriting.specs.Lined.{LineOf}
use Rattle.bitwriting.specs.EntriesPut.{EntriesPut}

-- entries that are tested alike, and where they pass are the same
abbrev Alike : (ℕ → Entry) → (ℕ → Entry) → ℕ → Type 0
Alike f g m = (d : ℕ) → d < m → (in_range (f d).number ≡ in_range (g d).number) × (in_range (f d).number ≡ true → f d ≡ g d)

all-alike : (f g : ℕ → Entry) (m : ℕ) → Alike f g m →
    (all_in_range (list_of f m) ≡ all_in_range (list_of g m)) × (all_in_range (list_of f m) ≡ true → list_of f m ≡ list_of g m)
unfolding list_of all
all-alike f g zero h = (refl, λ e. refl)
all-alike f g (suc m) h =
    let a = h 0 (omega arith) in
    let r = all-alike (λ d. f (suc d)) (λ d. g (suc d)) m (λ d l. h (suc d) (omega arith)) in (
      ap₂ ◌&&◌ a.0 r.0,
      λ e. let b = both_true (in_range (f 0).number) (all_in_range (list_of (λ d. f (suc d)) m)) e in ap₂ (λ x l. x ∷ l) (a.1 b.0) (r.1 b.1),
    )

-- a line that is taken is the line, taken
pub line-taken : (rs : List BitRow) (k : ℤ) (added line line' : List ℤ) (i m : ℕ) → i + m ≡ length line → length line' ≡ length line → LineOf rs i line →
    LineTaken k added i m line line' → TakenLine rs k added i line'
line-taken rs k added line line' i m e l h t j u v =
    subst (λ x. TakenAs k x (get_or added i +0 if eqb i j else +0) (get_or line' j +0)) (h j u (omega arith)) (t j u (omega arith) (omega arith))

-- what is put of it are the entries of the line, taken
pub entries-taken : (rs : List BitRow) (k : ℤ) (added line : List ℤ) (i m : ℕ) {at : ℕ} {out out' : List ℕ} {end : Option ℕ} → i + m ≡ length line → TakenLine rs k added i line →
    EntriesPut (line_entries (λ j. get_or line j +0) i m) out at out' end → EntriesPut (line_entries (taken_entry k (λ j. get_or added j +0) rs i) i m) out at out' end
unfolding line_entries taken_entry
entries-taken rs k added line i m {at} {out} {out'} {end} e h p = record { tested = p.tested ∙ both.0; laid = go end p.tested p.laid }
  where
    f : ℕ → Entry
    f d = entry_at i (i + d) (get_or line (i + d) +0)

    g : ℕ → Entry
    g d = entry_at i (i + d) (k ⊗ entry_of rs i (i + d) ⊕ (get_or added i +0 if eqb i (i + d) else +0))

    both : (all_in_range (list_of f m) ≡ all_in_range (list_of g m)) × (all_in_range (list_of f m) ≡ true → list_of f m ≡ list_of g m)
    both = all-alike f g m (λ d l. let s = h (i + d) (omega arith) (omega arith) in (s.tested, λ z. ap (entry_at i (i + d)) (s.same z)))

    go : (x : Option ℕ) → is_some x ≡ all_in_range (list_of f m) → IfSome x (λ a. LaidAt out at (entries_words (list_of f m)) out' a) → IfSome x (λ a. LaidAt out at (entries_words (list_of g m)) out' a)
    go None t l = tt
    go (Some a) t l = subst (λ xs. LaidAt out at (entries_words xs) out' a) (both.1 (sym t)) l

-- the entries from bit i on are those of its line, then those from the next bit on
from-line : (e : ℕ → ℕ → ℤ) (i m : ℕ) → entries_from e i (suc m) ≡ line_entries (e i) i (suc m) ++ entries_from e (suc i) m
unfolding entries_from
from-line e i m = refl

pub line_first : (e : ℕ → ℕ → ℤ) (i n : ℕ) → i < n → entries_from e i (n - i) ≡ line_entries (e i) i (n - i) ++ entries_from e (i + 1) (n - (i + 1))
line_first e i n h =
    let a : n - i ≡ suc (n - (i + 1)) = omega arith in
    let b : i + 1 ≡ suc i = omega arith in
    rw (a, b) (from-line e i (n - suc i))

few_words : (xs : List Entry) → length (entries_words xs) ≤ 3 * length xs
unfolding entries_words not_zero flat_map entry_words
few_words [] = omega arith
few_words (x ∷ xs) = go (x.number ≟ +0) (few_words xs)
  where
    go : (t : Bool) → length (flat_map entry_words (not_zero xs)) ≤ 3 * length xs → length (flat_map entry_words (not_zero xs if t else x ∷ not_zero xs)) ≤ 3 * suc (length xs)
    go true h = omega arith
    go false h = omega arith

pub line-words : (e : ℕ → ℕ → ℤ) (i m : ℕ) → length (entries_words (line_entries (e i) i m)) ≤ 3 * m
unfolding line_entries
line-words e i m = omega (arith, few_words (line_entries (e i) i m), list_of-length (λ d. entry_at i (i + d) (e i (i + d))) m)

-- an entry that fails the test fails them all
pub fails-at : {A : Type 0} (t : A → Bool) (f : ℕ → A) (m d : ℕ) → d < m → t (f d) ≡ false → all t (list_of f m) ≡ false
unfolding all list_of
fails-at t f zero d h e = absurd (omega arith)
fails-at t f (suc m) zero h e = rw e refl
fails-at t f (suc m) (suc d) h e = ap (λ b. t (f 0) && b) (fails-at t (λ k. f (suc k)) m d (omega arith) e) ∙ and-false (t (f 0))

pub record Putting (e : ℕ → ℕ → ℤ) (n at : ℕ) (out₀ out : List ℕ) (to i : ℕ) : Type 0 where
  pub place : i ≤ n
  pub rest : Rest out₀ at (entries_words (entries_from e 0 n)) out to (entries_words (entries_from e i (n - i)))
  pub fits : all_in_range (entries_from e i (n - i)) ≡ all_in_range (entries_from e 0 n)
  pub small : to ≤ at + 3072 * i
  pub few : n ≤ Limit.bits
  pub same_out : length out ≡ length out₀

pub putting-begun : (e : ℕ → ℕ → ℤ) (n at : ℕ) (out : List ℕ) → n ≤ Limit.bits → Putting e n at out out at 0
putting-begun e n at out s = record {
  place = omega arith;
  rest = same_rest (ap (λ m. entries_words (entries_from e 0 m)) whole) (all_left out at (entries_words (entries_from e 0 n)));
  fits = ap (λ m. all_in_range (entries_from e 0 m)) (sym whole);
  small = omega arith;
  few = s;
  same_out = refl;
}
  where
    whole : n ≡ n - 0
    whole = omega arith

module _ {e : ℕ → ℕ → ℤ} {n at : ℕ} {out₀ out : List ℕ} {to i : ℕ} (k : Putting e n at out₀ out to i) (h : i < n) where
  pub putting-more : {out' : List ℕ} {end : ℕ} → EntriesPut (line_entries (e i) i (n - i)) out to out' (Some end) → Putting e n at out₀ out' end (i + 1)
  putting-more {out'} {end} s =
      let f = line_first e i n h in
      let l = s.laid in
      let t = sym s.tested in
      record {
        place = omega arith;
        rest = lay-part (same_rest (ap entries_words f ∙ words_append (line_entries (e i) i (n - i)) (entries_from e (i + 1) (n - (i + 1)))) k.rest) l;
        fits = sym (ap all_in_range f ∙ all_append (λ x. in_range x.number) (line_entries (e i) i (n - i)) (entries_from e (i + 1) (n - (i + 1))) ∙ ap (λ b. b && all_in_range (entries_from e (i + 1) (n - (i + 1)))) t) ∙ k.fits;
        small = omega (arith, k.small, k.few, l.ends, line-words e i (n - i));
        few = k.few;
        same_out = laid-length l ∙ k.same_out;
      }

  pub putting-fails : all_in_range (line_entries (e i) i (n - i)) ≡ false → false ≡ all_in_range (entries_from e 0 n)
  putting-fails t =
      let f = line_first e i n h in
      sym (ap all_in_range f ∙ all_append (λ x. in_range x.number) (line_entries (e i) i (n - i)) (entries_from e (i + 1) (n - (i + 1))) ∙ ap (λ b. b && all_in_range (entries_from e (i + 1) (n - (i + 1)))) t) ∙ k.fits

no-entries : (e : ℕ → ℕ → ℤ) (i : ℕ) → (all_in_range (entries_from e i 0) ≡ true) × (entries_words (entries_from e i 0) ≡ [])
unfolding entries_from all entries_words not_zero flat_map
no-entries e i = (refl, refl)

pub putting-done : {e : ℕ → ℕ → ℤ} {n at : ℕ} {out₀ out : List ℕ} {to i : ℕ} → Putting e n at out₀ out to i → n ≤ i →
    EntriesPut (entries_from e 0 n) out₀ at out (Some to)
putting-done {e} {n} {at} {out₀} {out} {to} {i} k h =
    let z : n - i ≡ 0 = omega arith in
    record { tested = sym (no-entries e i).0 ∙ rw z at k.fits; laid = none_left (same_rest (no-entries e i).1 (rw z at k.rest)) }

-- where all entries are in the range, those of the line are, and their words are laid as those of the list that holds it
pub line-in_range : {e : ℕ → ℕ → ℤ} {n at : ℕ} {out₀ out : List ℕ} {to i : ℕ} → Putting e n at out₀ out to i → i < n → all_in_range (entries_from e 0 n) ≡ true → all_in_range (line_entries (e i) i (n - i)) ≡ true
line-in_range {e} {n} {i = i} k h f =
    let x = line_entries (e i) i (n - i) in
    let y = entries_from e (i + 1) (n - (i + 1)) in
    (both_true (all_in_range x) (all_in_range y) (sym (ap all_in_range (line_first e i n h) ∙ all_append (λ x. in_range x.number) x y) ∙ k.fits ∙ f)).0

pub line-put : (rs : List BitRow) (k : ℤ) (added line : List ℤ) (i m : ℕ) {at : ℕ} {out out' : List ℕ} {end : ℕ} → i + m ≡ length line → TakenLine rs k added i line →
    all_in_range (line_entries (taken_entry k (λ j. get_or added j +0) rs i) i m) ≡ true → LaidAt out at (entries_words (line_entries (λ j. get_or line j +0) i m)) out' end →
    EntriesPut (line_entries (taken_entry k (λ j. get_or added j +0) rs i) i m) out at out' (Some end)
unfolding line_entries taken_entry
line-put rs k added line i m {at} {out} {out'} {end} e h t l = record { tested = sym t; laid = subst (λ xs. LaidAt out at (entries_words xs) out' end) (both.1 (both.0 ∙ t)) l }
  where
    f : ℕ → Entry
    f d = entry_at i (i + d) (get_or line (i + d) +0)

    g : ℕ → Entry
    g d = entry_at i (i + d) (k ⊗ entry_of rs i (i + d) ⊕ (get_or added i +0 if eqb i (i + d) else +0))

    both : (all_in_range (list_of f m) ≡ all_in_range (list_of g m)) × (all_in_range (list_of f m) ≡ true → list_of f m ≡ list_of g m)
    both = all-alike f g m (λ d l. let s = h (i + d) (omega arith) (omega arith) in (s.tested, λ z. ap (entry_at i (i + d)) (s.same z)))

-- ---- entries that are counted: their words are laid over no list

nothing-laid : (at x y z : ℕ) → [] ≡ overlay [] at (x ∷ y ∷ z ∷ [])
unfolding overlay
nothing-laid at x y z = refl

pub record Counting (line : List ℤ) (i at to j : ℕ) (fit : Bool) : Type 0 where
  pub place : i ≤ j
  pub laid : Writing at i (length line - i) [] line [] to (j - i)
  pub tested : fit ≡ all_in_range (line_entries (λ k. get_or line k +0) i (j - i))

pub counting-begun : (line : List ℤ) (i at : ℕ) → Counting line i at at i true
unfolding line_entries list_of all
counting-begun line i at =
    let z : i - i ≡ 0 = omega arith in
    record { place = omega arith; laid = rw z (writing-begun at i (length line - i) [] line); tested = rw z refl }

entry-counted : (i j at : ℕ) (v : ℤ) (t : Bool) → (v ≟ +0) ≡ t → LaidAt [] at (entries_words (entry_at i j v ∷ [])) [] (at + 3 * (1 if not t else 0))
entry-counted i j at v true e = let z : at + 0 ≡ at = omega arith in rw z (laid-zero i j v e)
entry-counted i j at v false e = laid-entry i j v e (nothing-laid at _ _ _)

pub counting-more : {line : List ℤ} {i at to j : ℕ} {fit : Bool} (none inside : Bool) → Counting line i at to j fit → j < length line → (get_or line j +0 ≟ +0) ≡ none → inside ≡ in_range (get_or line j +0) →
    Counting line i at (to + 3 * (1 if not none else 0)) (j + 1) (fit && inside)
unfolding line_entries
counting-more {line} {i} {at} {to} {j} {fit} none inside s h e r =
    let p = s.place in
    let d : (j - i) + 1 ≡ j + 1 - i = omega arith in
    let w : i + (j - i) ≡ j = omega arith in
    record {
      place = omega arith;
      laid = rw (← d) (writing_more (omega arith) s.laid (rw w (entry-counted i j to (get_or line j +0) none e)));
      tested = rw (← d) (ap₂ ◌&&◌ s.tested (r ∙ ap (λ x. in_range (get_or line x +0)) (sym w)) ∙ sym (all_more (λ x. in_range x.number) (λ k. entry_at i (i + k) (get_or line (i + k) +0)) (j - i)));
    }
