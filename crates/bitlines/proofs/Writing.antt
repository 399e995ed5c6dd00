-- Entries written one after another.
use Rattle.std.proofs.Common.{◌≡◌, refl, ap, ◌∙◌, Bool, true, false, List, [], ◌∷◌, ◌++◌, ℕ, suc, ◌+◌, ◌*◌, ◌≤◌, ◌<◌, arith, ℤ, length, set, get_or}
use mathlib.Core.List.{flat_map}
use Rattle.integers.specs.Choice.{◌if◌else◌}
use Rattle.integers.specs.Number.{◌≟◌, +0}
use Rattle.integers.specs.Lists.{list_of}
use Rattle.integers.proofs.Lists.{flat_map_append}
use Rattle.words.specs.Word.{word, number_word}
use Rattle.words.specs.Kind as Kind
use Rattle.words.specs.Overlay.{overlay}
use Rattle.words.specs.LaidAt.{LaidAt}
use Rattle.words.proofs.Rest.{all_left, lay-part, lay-last, none_left}
use Rattle.bitforms.specs.Matrix.{Entry, entry_at, line_entries, not_zero}
use Rattle.bitforms.specs.FormWords.{entry_words}
use Rattle.bitforms.proofs.Lists.{list-more}
use Rattle.bitlines.specs.Line.{entries_words}

-- ---- words after words

laid_then : {a b c : ℕ} {o p q us vs : List ℕ} → LaidAt o a us p b → LaidAt p b vs q c → LaidAt o a (us ++ vs) q c
laid_then {a} {b} {c} {o} {p} {q} {us} {vs} x y = lay-last (lay-part (all_left o a (us ++ vs)) x) y

laid_none : {a : ℕ} {o : List ℕ} → LaidAt o a [] o a
laid_none {a} {o} = none_left (all_left o a [])

-- ---- entries after entries

zero-append : (xs ys : List Entry) → not_zero (xs ++ ys) ≡ not_zero xs ++ not_zero ys
unfolding not_zero
zero-append [] ys = refl
zero-append (x ∷ xs) ys = go (x.number ≟ +0) (zero-append xs ys)
  where
    go : (t : Bool) → not_zero (xs ++ ys) ≡ not_zero xs ++ not_zero ys →
        (not_zero (xs ++ ys) if t else x ∷ not_zero (xs ++ ys)) ≡ (not_zero xs if t else x ∷ not_zero xs) ++ not_zero ys
    go true e = e
    go false e = ap (λ l. x ∷ l) e

pub words_append : (xs ys : List Entry) → entries_words (xs ++ ys) ≡ entries_words xs ++ entries_words ys
unfolding entries_words
words_append xs ys = ap (flat_map entry_words) (zero-append xs ys) ∙ flat_map_append entry_words (not_zero xs) (not_zero ys)

-- ---- one entry more

-- the entries of the first d bits are written
pub record Writing (at i m : ℕ) (o : List ℕ) (line : List ℤ) (p : List ℕ) (next d : ℕ) : Type 0 where
  pub done : LaidAt o at (entries_words (line_entries (λ j. get_or line j +0) i d)) p next
  pub place : d ≤ m
  pub small : next ≤ at + 3 * d

pub writing-begun : (at i m : ℕ) (o : List ℕ) (line : List ℤ) → Writing at i m o line o at 0
unfolding line_entries list_of entries_words not_zero flat_map
writing-begun at i m o line = record { done = laid_none; place = omega arith; small = omega arith }

one_size : (i j : ℕ) (v : ℤ) → length (entries_words (entry_at i j v ∷ [])) ≤ 3
unfolding entries_words not_zero flat_map entry_words
one_size i j v = go (v ≟ +0)
  where
    go : (t : Bool) → length (flat_map entry_words ([] if t else entry_at i j v ∷ [])) ≤ 3
    go true = omega arith
    go false = omega arith

pub writing_more : {at i m next r d : ℕ} {o p q : List ℕ} {line : List ℤ} → d < m → Writing at i m o line p next d →
    LaidAt p next (entries_words (entry_at i (i + d) (get_or line (i + d) +0) ∷ [])) q r → Writing at i m o line q r (d + 1)
unfolding line_entries
writing_more {at} {i} {m} {next} {r} {d} {o} {p} {q} {line} l w e = record {
  done =
      let f : ℕ → Entry = λ k. entry_at i (i + k) (get_or line (i + k) +0) in
      rw (list-more f d, words_append (list_of f d) (f d ∷ [])) (laid_then w.done e);
  place = omega arith;
  small = let s = w.small in let n = e.ends in let z = one_size i (i + d) (get_or line (i + d) +0) in omega arith;
}

-- ---- one entry

-- three words, put one by one
pub laid-three : (out : List ℕ) (at x y z : ℕ) → set (set (set out at x) (at + 1) y) (at + 2) z ≡ overlay out at (x ∷ y ∷ z ∷ [])
unfolding overlay
laid-three out at x y z =
    let e : suc at ≡ at + 1 = omega arith in
    let f : suc (suc at) ≡ at + 2 = omega arith in
    rw (f, e) refl

pub laid-zero : {at : ℕ} {o : List ℕ} (i j : ℕ) (v : ℤ) → (v ≟ +0) ≡ true → LaidAt o at (entries_words (entry_at i j v ∷ [])) o at
unfolding entries_words not_zero flat_map
laid-zero i j v e = rw e laid_none

pub laid-entry : {at : ℕ} {o p : List ℕ} (i j : ℕ) (v : ℤ) → (v ≟ +0) ≡ false →
    p ≡ overlay o at (word Kind.variable i ∷ word Kind.variable j ∷ number_word Kind.number v ∷ []) → LaidAt o at (entries_words (entry_at i j v ∷ [])) p (at + 3)
unfolding entries_words not_zero flat_map entry_words
laid-entry i j v e f = rw e (record { over = f; ends = refl })
