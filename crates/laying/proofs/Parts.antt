-- Laws of laying parts: nothing, one part, parts after parts; loops that lay a list of parts in each turn.
use Rattle.std.proofs.Common.{◌≡◌, refl, sym, ap, ap₂, ◌∙◌, Bool, true, false, not, ◌&&◌, ◌||◌, List, [], ◌∷◌, ◌++◌, append-nil, append_assoc, ℕ, zero, suc, ◌+◌, add-one, arith, length, length-append}
use mathlib.Core.List.{flat_map}
use Rattle.integers.specs.Lists.{all}
use Rattle.integers.proofs.Lists.{flat_map_append}
use Rattle.integers.proofs.Places.{all_append}
use Rattle.integers.proofs.Booleans.{or-false}
use Rattle.words.specs.Word.{in_range}
use Rattle.words.specs.Overlay.{overlay}
use Rattle.words.proofs.Overlay.{length-overlay, overlay-none, overlay-append}
use Rattle.laying.specs.Part.{Part, part_words, part_numbers, part_auxiliaries, part_rows, words_in, numbers_in, auxiliaries_in, rows_in}
use Rattle.laying.specs.Lists.{many}
use Rattle.laying.specs.Appends.{some_outside, Appends, Over}
use Rattle.laying.specs.declared.Laid.{Laid}

-- ---- parts after parts

pub words_append : (ps qs : List Part) → words_in (ps ++ qs) ≡ words_in ps ++ words_in qs
unfolding words_in
words_append ps qs = flat_map_append part_words ps qs

pub numbers-append : (ps qs : List Part) → numbers_in (ps ++ qs) ≡ numbers_in ps ++ numbers_in qs
unfolding numbers_in
numbers-append ps qs = flat_map_append part_numbers ps qs

pub auxiliaries-append : (ps qs : List Part) → auxiliaries_in (ps ++ qs) ≡ auxiliaries_in ps + auxiliaries_in qs
unfolding auxiliaries_in
auxiliaries-append [] qs = omega arith
auxiliaries-append (p ∷ ps) qs = omega (arith, auxiliaries-append ps qs)

pub rows_append : (ps qs : List Part) → rows_in (ps ++ qs) ≡ rows_in ps + rows_in qs
unfolding rows_in
rows_append [] qs = omega arith
rows_append (p ∷ ps) qs = omega (arith, rows_append ps qs)

-- outside before, or not all of one, or not all of another
or-not : (b x y : Bool) → ((b || not x) || not y) ≡ (b || not (x && y))
or-not true x y = refl
or-not false true y = refl
or-not false false y = refl

pub went-none : (s : Laid) (o : List ℕ) → Appends s s o o []
unfolding words_in numbers_in auxiliaries_in rows_in flat_map all
went-none s o = record {
  words = omega arith;
  auxiliaries = omega arith;
  rows = omega arith;
  outside = sym (or-false (some_outside s));
  over = sym (overlay-none o s.words);
}

pub went_then : {s r t : Laid} {o p q : List ℕ} {xs ys : List Part} → Appends s r o p xs → Appends r t p q ys → Appends s t o q (xs ++ ys)
went_then {s} {r} {t} {o} {p} {q} {xs} {ys} f g = record {
  words = omega (arith, f.words, g.words, length-append (words_in xs) (words_in ys), ap length (words_append xs ys));
  auxiliaries = omega (arith, f.auxiliaries, g.auxiliaries, auxiliaries-append xs ys);
  rows = omega (arith, f.rows, g.rows, rows_append xs ys);
  outside = g.outside ∙ ap (λ (b : Bool). b || not (all in_range (numbers_in ys))) f.outside ∙ or-not (some_outside s) (all in_range (numbers_in xs)) (all in_range (numbers_in ys))
      ∙ ap (λ (b : Bool). some_outside s || not b) (sym (all_append in_range (numbers_in xs) (numbers_in ys)) ∙ ap (all in_range) (sym (numbers-append xs ys)));
  over = g.over ∙ rw (f.over, f.words) (overlay-append o s.words (words_in xs) (words_in ys)) ∙ ap (overlay o s.words) (sym (words_append xs ys));
}

-- the words of one part went
pub went-one : {s r : Laid} {o o' : List ℕ} (p : Part) {fit : Bool} → Over s r o o' (part_words p) (part_auxiliaries p) (part_rows p) fit → fit ≡ all in_range (part_numbers p) → Appends s r o o' (p ∷ [])
unfolding words_in numbers_in auxiliaries_in rows_in flat_map
went-one {s} p w e = record {
  words = w.words ∙ rw append-nil;
  auxiliaries = omega (arith, w.auxiliaries);
  rows = omega (arith, w.rows);
  outside = w.outside ∙ ap (λ (b : Bool). some_outside s || not b) e ∙ rw append-nil;
  over = w.over ∙ rw append-nil;
}

pub went-length : {s r : Laid} {o o' : List ℕ} {ps : List Part} → Appends s r o o' ps → length o' ≡ length o
went-length {s} {r} {o} {o'} {ps} w = ap length w.over ∙ length-overlay o s.words (words_in ps)

-- the same parts, written otherwise
pub went_as : {s r : Laid} {o o' : List ℕ} {ps qs : List Part} → ps ≡ qs → Appends s r o o' ps → Appends s r o o' qs
went_as e w = rw e at w

-- ---- many lists of parts

pub many-same : (f g : ℕ → List Part) → ((k : ℕ) → f k ≡ g k) → (n : ℕ) → many f n ≡ many g n
unfolding many
many-same f g h zero = refl
many-same f g h (suc n) = ap₂ (λ a b. a ++ b) (h 0) (many-same (λ k. f (suc k)) (λ k. g (suc k)) (λ k. h (suc k)) n)

pub many_more : (f : ℕ → List Part) (n : ℕ) → many f (n + 1) ≡ many f n ++ f n
unfolding many
many_more f n = ap (many f) (add-one n) ∙ go f n
  where
    go : (f : ℕ → List Part) (n : ℕ) → many f (suc n) ≡ many f n ++ f n
    go f zero = append-nil (f 0)
    go f (suc n) = ap (λ l. f 0 ++ l) (go (λ k. f (suc k)) n) ∙ sym (append_assoc (f 0) (many (λ k. f (suc k)) n) (f (suc n)))
