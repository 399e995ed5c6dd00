-- Parts for which the list has no room: they are counted, and the list stays as it is.
use Rattle.std.proofs.Common.{◌≡◌, refl, sym, ap, ap₂, ◌∙◌, Bool, true, false, not, ◌&&◌, ◌||◌, List, [], ◌∷◌, ◌++◌, ℕ, zero, suc, ◌+◌, ◌*◌, ◌<◌, ◌≤◌, arith, ℤ, pos, length, length-append, get_or, set}
use mathlib.Core.List.{flat_map}
use lib.Seq.{set_out}
use Rattle.integers.specs.Number.{◌⊕◌, +0, +1, -1}
use Rattle.integers.specs.Lists.{all, list_of}
use Rattle.integers.specs.Bounds.{within}
use Rattle.integers.proofs.Linear.{◌⊑◌, linear}
use Rattle.integers.proofs.Places.{all_append}
use Rattle.integers.proofs.Booleans.{and-true}
use Rattle.words.specs.Limit as Limit
use Rattle.words.specs.Kind as Kind
use Rattle.words.specs.Word.{in_range, word, number_word}
use Rattle.words.specs.Overlay.{overlay}
use Rattle.words.proofs.Overlay.{overlay-append}
use Rattle.words.proofs.ReadBack.{says_range}
use Rattle.laying.specs.Part.{Part, bound, head, term, constant, times, part_words, part_numbers, part_auxiliaries, part_rows, words_in, numbers_in, auxiliaries_in, rows_in}
use Rattle.laying.specs.Lists.{many, term_of, term_at, row_parts_of, same_at, bit_at, label_at, order_at}
use Rattle.laying.specs.Appends.{some_outside, Appends, CountsMore}
use Rattle.laying.specs.declared.Laid.{Laid}
use Rattle.laying.specs.declared.term.Term.{Term}
use Rattle.laying.proofs.Parts.{words_append, numbers-append, auxiliaries-append, rows_append, many_more}

-- whether the numbers of parts are in the range
abbrev pub fitting : List Part → Bool
fitting ps = all in_range (numbers_in ps)

-- how many words, auxiliaries and rows, and whether the numbers are in the range
pub record Sized (ps : List Part) (w a n : ℕ) (fit : Bool) : Type 0 where
  pub words : length (words_in ps) ≡ w
  pub auxiliaries : auxiliaries_in ps ≡ a
  pub rows : rows_in ps ≡ n
  pub fits : fitting ps ≡ fit

pub sized-none : Sized [] 0 0 0 true
unfolding words_in numbers_in auxiliaries_in rows_in flat_map all
sized-none = record { words = refl; auxiliaries = refl; rows = refl; fits = refl }

pub sized-then : {ps qs : List Part} {w a n v b m : ℕ} {fit too : Bool} → Sized ps w a n fit → Sized qs v b m too → Sized (ps ++ qs) (w + v) (a + b) (n + m) (fit && too)
sized-then {ps} {qs} f g = record {
  words = ap length (words_append ps qs) ∙ length-append (words_in ps) (words_in qs) ∙ ap₂ (λ (x y : ℕ). x + y) f.words g.words;
  auxiliaries = auxiliaries-append ps qs ∙ ap₂ (λ (x y : ℕ). x + y) f.auxiliaries g.auxiliaries;
  rows = rows_append ps qs ∙ ap₂ (λ (x y : ℕ). x + y) f.rows g.rows;
  fits = ap (all in_range) (numbers-append ps qs) ∙ all_append in_range (numbers_in ps) (numbers_in qs) ∙ ap₂ (λ (x y : Bool). x && y) f.fits g.fits;
}

-- ---- one part

sized-head : (kind n : ℕ) → Sized (head kind n ∷ []) 1 0 0 true
unfolding words_in numbers_in auxiliaries_in rows_in flat_map all part_words part_numbers part_auxiliaries part_rows
sized-head kind n = record { words = refl; auxiliaries = refl; rows = refl; fits = refl }

pub sized-any : (c : ℤ) (v : ℕ) → Sized (term c v ∷ []) 2 0 0 (in_range c)
unfolding words_in numbers_in auxiliaries_in rows_in flat_map all part_words part_numbers part_auxiliaries part_rows
sized-any c v = record { words = refl; auxiliaries = refl; rows = refl; fits = and-true (in_range c) }

sized-fitting : (c : ℤ) (v : ℕ) → Sized (term c v ∷ []) 2 0 0 (fitting (term c v ∷ []))
sized-fitting c v = let z = sized-any c v in record { words = z.words; auxiliaries = z.auxiliaries; rows = z.rows; fits = refl }

pub sized-term : (c : ℤ) (v : ℕ) → in_range c ≡ true → Sized (term c v ∷ []) 2 0 0 true
sized-term c v h = rw h at (sized-any c v)

sized-constant : (c : ℤ) → Sized (constant c ∷ []) 1 0 1 (in_range c)
unfolding words_in numbers_in auxiliaries_in rows_in flat_map all part_words part_numbers part_auxiliaries part_rows
sized-constant c = record { words = refl; auxiliaries = refl; rows = refl; fits = and-true (in_range c) }

pub sized-bound : (l u : ℤ) → Sized (bound l u ∷ []) 2 1 0 (fitting (bound l u ∷ []))
unfolding words_in auxiliaries_in rows_in flat_map part_words part_auxiliaries part_rows
sized-bound l u = record { words = refl; auxiliaries = refl; rows = refl; fits = refl }

pub sized-times : (r f g : ℕ) → Sized (times r f g ∷ []) 4 0 1 true
unfolding words_in numbers_in auxiliaries_in rows_in flat_map all part_words part_numbers part_auxiliaries part_rows
sized-times r f g = record { words = refl; auxiliaries = refl; rows = refl; fits = refl }

pub fitting-bound : (l u : ℤ) → fitting (bound l u ∷ []) ≡ (in_range l && in_range u)
unfolding numbers_in flat_map all part_numbers
fitting-bound l u = ap (λ (b : Bool). in_range l && b) (and-true (in_range u))

-- ---- one turn of a loop

pub sized-bit : (k : ℕ) → Sized (bit_at k) 2 1 0 true
unfolding within numbers_in flat_map all part_numbers
sized-bit k = sized-bound +0 +1

pub sized-one : (v : ℕ) → Sized (term +1 v ∷ []) 2 0 0 true
unfolding within
sized-one v = sized-term +1 v refl

-- a number between two of the range
between : (from : ℤ) (k n : ℕ) → k < n → (Limit.lowest ⊑ from) × (from ⊑ Limit.highest) → (Limit.lowest ⊑ from ⊕ pos n) × (from ⊕ pos n ⊑ Limit.highest) →
    (Limit.lowest ⊑ from ⊕ pos k) × (from ⊕ pos k ⊑ Limit.highest)
between = simp linear (omega arith)

pub sized-label : (from : ℤ) (v n : ℕ) → in_range from ≡ true → in_range (from ⊕ pos n) ≡ true → (k : ℕ) → k < n → Sized (label_at from v k) 2 0 0 true
sized-label from v n f l k h = sized-term _ (v + k) ((says_range (from ⊕ pos k)).1 (between from k n h ((says_range from).0 f) ((says_range (from ⊕ pos n)).0 l)))

-- ---- many lists, each of the same counts

pub sized-many : (f : ℕ → List Part) (w a r n : ℕ) → ((k : ℕ) → k < n → Sized (f k) w a r true) → Sized (many f n) (w * n) (a * n) (r * n) true
unfolding many
sized-many f w a r zero h =
    let e : (x : ℕ) → 0 ≡ x * 0 = λ x. omega arith in
    rw (← e w, ← e a, ← e r) sized-none
sized-many f w a r (suc n) h =
    let e : (x : ℕ) → x + x * n ≡ x * suc n = λ x. omega arith in
    rw (← e w, ← e a, ← e r) (sized-then (h 0 (omega arith)) (sized-many (λ k. f (suc k)) w a r n (λ k l. h (suc k) (omega arith))))

-- each with one number that is tested
pub sized-listed : (f : ℕ → List Part) (g : ℕ → ℤ) (w a r n : ℕ) → ((k : ℕ) → Sized (f k) w a r (in_range (g k))) → Sized (many f n) (w * n) (a * n) (r * n) (all in_range (list_of g n))
unfolding many all list_of
sized-listed f g w a r zero h =
    let e : (x : ℕ) → 0 ≡ x * 0 = λ x. omega arith in
    rw (← e w, ← e a, ← e r) sized-none
sized-listed f g w a r (suc n) h =
    let e : (x : ℕ) → x + x * n ≡ x * suc n = λ x. omega arith in
    rw (← e w, ← e a, ← e r) (sized-then (h 0) (sized-listed (λ k. f (suc k)) (λ k. g (suc k)) w a r n (λ k. h (suc k))))

-- ---- rows

-- the coefficient of the term at a place
abbrev pub coefficient-at : List Term → ℕ → ℤ
coefficient-at ts k = (get_or ts k (term_of +0 0)).coefficient

sized-terms : (ts : List Term) → Sized (many (term_at ts) (length ts)) (2 * length ts) 0 0 (all in_range (list_of (coefficient-at ts) (length ts)))
sized-terms ts =
    let z : 0 * length ts ≡ 0 = omega arith in
    rw z at (sized-listed (term_at ts) (coefficient-at ts) 2 0 0 (length ts) (λ k. sized-any _ _))

pub sized_row : (kind : ℕ) (ts : List Term) (c : ℤ) → Sized (row_parts_of kind ts c) (2 + 2 * length ts) 0 1 (all in_range (list_of (coefficient-at ts) (length ts)) && in_range c)
unfolding row_parts_of
sized_row kind ts c =
    let d : 1 + (2 * length ts + 1) ≡ 2 + 2 * length ts = omega arith in
    rw d at (sized-then (sized-head kind (length ts)) (sized-then (sized-terms ts) (sized-constant c)))

-- a row of two variables, the coefficients 1 and −1
pub sized-pair : (kind x y : ℕ) → Sized (row_parts_of kind (term_of +1 x ∷ term_of -1 y ∷ []) +0) 6 0 1 true
unfolding within all list_of
sized-pair kind x y = sized_row kind (term_of +1 x ∷ term_of -1 y ∷ []) +0

cross : (a b c d : Bool) → ((a && b) && (c && d)) ≡ ((a && c) && (b && d))
cross true true c d = refl
cross true false true d = refl
cross true false false d = refl
cross false b c d = refl

pub sized-bounds : (l u : ℕ → ℤ) (n : ℕ) → Sized (many (λ k. bound (l k) (u k) ∷ []) n) (2 * n) n 0 (all in_range (list_of l n) && all in_range (list_of u n))
unfolding many all list_of
sized-bounds l u zero = sized-none
sized-bounds l u (suc n) =
    let d : 2 + 2 * n ≡ 2 * suc n = omega arith in
    let m : 1 + n ≡ suc n = omega arith in
    let z = sized-then (rw fitting-bound at (sized-bound (l 0) (u 0))) (sized-bounds (λ k. l (suc k)) (λ k. u (suc k)) n) in
    rw (d, m, cross (in_range (l 0)) (in_range (u 0)) _ _) at z

pub sized-each : (f : ℕ → List Part) (w a r n : ℕ) → ((k : ℕ) → Sized (f k) w a r (fitting (f k))) → Sized (many f n) (w * n) (a * n) (r * n) (fitting (many f n))
unfolding many numbers_in flat_map all
sized-each f w a r zero h =
    let e : (x : ℕ) → 0 ≡ x * 0 = λ x. omega arith in
    rw (← e w, ← e a, ← e r) sized-none
sized-each f w a r (suc n) h =
    let e : (x : ℕ) → x + x * n ≡ x * suc n = λ x. omega arith in
    let z = sized-then (h 0) (sized-each (λ k. f (suc k)) w a r n (λ k. h (suc k))) in
    rw (← e w, ← e a, ← e r) (rw (← z.fits) at z)

-- ---- word by word

-- one more term of a coefficient
pub same_more : (o : List ℕ) (at : ℕ) (c : ℤ) (v k : ℕ) →
    set (set (overlay o at (words_in (many (same_at c v) k))) (at + 2 * k) (word Kind.variable (v + k))) (at + 2 * k + 1) (number_word Kind.number c)
    ≡ overlay o at (words_in (many (same_at c v) (k + 1)))
unfolding overlay words_in flat_map part_words
same_more o at c v k =
    let f = same_at c v in
    let ws = words_in (many f k) in
    let n : length ws ≡ 2 * k = (sized-each f 2 0 0 k (λ j. sized-fitting c (v + j))).words in
    let one : suc (at + 2 * k) ≡ at + 2 * k + 1 = omega arith in
    rw (← one, ← n) (overlay-append o at ws (words_in (f k))) ∙ ap (overlay o at) (sym (words_append (many f k) (f k)) ∙ ap words_in (sym (many_more f k)))

-- a row of two variables, the coefficients 1 and −1
pub pair_put : (o : List ℕ) (at x y : ℕ) →
    set (set (set (set (set (set o at (word Kind.at_most 2)) (at + 1) (word Kind.variable x)) (at + 2) (number_word Kind.number +1)) (at + 3) (word Kind.variable y)) (at + 4) (number_word Kind.number -1)) (at + 5) (number_word Kind.number +0)
    ≡ overlay o at (words_in (row_parts_of Kind.at_most (term_of +1 x ∷ term_of -1 y ∷ []) +0))
unfolding overlay words_in flat_map part_words row_parts_of many
pair_put o at x y =
    let one : suc at ≡ at + 1 = omega arith in
    let two : suc (suc at) ≡ at + 2 = omega arith in
    let three : suc (suc (suc at)) ≡ at + 3 = omega arith in
    let four : suc (suc (suc (suc at))) ≡ at + 4 = omega arith in
    let five : suc (suc (suc (suc (suc at)))) ≡ at + 5 = omega arith in
    rw (← one, ← two, ← three, ← four, ← five) refl

-- one more such row
pub order_more : (o : List ℕ) (at : ℕ) (args : List ℕ) (base m : ℕ) (up : Bool) (k : ℕ) →
    overlay (overlay o at (words_in (many (order_at args base m up) k))) (at + 6 * k) (words_in (order_at args base m up k))
    ≡ overlay o at (words_in (many (order_at args base m up) (k + 1)))
order_more o at args base m up k =
    let f = order_at args base m up in
    let ws = words_in (many f k) in
    let n : length ws ≡ 6 * k = (sized-many f 6 0 1 k (λ j h. sized-pair _ _ _)).words in
    rw (← n) (overlay-append o at ws (words_in (f k))) ∙ ap (overlay o at) (sym (words_append (many f k) (f k)) ∙ ap words_in (sym (many_more f k)))

-- ---- no room

pub overlay-past : (out : List ℕ) (at : ℕ) (xs : List ℕ) → length out ≤ at → overlay out at xs ≡ out
unfolding overlay
overlay-past out at [] h = refl
overlay-past out at (x ∷ xs) h = ap (λ l. overlay l (suc at) xs) (set_out out at x h) ∙ overlay-past out (suc at) xs (omega arith)

pub no_room : {s r : Laid} {o : List ℕ} {ps : List Part} {w a n : ℕ} {fit : Bool} → Sized ps w a n fit → length o ≤ s.words → CountsMore s r w a n fit → Appends s r o o ps
no_room {s} {r} {o} {ps} z h c = record {
  words = omega (arith, c.words, z.words);
  auxiliaries = omega (arith, c.auxiliaries, z.auxiliaries);
  rows = omega (arith, c.rows, z.rows);
  outside = c.outside ∙ ap (λ (b : Bool). some_outside s || not b) (sym z.fits);
  over = sym (overlay-past o s.words (words_in ps) h);
}

-- one list more is tested
pub fitting-more : (f : ℕ → List Part) (k : ℕ) → fitting (many f (k + 1)) ≡ (fitting (many f k) && fitting (f k))
fitting-more f k = ap fitting (many_more f k) ∙ ap (all in_range) (numbers-append (many f k) (f k)) ∙ all_append in_range (numbers_in (many f k)) (numbers_in (f k))
