-- Laws of what a writer leaves: one part, parts after parts, loops that write a list of parts in each turn, parts that are only counted.
use Rattle.std.proofs.Common.{◌≡◌, refl, sym, ap, ◌∙◌, Bool, true, not, ◌||◌, List, [], ◌∷◌, ◌++◌, append-nil, ℕ, ◌+◌, ◌*◌, ◌≤◌, arith, length, length-append}
use mathlib.Core.List.{flat_map}
use Rattle.integers.specs.Lists.{all}
use Rattle.words.specs.Word.{in_range}
use Rattle.words.specs.Overlay.{overlay}
use Rattle.laying.specs.Part.{Part, part_words, part_numbers, part_auxiliaries, part_rows, words_in, auxiliaries_in, rows_in, size_in}
use Rattle.laying.specs.Lists.{many}
use Rattle.laying.specs.Appends.{some_outside, Appends, Over, CountsMore}
use Rattle.laying.specs.Room.{Room}
use Rattle.laying.specs.Writes.{Writes, WritesFitting}
use Rattle.laying.specs.declared.Writer.{Writer}
use Rattle.laying.proofs.Parts.{words_append, auxiliaries-append, rows_append, went-none, went-one, went_then, many_more}
use Rattle.laying.proofs.Alike.{Alike, went-alike, alike-itself}
use Rattle.laying.proofs.Counts.{Sized, no_room, sized-many}

-- ---- how many words, auxiliaries and rows

size-one : (p : Part) → size_in (p ∷ []) ≡ length (part_words p) + part_auxiliaries p + part_rows p
unfolding size_in words_in auxiliaries_in rows_in flat_map
size-one p = rw append-nil (omega arith)

size-append : (ps qs : List Part) → size_in (ps ++ qs) ≡ size_in ps + size_in qs
unfolding size_in
size-append ps qs = omega (arith, ap length (words_append ps qs), length-append (words_in ps) (words_in qs), auxiliaries-append ps qs, rows_append ps qs)

size-alike : {ps qs : List Part} → Alike ps qs → size_in qs ≡ size_in ps
unfolding size_in
size-alike h = omega (arith, h.words, h.auxiliaries, h.rows)

sized-size : {ps : List Part} {w a n : ℕ} {fit : Bool} → Sized ps w a n fit → size_in ps ≡ w + a + n
unfolding size_in
sized-size z = omega (arith, z.words, z.auxiliaries, z.rows)

-- ---- what is written

pub wrote-one : {s r : Writer} (p : Part) {fit : Bool} → (Room (length (part_words p) + part_auxiliaries p + part_rows p) s.laid → Over s.laid r.laid s.out.now r.out.now (part_words p) (part_auxiliaries p) (part_rows p) fit) → r.out.ghost_name ≡ s.out.ghost_name →
    fit ≡ all in_range (part_numbers p) → Writes s r (p ∷ [])
wrote-one p w q e = record { parts = λ h. went-one p (w (omega (arith, h, size-one p))) e; list = q }

pub wrote-then : {s t u : Writer} {ps qs : List Part} → Writes s t ps → Writes t u qs → Writes s u (ps ++ qs)
unfolding size_in
wrote-then {s} {t} {u} {ps} {qs} v w = record { parts = λ h. go h (v.parts (omega (arith, h, size-append ps qs))); list = w.list ∙ v.list }
  where
    go : Room (size_in (ps ++ qs)) s.laid → Appends s.laid t.laid s.out.now t.out.now ps → Appends s.laid u.laid s.out.now u.out.now (ps ++ qs)
    go h a = went_then a (w.parts (omega (arith, h, size-append ps qs, a.words, a.auxiliaries, a.rows)))

pub wrote-as : {s t : Writer} {ps qs : List Part} → ps ≡ qs → Writes s t ps → Writes s t qs
wrote-as e w = rw e at w

pub wrote-nothing : {s : Writer} → Writes s s []
wrote-nothing {s} = record { parts = λ h. went-none s.laid s.out.now; list = refl }

-- parts that count as others do, and are the same where their numbers are in the range
pub wrote-alike : {s t : Writer} {ps qs : List Part} → Alike ps qs → Writes s t qs → WritesFitting s t ps
wrote-alike h w = record { parts = λ r. went-alike h (w.parts (omega (arith, r, size-alike h))); list = w.list }

pub wrote-fitting : {s t : Writer} {ps : List Part} → Writes s t ps → WritesFitting s t ps
wrote-fitting {s} {t} {ps} w = wrote-alike (alike-itself ps) w

-- what is only counted, where the list has no room
pub wrote-counted : {s r : Writer} {ps : List Part} {w a n W A N : ℕ} {fit : Bool} → Sized ps w a n fit → (W ≡ w) × (A ≡ a) × (N ≡ n) →
    length s.out.now ≤ s.laid.words → (Room (W + A + N) s.laid → CountsMore s.laid r.laid W A N fit) → r.out ≡ s.out → Writes s r ps
wrote-counted z e room c q = record { parts = λ h. rw q (no_room (rw (← e.0, ← e.1, ← e.2) at z) room (c (omega (arith, h, sized-size z, e)))); list = rw q refl }

-- what is counted, and whose words went over the list
pub wrote-laid : {s r : Writer} {ps : List Part} {w a n W A N : ℕ} {fit : Bool} → Sized ps w a n fit → (W ≡ w) × (A ≡ a) × (N ≡ n) →
    (Room (W + A + N) s.laid → CountsMore s.laid r.laid W A N fit) → r.out.now ≡ overlay s.out.now s.laid.words (words_in ps) → r.out.ghost_name ≡ s.out.ghost_name → Writes s r ps
wrote-laid {s} {r} {ps} {w} {a} {n} {W} {A} {N} {fit} z e c l q = record { parts = λ h. go (c (omega (arith, h, sized-size z, e))); list = q }
  where
    go : CountsMore s.laid r.laid W A N fit → Appends s.laid r.laid s.out.now r.out.now ps
    go c = record {
      words = omega (arith, c.words, z.words, e.0);
      auxiliaries = omega (arith, c.auxiliaries, z.auxiliaries, e.1);
      rows = omega (arith, c.rows, z.rows, e.2);
      outside = c.outside ∙ ap (λ (b : Bool). some_outside s.laid || not b) (sym z.fits);
      over = l;
    }

-- many lists of w words, a auxiliaries and r rows each, whose numbers fit, are only counted
pub wrote-many : {s t : Writer} (f : ℕ → List Part) (n : ℕ) {W A N : ℕ} (w a r : ℕ) → ((k : ℕ) → Sized (f k) w a r true) →
    (W ≡ w * n) × (A ≡ a * n) × (N ≡ r * n) → length s.out.now ≤ s.laid.words → (Room (W + A + N) s.laid → CountsMore s.laid t.laid W A N true) → t.out ≡ s.out → Writes s t (many f n)
wrote-many f n w a r h = wrote-counted (sized-many f w a r n (λ k l. h k))

-- a loop that writes f 0, f 1, .., f (n − 1), before its turn k
pub record Writing (f : ℕ → List Part) (s t : Writer) (k : ℕ) : Type 0 where
  pub went : Writes s t (many f k)

pub writing-none : (f : ℕ → List Part) (s : Writer) → Writing f s s 0
unfolding many
writing-none f s = record { went = wrote-nothing }

pub writing-more : {f : ℕ → List Part} {s t u : Writer} {k : ℕ} → Writing f s t k → Writes t u (f k) → Writing f s u (k + 1)
writing-more {f} {s} {t} {u} {k} l w = record { went = rw (many_more f k) (wrote-then l.went w) }

pub writing-done : {n : ℕ} {f : ℕ → List Part} {s t : Writer} {k : ℕ} → k ≡ n → Writing f s t k → Writes s t (many f n)
writing-done e l = rw e at l.went
