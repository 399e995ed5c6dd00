-- Parts that count as others do, and are the same where their numbers are in the range: laying the ones is laying the others, but for words that are never read.
use Rattle.std.proofs.Common.{◌≡◌, refl, sym, ap, ◌∙◌, true, not, ◌&&◌, ◌||◌, List, ◌++◌, ℕ, ◌+◌, arith, length, length-append}
use Rattle.integers.specs.Lists.{all}
use Rattle.integers.proofs.Places.{all_append}
use Rattle.integers.proofs.Booleans.{both_true}
use Rattle.words.specs.Word.{in_range}
use Rattle.words.specs.Overlay.{overlay}
use Rattle.laying.specs.Part.{Part, words_in, numbers_in, auxiliaries_in, rows_in}
use Rattle.laying.specs.Appends.{some_outside, Appends, AppendsFitting}
use Rattle.laying.specs.declared.Laid.{Laid}
use Rattle.laying.proofs.Parts.{words_append, numbers-append, auxiliaries-append, rows_append}

pub record Alike (ps qs : List Part) : Type 0 where
  pub words : length (words_in qs) ≡ length (words_in ps)
  pub auxiliaries : auxiliaries_in qs ≡ auxiliaries_in ps
  pub rows : rows_in qs ≡ rows_in ps
  pub fits : all in_range (numbers_in qs) ≡ all in_range (numbers_in ps)
  pub same : all in_range (numbers_in ps) ≡ true → qs ≡ ps

pub alike-itself : (ps : List Part) → Alike ps ps
alike-itself ps = record { words = refl; auxiliaries = refl; rows = refl; fits = refl; same = λ e. refl }

-- with the same parts after them
pub alike_then : {ps qs : List Part} → Alike ps qs → (rs : List Part) → Alike (ps ++ rs) (qs ++ rs)
alike_then {ps} {qs} h rs = record {
  words = omega (arith, h.words, ap length (words_append ps rs), ap length (words_append qs rs), length-append (words_in ps) (words_in rs), length-append (words_in qs) (words_in rs));
  auxiliaries = omega (arith, h.auxiliaries, auxiliaries-append ps rs, auxiliaries-append qs rs);
  rows = omega (arith, h.rows, rows_append ps rs, rows_append qs rs);
  fits = fitting qs ∙ ap (λ b. b && all in_range (numbers_in rs)) h.fits ∙ sym (fitting ps);
  same = λ e. ap (λ l. l ++ rs) (h.same (both_true _ _ (sym (fitting ps) ∙ e)).0);
}
  where
    fitting : (ps : List Part) → all in_range (numbers_in (ps ++ rs)) ≡ (all in_range (numbers_in ps) && all in_range (numbers_in rs))
    fitting ps = ap (all in_range) (numbers-append ps rs) ∙ all_append in_range (numbers_in ps) (numbers_in rs)

pub went-alike : {s r : Laid} {o o' : List ℕ} {ps qs : List Part} → Alike ps qs → Appends s r o o' qs → AppendsFitting s r o o' ps
went-alike {s} {r} {o} {o'} {ps} {qs} h w = record {
  counted = record {
    words = w.words ∙ ap (λ n. s.words + n) h.words;
    auxiliaries = w.auxiliaries ∙ ap (λ n. s.auxiliaries + n) h.auxiliaries;
    rows = w.rows ∙ ap (λ n. s.rows + n) h.rows;
    outside = w.outside ∙ ap (λ b. some_outside s || not b) h.fits;
  };
  over = λ e. w.over ∙ ap (λ l. overlay o s.words (words_in l)) (h.same e);
}

pub went-fitting : {s r : Laid} {o o' : List ℕ} {ps : List Part} → Appends s r o o' ps → AppendsFitting s r o o' ps
went-fitting {s} {r} {o} {o'} {ps} w = went-alike (alike-itself ps) w
