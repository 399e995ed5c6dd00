-- Reading a part of a text after another one, a token after another one, and the words and names with it; what each outcome of the reader's loop gives. For `read_tokens` and the functions below it.
use Rattle.std.proofs.Common.{◌≡◌, refl, sym, ap, ◌∙◌, List, [], ◌∷◌, ◌++◌, append-nil, append_assoc, ℕ, ◌<◌, ◌≤◌, arith, eqb, length, length-append, ne_eqb, Option, None, Some, Ok, Err}
use Rattle.std.specs.Prelude.{IfSome, false}
use Rattle.words.proofs.Overlay.{overlay-none, overlay-append}
use Rattle.words.specs.Faults.{fault_number}
use Rattle.words.specs.Refusal.{◌at_place◌, fault_or, accepted}
use Rattle.words.specs.declared.fault.Refusal as error
use Rattle.words.proofs.Faulty.{fault-refuses}
use Rattle.tokens.specs.Token.{tokens, end_of}
use Rattle.tokens.specs.Sorts.{sort_number}
use Rattle.tokens.specs.Unread.{unread, spanned, Stands, Met}
use Rattle.tokens.specs.declared.Span.{Span}
use Rattle.symbols.specs.Symbol.{table_of, Latest, Indexed}
use Rattle.symbols.specs.declared.Symbols.{Symbols}
use Rattle.symbols.proofs.Entries.{none_new}
use Rattle.symbols.proofs.Reached.{index-here, declares, latest-here, latest-next, next-table}
use Rattle.grammar.specs.Grammar.{step, TokenStep, Due, Item}
use Rattle.grammar.specs.Machine.{word_or_none, opening_of, due_of, opened}
use Rattle.grammar.specs.declared.form.Bracketed.{Bracketed}
use Rattle.grammar.specs.declared.form.Bracketed.TheVariants as b
use Rattle.grammar.specs.declared.due.ArgumentPlace.{ArgumentPlace}
use Rattle.grammar.specs.declared.due.ListPlace.{ListPlace}
use Rattle.grammar.specs.declared.due.Due.TheVariants as d
use Rattle.grammar.proofs.End.{last}
use Rattle.texts.specs.TextReading.{one_or_none, Adds, Known, Reads, Fails, fault_after, words_after, ArgumentRead, ReadsTokens}
use Rattle.texts.specs.Text.{fault_from, words_from, tokens_fault, tokens_words}
use Rattle.texts.specs.declared.written.Written.{Written}

-- ---- words after words

pub adds-none : (w : Written) → Adds w w []
adds-none w = record { list = sym (overlay-none w.list.now w.count); count = omega arith }

pub adds-on : {a b c : Written} {ws vs : List ℕ} → Adds a b ws → Adds b c vs → Adds a c (ws ++ vs)
adds-on {a} {b} {c} {ws} {vs} r s = record {
  list = s.list ∙ rw (r.list, r.count) (overlay-append a.list.now a.count ws vs);
  count = omega (arith, r.count, s.count, length-append ws vs);
}

pub most-one : (w : Option ℕ) → length (one_or_none w) ≤ 1
most-one None = omega arith
most-one (Some w) = omega arith

-- ---- a part after a part

pub reads-on : {bs : List ℕ} {i j k : ℕ} {a b c : Due} {ws vs : List ℕ} → Reads bs i a ws j b → Reads bs j b vs k c → Reads bs i a (ws ++ vs) k c
reads-on {bs} {k = k} {c = c} {ws = ws} {vs = vs} r s = record {
  faults = r.faults ∙ s.faults;
  words = r.words ∙ ap (λ l. ws ++ l) s.words ∙ sym (append_assoc ws vs (words_from (tokens bs) c (unread bs k)));
}

pub fails-on : {bs : List ℕ} {i j : ℕ} {a b : Due} {ws : List ℕ} (e : error.Refusal) → Reads bs i a ws j b → Fails bs j b e → Fails bs i a e
fails-on e r f = r.faults ∙ f

-- ---- a token

module _ {bs : List ℕ} {i : ℕ} (due : Due) {t : Span} (m : Met bs i t) where
  abbrev pub met : TokenStep
  met = step (tokens bs) due (spanned bs t) (unread bs t.stop)

  pub fault-at : fault_from (tokens bs) (length bs) due (unread bs i) ≡ fault_after bs t met
  unfolding fault_from spanned
  fault-at = rw m.found refl

  pub words-at : words_from (tokens bs) due (unread bs i) ≡ words_after bs t met
  unfolding words_from spanned
  words-at = rw m.found refl

  module _ {next : Due} where
    pub reads-none : met ≡ record { fault = 0; word = 0; next = next } → Reads bs i due [] t.stop next
    reads-none e = record { faults = fault-at ∙ rw e refl; words = words-at ∙ rw e refl }

    pub reads-word : {w : ℕ} → met ≡ record { fault = 0; word = w; next = next } → 0 < w → Reads bs i due (w ∷ []) t.stop next
    reads-word {w} e h = record { faults = fault-at ∙ rw e refl; words = words-at ∙ rw (e, ne_eqb w 0 (λ z. omega (arith, z, h))) refl }

    pub reads-step : (w : Option ℕ) → met ≡ record { fault = 0; word = word_or_none w; next = next } → IfSome w (λ x. 0 < x) → Reads bs i due (one_or_none w) t.stop next
    reads-step None e h = reads-none e
    reads-step (Some w) e h = reads-word e h

  pub fails-here : (e : error.Refusal) → met.fault ≡ fault_number e.fault → e.place ≡ t.place → Fails bs i due e
  fails-here e f p = fault-at ∙ rw (f, p) (fault-refuses e.fault t.place _)

-- ---- the names, where no name is declared

module _ {bs : List ℕ} {i k : ℕ} {s : Symbols} (n : Known bs i k s) {t : Span} (m : Met bs i t) where
  pub index-on : Indexed bs t.stop (table_of s)
  index-on = none_new (declares n.tabled.reached m) (index-here n.tabled m)

  pub latest-on : Latest bs t.stop s.declared
  latest-on = latest-next false (omega (arith, m.longer)) (declares n.tabled.reached m) (latest-here n.tabled.reached m n.latest) refl

  pub known-on : {new : Symbols} → eqb (sort_number t.sort) 58 ≡ false → Indexed bs t.stop (table_of new) → Latest bs t.stop new.declared → Known bs t.stop k new
  known-on e x l = record { tabled = rw e at (next-table n.tabled m refl x); latest = l }

-- ---- the reader's loop: what is written is what the text writes up to place i, where `due` is due

pub record Left (bs : List ℕ) (old now : Written) (i : ℕ) (due : Due) : Type 0 where
  pub words : List ℕ
  pub adds : Adds old now words
  pub reads : Reads bs 0 (Item 0) words i due
  pub ends : i ≤ length bs
  pub few : now.count ≤ i

pub begin : (bs : List ℕ) (w : Written) → w.count ≡ 0 → Left bs w w 0 (Item 0)
begin bs w z = record { words = []; adds = adds-none w; reads = record { faults = refl; words = refl }; ends = omega arith; few = omega (arith, z) }

from-start : (bs : List ℕ) → (fault_from (tokens bs) (length bs) (Item 0) (unread bs 0) ≡ tokens_fault (tokens bs) (length bs)) × (words_from (tokens bs) (Item 0) (unread bs 0) ≡ tokens_words (tokens bs))
unfolding unread tokens tokens_fault tokens_words
from-start bs = (refl, refl)

module _ {bs : List ℕ} {old now : Written} {i : ℕ} {due : Due} (l : Left bs old now i due) where
  pub on : {new : Written} {ws : List ℕ} {j : ℕ} {next : Due} → Adds now new ws → Reads bs i due ws j next → j ≤ length bs → new.count ≤ j → Left bs old new j next
  on {ws = ws} a r e f = record { words = l.words ++ ws; adds = adds-on l.adds a; reads = reads-on l.reads r; ends = e; few = f }

  pub stop-reads : (out : List ℕ) (e : error.Refusal) → Fails bs i due e → ReadsTokens bs old.list.now (Err e) out
  stop-reads out e f = record { fault = sym (sym (from-start bs).0 ∙ l.reads.faults ∙ f); words = tt; few = tt }

  -- the text ends here
  module _ (q : unread bs i ≡ []) where
    fault-end : tokens_fault (tokens bs) (length bs) ≡ fault_or (step (tokens bs) due (end_of (length bs)) []).fault (length bs) accepted
    unfolding fault_from
    fault-end = sym (from-start bs).0 ∙ l.reads.faults ∙ rw q refl

    words-end : tokens_words (tokens bs) ≡ l.words
    unfolding words_from
    words-end = sym (from-start bs).1 ∙ l.reads.words ∙ rw q (append-nil l.words)

    pub ends-well : old.count ≡ 0 → accepted ≡ fault_or (step (tokens bs) due (end_of (length bs)) []).fault (length bs) accepted → ReadsTokens bs old.list.now (Ok now.count) now.list.now
    ends-well z e = record {
      fault = e ∙ sym fault-end;
      words = (rw words-end (omega (arith, l.adds.count, z)), rw words-end (rw z at l.adds.list));
      few = omega (arith, l.few, l.ends);
    }

    pub ends-early : (out : List ℕ) (x : error.Refusal) → fault_number x.fault at_place x.place ≡ fault_or (step (tokens bs) due (end_of (length bs)) []).fault (length bs) accepted → ReadsTokens bs old.list.now (Err x) out
    ends-early out x e = record { fault = e ∙ sym fault-end; words = tt; few = tt }

-- a list or set is read at its opening bracket, or has a fault
module _ {bs : List ℕ} {i : ℕ} (due : Due) {t : Span} (m : Met bs i t) (l : ListPlace) (e : met due m ≡ opened l bs t) where
  pub argument-reads : {old new : Written} {r : ℕ × ArgumentPlace} (h : ArgumentRead bs l t old new r) → Reads bs i due h.words r.0 (due_of (d.Next r.1))
  argument-reads h = record { faults = fault-at due m ∙ rw e h.faults; words = words-at due m ∙ rw e h.reads }

  pub argument-fails : (x : error.Refusal) → fault_after bs t (opened l bs t) ≡ fault_number x.fault at_place x.place → Fails bs i due x
  argument-fails x f = fault-at due m ∙ rw e f

-- its bracket is no colon
pub opening-colon : (l : Bracketed) {s : ℕ} → s ≡ opening_of l → eqb s 58 ≡ false
opening-colon b.Numbers e = rw e refl
opening-colon b.Variables e = rw e refl
opening-colon b.Set e = rw e refl
opening-colon b.Parallel e = rw e refl

-- a token that is met stands in the text
pub stands : {bs : List ℕ} {i : ℕ} {t : Span} → Met bs i t → Stands bs t
stands m = record { onward = omega (arith, m.longer); inside = m.inside; some = λ e. m.longer }

-- and so does the end of the text, met as a token
pub last-stands : (bs : List ℕ) → Stands bs (last bs)
last-stands bs = record { onward = omega arith; inside = omega arith; some = λ e. absurd (omega (arith, e)) }
