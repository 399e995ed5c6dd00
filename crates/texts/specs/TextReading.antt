-- What reading a part of a text gives: what is due after it, the words that are written, the names; and what reading token by token answers.
use Rattle.std.specs.Prelude.{List, [], ◌∷◌, ◌++◌, ◌≡◌, Bool, true, false, ◌||◌, ℕ, ◌+◌, ◌-◌, ◌≤◌, eqb, length, Option, Some, None, Result, IfOk}
use Rattle.integers.specs.Choice.{◌if◌else◌}
use Rattle.words.specs.Kind as Kind
use Rattle.words.specs.Fault as Fault
use Rattle.words.specs.Word.{word}
use Rattle.words.specs.Overlay.{overlay}
use Rattle.words.specs.Refusal.{◌at_place◌, fault_or}
use Rattle.words.specs.Refusals.{Refusal}
use Rattle.words.specs.Faults.{fault_number, refusal_of}
use Rattle.words.specs.declared.fault.Refusal as error
use Rattle.tokens.specs.Token.{tokens}
use Rattle.tokens.specs.Unread.{unread}
use Rattle.tokens.specs.declared.Span.{Span}
use Rattle.symbols.specs.Symbol.{table_of, Latest, Tabled}
use Rattle.symbols.specs.declared.Symbols.{Symbols}
use Rattle.grammar.specs.Brackets.{length_from}
use Rattle.grammar.specs.Grammar.{Due, TokenStep, Inside, Next}
use Rattle.grammar.specs.Machine.{opening_of, element_of, closing_of, due_of, opened}
use Rattle.grammar.specs.declared.form.Bracketed.{Bracketed}
use Rattle.grammar.specs.declared.form.Bracketed.TheVariants.{Parallel}
use Rattle.grammar.specs.declared.due.ArgumentPlace.{ArgumentPlace}
use Rattle.grammar.specs.declared.due.ListPlace.{ListPlace}
use Rattle.grammar.specs.declared.due.Due.TheVariants as due
use Rattle.texts.specs.Text.{fault_from, words_from, tokens_fault, tokens_words}
use Rattle.texts.specs.declared.written.Written.{Written}

-- the words that a token writes, one or none
abbrev pub one_or_none : Option ℕ → List ℕ
one_or_none None = []
one_or_none (Some w) = w ∷ []

-- words after those that were written
pub record Adds (old new : Written) (ws : List ℕ) : Type 0 where
  pub list : new.list.now ≡ overlay old.list.now old.count ws
  pub count : new.count ≡ old.count + length ws

-- the names up to a place of a text that follows no colon: k are declared
pub record Known (bs : List ℕ) (i k : ℕ) (s : Symbols) : Type 0 where
  pub tabled : Tabled bs i k false (table_of s)
  pub latest : Latest bs i s.declared

-- from place i on, where `due` is due, there is no fault up to place j, where `next` is due, and these words
pub record Reads (bs : List ℕ) (i : ℕ) (due : Due) (ws : List ℕ) (j : ℕ) (next : Due) : Type 0 where
  pub faults : fault_from (tokens bs) (length bs) due (unread bs i) ≡ fault_from (tokens bs) (length bs) next (unread bs j)
  pub words : words_from (tokens bs) due (unread bs i) ≡ ws ++ words_from (tokens bs) next (unread bs j)

-- from place i on, where `due` is due, this is the first fault
abbrev pub Fails : List ℕ → ℕ → Due → error.Refusal → Type 0
Fails bs i due e = fault_from (tokens bs) (length bs) due (unread bs i) ≡ fault_number e.fault at_place e.place

-- what is due after the opening bracket of a list or set
abbrev pub inside : Bracketed → ℕ → ℕ → ℕ → Due
inside l c k n = Inside c k n (element_of l) (closing_of l) (opening_of l)

-- 1 more than the length of a list from place i on, 0 where the grammar breaks inside it
abbrev pub length_at : List ℕ → Bracketed → ℕ → ℕ
length_at bs l i = length_from (element_of l) (closing_of l) (opening_of l) 0 (unread bs i)

-- from place i on, after the opening bracket, a list or set is read up to place j, whatever argument it stands before: its words were written, one for each element
pub record Listed (bs : List ℕ) (l : Bracketed) (i : ℕ) (old new : Written) (j : ℕ) : Type 0 where
  pub words : List ℕ
  pub adds : Adds old new words
  pub reads : (c k n : ℕ) → Reads bs i (inside l c k n) words j (Next c k n)
  pub count : length_at bs l i ≡ length words + 1
  pub onward : i ≤ j
  pub ends : j ≤ length bs
  pub few : new.count ≤ j

-- or it has a fault
abbrev pub ListFails : List ℕ → Bracketed → ℕ → error.Refusal → Type 0
ListFails bs l i e = (c k n : ℕ) → Fails bs i (inside l c k n) e

-- the same, with the length word before its words
pub record Counted (bs : List ℕ) (l : Bracketed) (i : ℕ) (old new : Written) (r : ℕ × ℕ) : Type 0 where
  pub words : List ℕ
  pub adds : Adds old new (word Kind.number r.1 ∷ words)
  pub reads : (c k n : ℕ) → Reads bs i (inside l c k n) words r.0 (Next c k n)
  pub count : length_at bs l i ≡ r.1 + 1
  pub onward : i ≤ r.0
  pub ends : r.0 ≤ length bs
  pub few : new.count ≤ r.0

-- whether the second of parallel lists is as long as the first, or the grammar breaks inside it
abbrev pub as_long_ahead : List ℕ → ℕ → ℕ → Bool
as_long_ahead bs i first = eqb (length_at bs Parallel i) 0 || eqb (length_at bs Parallel i - 1) first

-- the second of parallel lists has a fault, or is of another length, which is a fault at its opening bracket
pub record SecondFails (bs : List ℕ) (first : ℕ) (t : Span) (e : error.Refusal) : Type 0 where
  pub inside : as_long_ahead bs t.stop first ≡ true → ListFails bs Parallel t.stop e
  pub before : as_long_ahead bs t.stop first ≡ false → (fault_number e.fault ≡ Fault.breaks_grammar) × (e.place ≡ t.place)

-- the first fault of a text from a token on that has a step, and its words from there on
abbrev pub fault_after : List ℕ → Span → TokenStep → Refusal
fault_after bs t s = fault_or s.fault t.place (fault_from (tokens bs) (length bs) s.next (unread bs t.stop))

abbrev pub words_after : List ℕ → Span → TokenStep → List ℕ
words_after bs t s = let rest = words_from (tokens bs) s.next (unread bs t.stop) in rest if eqb s.word 0 else s.word ∷ rest

-- from its opening bracket on, a list or set is read up to a place, where the end of the argument is due
pub record ArgumentRead (bs : List ℕ) (l : ListPlace) (t : Span) (old new : Written) (r : ℕ × ArgumentPlace) : Type 0 where
  pub words : List ℕ
  pub adds : Adds old new words
  pub faults : fault_after bs t (opened l bs t) ≡ fault_from (tokens bs) (length bs) (due_of (due.Next r.1)) (unread bs r.0)
  pub reads : words_after bs t (opened l bs t) ≡ words ++ words_from (tokens bs) (due_of (due.Next r.1)) (unread bs r.0)
  pub onward : t.stop ≤ r.0
  pub ends : r.0 ≤ length bs
  pub few : new.count ≤ r.0

pub record ReadsTokens (bs before : List ℕ) (r : Result ℕ error.Refusal) (out : List ℕ) : Type 0 where
  pub fault : refusal_of r ≡ tokens_fault (tokens bs) (length bs)
  pub words : IfOk r (λ n. (n ≡ length (tokens_words (tokens bs))) × (out ≡ overlay before 0 (tokens_words (tokens bs))))
  pub few : IfOk r (λ n. n ≤ length bs)
