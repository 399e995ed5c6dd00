-- Reading a text token by token, its words laid over a list: what is left at a place.
use Rattle.std.proofs.Common.{◌≡◌, refl, ap, sym, ◌∙◌, List, ℕ, ◌+◌, ◌≤◌, arith, length}
use Rattle.words.specs.Overlay.{overlay}
use Rattle.words.proofs.Overlay.{length-overlay}
use Rattle.tokens.specs.Token.{tokens}
use Rattle.tokens.specs.Unread.{unread}
use Rattle.grammar.specs.Grammar.{Due, Item}
use Rattle.texts.specs.Text.{fault_from, words_from, tokens_fault, tokens_words}

-- What is left of a text is read from place i on, where `due` is due and n words are laid over the list.
pub record Left (bs before out : List ℕ) (i n : ℕ) (due : Due) : Type 0 where
  pub inside : i ≤ length bs
  pub fewer : n ≤ i
  pub faults : fault_from (tokens bs) (length bs) due (unread bs i) ≡ tokens_fault (tokens bs) (length bs)
  pub count : n + length (words_from (tokens bs) due (unread bs i)) ≡ length (tokens_words (tokens bs))
  pub words : overlay out n (words_from (tokens bs) due (unread bs i)) ≡ overlay before 0 (tokens_words (tokens bs))

pub begin : (bs out : List ℕ) → Left bs out out 0 0 (Item 0)
unfolding unread tokens tokens_fault tokens_words
begin bs out = record { inside = omega arith; fewer = omega arith; faults = refl; count = omega arith; words = refl }

-- the list keeps its length
pub same-room : {bs before out : List ℕ} {i n : ℕ} {due : Due} → Left bs before out i n due → length out ≡ length before
same-room {bs} {before} {out} {i} {n} {due} l =
    sym (length-overlay out n (words_from (tokens bs) due (unread bs i))) ∙ ap length l.words ∙ length-overlay before 0 (tokens_words (tokens bs))
