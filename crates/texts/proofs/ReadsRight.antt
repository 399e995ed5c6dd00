-- What the call says of right texts: 19, 20 or 21 exactly where a text is not right.
use Rattle.std.proofs.Common.{◌≡◌, refl, sym, ap, ◌⊎◌, inl, inr, Bool, true, false, List, [], ◌∷◌, ℕ, zero, suc, ◌-◌, ◌<◌, ◌≤◌, arith, eqb, ltb, length, take}
use Rattle.integers.specs.Choice.{◌if◌else◌}
use Rattle.words.specs.Word.{in_range, word, number_word}
use Rattle.words.specs.Answer.{Answer, written, refused_or, refusal_number, ◌else_answer◌}
use Rattle.words.specs.Refusal.{◌at_place◌, accepted, fault_or, ◌else_refuse◌, room_fault}
use Rattle.words.specs.Refusals.{Refusal}
use Rattle.words.proofs.Overlay.{front-over}
use Rattle.tokens.specs.Token.{Token, tokens, end_of}
use Rattle.tokens.proofs.Lexing.{lexes}
use Rattle.names.specs.Name.{is_word, variable_of}
use Rattle.grammar.specs.Value.{value_of}
use Rattle.grammar.specs.Form.{Form, Missing, One, Many, argument_form}
use Rattle.grammar.specs.Grammar.{TokenStep, Due, Item, Domain, Dots, Upper, Colon, Name, Semicolon, Builtin, Opening, Argument, Next, Inside, Satisfy, gives, fitting, of_sort, name_step, number_step, single_step, argument_step, step}
use Rattle.texts.specs.Text.{fault_from, tokens_fault, tokens_words, words_fault, text_fault, read_text, text_read}
use Rattle.texts.specs.RightText.{RightText, ReadsRight}
use Rattle.texts.proofs.ModelWords.{no_fault, wrote}
use Rattle.texts.proofs.RightItems.{right-text}
use Rattle.texts.proofs.RightRead.{right-read}

-- ---- the faults of tokens are 19 to 21

abbrev Late : ℕ → Type 0
Late f = (f ≡ 0) ⊎ (19 ≤ f)

late-if : (b : Bool) (x y : TokenStep) → Late x.fault → Late y.fault → Late (x if b else y).fault
late-if true x y h k = h
late-if false x y h k = k

late-fitting : (b : Bool) (w : ℕ) (next : Due) → Late (fitting b w next).fault
unfolding fitting gives
late-fitting true w next = inl refl
late-fitting false w next = inr (omega arith)

late-sort : (sort s : ℕ) (right : Bool) (number w : ℕ) (next : Due) → 19 ≤ number → Late (of_sort sort s right number w next).fault
unfolding of_sort gives
late-sort sort s right number w next l = go (eqb s sort) right
  where
    go : (a r : Bool) → Late ((0 if r else number) if a else 19)
    go true true = inl refl
    go true false = inr l
    go false r = inr (omega arith)

late-number : (k : ℕ) (t : Token) (next : Due) → Late (number_step k t next).fault
unfolding number_step
late-number k t next = late-sort 1 t.sort (in_range (value_of t.spelling)) 21 (number_word k (value_of t.spelling)) next (omega arith)

late-name : (s : ℕ) (right : Bool) (w : ℕ) (next : Due) → Late (name_step s right w next).fault
unfolding name_step
late-name s right w next = late-sort 2 s right 20 w next (omega arith)

module _ (all : List Token) where
  late-single : (sort : ℕ) (t : Token) (next : Due) → Late (single_step all sort t next).fault
  unfolding single_step
  late-single sort t next = late-if (eqb sort 1) _ _ (late-number 6 t next) (late-name t.sort (ltb 0 (variable_of all t)) (word 5 (variable_of all t - 1)) next)

  late-argument : (f : Form) (c k n : ℕ) (t : Token) (ts : List Token) → Late (argument_step f all c k n t ts).fault
  unfolding argument_step
  late-argument Missing c k n t ts = late-fitting false 0 (Semicolon 1)
  late-argument (One sort) c k n t ts = late-single sort t (Next c k n)
  late-argument (Many opening element closing second) c k n t ts = late-if second _ _ (late-fitting _ _ _) (late-fitting _ _ _)

  late-step : (g : Due) (t : Token) (ts : List Token) → Late (step all g t ts).fault
  unfolding step
  late-step (Item stage) t ts = late-if (is_word "var" t) _ _ (late-fitting _ _ _) (late-if (is_word "constraint" t) _ _ (late-fitting _ _ _) (late-if (is_word "solve" t) _ _ (late-fitting _ _ _) (late-fitting _ _ _)))
  late-step Domain t ts = late-if (is_word "bool" t) _ _ (late-fitting _ _ _) (late-number 1 t Dots)
  late-step Dots t ts = late-fitting _ _ _
  late-step Upper t ts = late-number 2 t Colon
  late-step Colon t ts = late-fitting _ _ _
  late-step Name t ts = late-name _ _ _ _
  late-step (Semicolon stage) t ts = late-fitting _ _ _
  late-step Builtin t ts = late-name _ _ _ _
  late-step (Opening c) t ts = late-fitting _ _ _
  late-step (Argument c k n) t ts = late-argument (argument_form c k) c _ n t ts
  late-step (Next c k n) t ts = late-if (eqb t.sort 44) _ _ (late-fitting _ _ _) (late-fitting _ _ _)
  late-step (Inside c k n element closing before) t ts = late-if _ _ _ (late-single element t (Inside c k n element closing element)) (late-fitting _ _ _)
  late-step Satisfy t ts = late-fitting _ _ _

  late-or : (n p : ℕ) (r : Refusal) → Late n → Late r.number → Late (fault_or n p r).number
  late-or zero p r h k = k
  late-or (suc n) p r h k = h

  late-from : (end : ℕ) (g : Due) (ts : List Token) → Late (fault_from all end g ts).number
  unfolding fault_from
  late-from end g [] = late-or (step all g (end_of end) []).fault end accepted (late-step g (end_of end) []) (inl refl)
  late-from end g (t ∷ ts) = late-or (step all g t ts).fault t.place _ (late-step g t ts) (late-from end (step all g t ts).next ts)

-- ---- the answer

module _ (bs : List ℕ) (room : ℕ) where
  abbrev m : ℕ
  m = (tokens_fault (tokens bs) (length bs)).number

  abbrev found : ℕ → ℕ → Bool → Bool → Refusal
  found n p long short =
      let second : Refusal = 1 at_place 0 if long else (16 at_place 0 if short else accepted) in
      fault_or n p second

  -- the number that is answered: the tokens' fault, or 1, 16 or none
  answered : ((m ≡ 0) × (refusal_number (read_text bs room) < 19)) ⊎ ((19 ≤ m) × (19 ≤ refusal_number (read_text bs room)))
  unfolding read_text text_fault words_fault room_fault refusal_number tokens_fault ◌else_refuse◌ ◌else_answer◌
  answered = by m (tokens_fault (tokens bs) (length bs)).place (ltb 8192 (length (tokens_words (tokens bs)))) (ltb room (length (tokens_words (tokens bs)))) (late-from (tokens bs) (length bs) (Item 0) (tokens bs))
    where
      by : (n p : ℕ) (long short : Bool) → Late n →
          ((n ≡ 0) × (refusal_number (refused_or (found n p long short).number (found n p long short).place (written (length (tokens_words (tokens bs))))) < 19))
          ⊎ ((19 ≤ n) × (19 ≤ refusal_number (refused_or (found n p long short).number (found n p long short).place (written (length (tokens_words (tokens bs)))))))
      by zero p true short h = inl (refl, omega arith)
      by zero p false true h = inl (refl, omega arith)
      by zero p false false h = inl (refl, omega arith)
      by (suc n) p long short (inl e) = absurd (omega arith)
      by (suc n) p long short (inr l) = inr (l, l)

  none-found : m ≡ 0 → tokens_fault (tokens bs) (length bs) ≡ accepted
  unfolding tokens_fault
  none-found e = no_fault (tokens bs) (length bs) (Item 0) (tokens bs) e

  is-right : refusal_number (read_text bs room) < 19 → (ws : List ℕ) × RightText ws (tokens bs)
  is-right l = go answered
    where
      go : ((m ≡ 0) × (refusal_number (read_text bs room) < 19)) ⊎ ((19 ≤ m) × (19 ≤ refusal_number (read_text bs room))) → (ws : List ℕ) × RightText ws (tokens bs)
      go (inl h) = (tokens_words (tokens bs), right-text bs (none-found h.0))
      go (inr h) = absurd (omega (arith, h.1, l))

  is-wrong : 19 ≤ refusal_number (read_text bs room) → (ws : List ℕ) → RightText ws (tokens bs) → ⊥
  is-wrong l ws r = go answered
    where
      go : ((m ≡ 0) × (refusal_number (read_text bs room) < 19)) ⊎ ((19 ≤ m) × (19 ≤ refusal_number (read_text bs room))) → ⊥
      go (inl h) = omega (arith, h.1, l)
      go (inr h) = omega (arith, h.0, ap (λ (f : Refusal). f.number) (right-read bs ws r).0)

module _ (bs out : List ℕ) (n : ℕ) (e : read_text bs (length out) ≡ written n) where
  front-read : take n (text_read bs out) ≡ tokens_words (tokens bs)
  unfolding text_read
  front-read =
      let w = wrote bs out n e in
      rw (w.1.1.1.1, w.1.0) (front-over out (tokens_words (tokens bs)) w.1.1.1.0)

  written-right : RightText (take n (text_read bs out)) (tokens bs)
  written-right = rw front-read (right-text bs (none-found bs (length out) (wrote bs out n e).0))

  right-written : (ws : List ℕ) → RightText ws (tokens bs) → ws ≡ take n (text_read bs out)
  right-written ws r = rw front-read (sym (right-read bs ws r).1)

-- THE LAW, of the call's answer and of what it wrote
pub reads_right : (bs out : List ℕ) → ReadsRight bs (read_text bs (length out)) (text_read bs out)
reads_right bs out = record {
  tokens = tokens bs;
  lexed = (lexes bs (tokens bs)).1 refl;
  no_others = λ ts. (lexes bs ts).0;
  right = is-right bs (length out);
  wrong = is-wrong bs (length out);
  words = written-right bs out;
  no_other_words = right-written bs out;
}

pub right_of : (bs before : List ℕ) {after : List ℕ} {answer : Answer} → answer ≡ read_text bs (length before) → after ≡ text_read bs before → ReadsRight bs answer after
right_of bs before e f = rw (e, f) (reads_right bs before)
