-- The reader of texts follows the reader of models: what is due in the printed text goes with what is due in the words.
use Rattle.std.proofs.Common.{◌≡◌, refl, ◌∙◌, Bool, true, false, List, [], ◌∷◌, ◌++◌, append_assoc, ℕ, suc, ◌+◌, ◌<◌, ◌≤◌, arith, eqb, length, eqb-true}
use borrow.Author.Tests.{eqb-false}
use Rattle.integers.specs.Choice.{◌if◌else◌}
use Rattle.words.specs.Word.{payload, signed}
use Rattle.decimals.specs.Decimal.{numeral}
use Rattle.models.specs.Shape as Shape
use Rattle.models.specs.Reading.{fault_end, ended}
use Rattle.models.specs.declared.Due.{Due as WordsDue}
use Rattle.models.specs.declared.Due.TheVariants as Words
use Rattle.models.proofs.Sound.{Sound, reading}
use Rattle.tokens.specs.Byte.{front, in_name, is_digit}
use Rattle.tokens.specs.Token.{Token, tokens_from}
use Rattle.grammar.specs.Form.{argument_form, Many}
use Rattle.grammar.specs.Grammar as Grammar
use Rattle.grammar.specs.Grammar.{fitting, gives, Due, Item, Upper, Argument, Next, Inside}
use Rattle.names.specs.Name.{is_word}
use Rattle.texts.specs.Text.{fault_from, words_from}
use Rattle.printing.specs.ModelText.{variable_name, closed, argument_end, text_from}
use Rattle.printing.proofs.Spelled.{comma, closing, ends-name, no_digit}
use Rattle.printing.proofs.Numerals.{named}
use Rattle.printing.proofs.Steps.{Reads}
use Rattle.printing.proofs.Events.{ListOf, at-line, at-semicolon, at-comma, at-closing, at-variable, at-number}
use Rattle.printing.proofs.Aligned.{Aligned, ends, is-variable, is-number}
use Rattle.printing.proofs.Turns.{alone-kind, alone-declared, alone-turn, amount_is, amount_turn}

-- what follows an argument ends a name and a number
argument_ends_name : (code k : ℕ) (ys : List ℕ) → in_name (front (argument_end code k ++ ys)) ≡ false
unfolding argument_end
argument_ends_name code k ys = go (eqb (Shape.argument code k) 0)
  where
    go : (b : Bool) → in_name (front ((41 ∷ 59 ∷ 10 ∷ [] if b else 44 ∷ []) ++ ys)) ≡ false
    go true = ends-name closing _
    go false = ends-name comma _

argument_ends_number : (code k : ℕ) (ys : List ℕ) → is_digit (front (argument_end code k ++ ys)) ≡ false
argument_ends_number code k ys = no_digit _ (argument_ends_name code k ys)

-- after v variables, of which the names of the first m are declared
pub data Goes : ℕ → ℕ → WordsDue → Due → Type 0 where
  start : {v : ℕ} → Goes v v Words.Start (Item 0)
  upper : {v l : ℕ} → Goes (suc v) v (Words.Upper l) Upper
  argument-due : {v t code k j n : ℕ} → 1 ≤ Shape.argument code k → Aligned code k j → Goes v v (Words.Arguments 0 0 t code k) (Argument code j n)
  done : {v t code k : ℕ} → Shape.argument code k ≡ 0 → Goes v v (Words.Arguments 0 0 t code k) (Item 1)
  -- in a list of numbers, in the first and the second of parallel lists, in a list of variables
  numbers : {v m t code k j n o c before : ℕ} → ListOf o c 1 false → closed code ≡ c ∷ [] → Aligned code k j → eqb before 1 ≡ false → Goes v v (Words.Arguments (suc m) 0 t code k) (Inside code j n 1 c before)
  parallel : {v m t code k j n before : ℕ} → argument_form code j ≡ Many 91 2 93 true → closed code ≡ 93 ∷ [] → Aligned code k (j + 1) → 1 ≤ t → eqb before 1 ≡ false →
      Goes v v (Words.Arguments (suc m) (suc n) t code k) (Inside code j (suc n) 1 93 before)
  variables : {v m t code k j n before : ℕ} → Aligned code k j → 1 ≤ t → eqb before 2 ≡ false → Goes v v (Words.Arguments 0 (suc m) t code k) (Inside code j n 2 93 before)
  ended-both : {v : ℕ} → Goes v v Words.Ended (Item 2)

module _ (all : List Token) (end : ℕ) where
  -- the words ws are read from their text, wherever it stands and whatever is due
  abbrev pub Read : List ℕ → Type 0
  Read ws = (d : WordsDue) (due : Due) (v m : ℕ) (ts : List ℕ) (c : ℕ) → Goes v m d due → length ts ≡ v → v ≤ 256 → Sound (reading d ts c) ws → (p : ℕ) → Reads all end due p (text_from (reading d ts c) ws) (named m) false ws

  -- ---- no words are left

  nothing : (p m : ℕ) → Reads all end (Item 2) p [] (named m) false []
  unfolding tokens_from fault_from words_from Grammar.step is_word fitting gives
  nothing p m = record { gives = λ h. (refl, refl) }

  pub read_none : Read []
  unfolding ended fault_end text_from
  read_none d due v m ts c start e l h p = absurd (omega arith)
  read_none d due v m ts c upper e l h p = absurd (omega arith)
  read_none d due v m ts c (argument-due s a) e l h p = absurd (omega arith)
  read_none d due v m ts c (done s) e l h p = absurd (omega arith)
  read_none d due v m ts c (numbers o i a b) e l h p = absurd (omega arith)
  read_none d due v m ts c (parallel y i a t b) e l h p = absurd (omega arith)
  read_none d due v m ts c (variables a t b) e l h p = absurd (omega arith)
  read_none d due v m ts c ended-both e l h p = nothing p m

  -- ---- a word, where the words after it are read
  module _ (ws : List ℕ) (rest : Read ws) where
    -- after an argument
    module _ (ts : List ℕ) (c v : ℕ) (e : length ts ≡ v) (few : v ≤ 256) (t code k j n p : ℕ) (a : Aligned code k j) (h : Sound (reading (Words.Arguments 0 0 t code k) ts c) ws) where
      pub after-argument : Reads all end (Next code j n) p (argument_end code k ++ text_from (reading (Words.Arguments 0 0 t code k) ts c) ws) (named v) false ws
      unfolding argument_end
      after-argument = go (eqb (Shape.argument code k) 0) refl
        where
          go : (b : Bool) → eqb (Shape.argument code k) 0 ≡ b → Reads all end (Next code j n) p ((41 ∷ 59 ∷ 10 ∷ [] if b else 44 ∷ []) ++ text_from (reading (Words.Arguments 0 0 t code k) ts c) ws) (named v) false ws
          go true q =
              at-closing all end code j n (ends code k j a (eqb-true _ _ q))
              (at-semicolon all end 1 refl (at-line all end (rest _ _ v v ts c (done (eqb-true _ _ q)) e few h _)))
          go false q = at-comma all end code j n (rest _ _ v v ts c (argument-due (omega (arith, eqb-false (Shape.argument code k) 0 q)) a) e few h _)

    -- one argument
    module _ (ts : List ℕ) (c v : ℕ) (e : length ts ≡ v) (few : v ≤ 256) (t code k j n w p : ℕ) (a : Aligned code k j) (h : Sound (reading (Words.Arguments 0 0 t code k) ts c) (w ∷ ws)) where
      pub one_variable : (s : ℕ) → Shape.argument code k ≡ s → 1 ≤ s → s ≤ 2 → Reads all end (Argument code j n) p (text_from (reading (Words.Arguments 0 0 t code k) ts c) (w ∷ ws)) (named v) false (w ∷ ws)
      one_variable s q l m =
          let turn = alone-turn ts c t code k w ws h s q l m in
          let g = is-variable code k j a s q l m in
          rw (turn.text-is ∙ append_assoc (variable_name (payload w)) (argument_end code (k + 1)) _)
          (at-variable all end (argument_ends_name code (k + 1) _) v w (rw e at (alone-declared ts c t code k w ws h s q l m)) few (alone-kind ts c t code k w ws h s q l m) code j n g.0
          (after-argument ts c v e few 0 code (k + 1) (j + 1) n _ g.1 turn.sound))

      pub one_number : (s : ℕ) → Shape.argument code k ≡ s → 2 < s → s ≤ 4 → Reads all end (Argument code j n) p (text_from (reading (Words.Arguments 0 0 t code k) ts c) (w ∷ ws)) (named v) false (w ∷ ws)
      one_number s q l m =
          let turn = amount_turn ts c t code k w ws h s q (omega arith) l m in
          let amount = amount_is ts c t code k w ws h s q (omega arith) l m in
          let g = is-number code k j a s q l m in
          rw (turn.text-is ∙ append_assoc (numeral (signed w)) (argument_end code (k + 1)) _)
          (at-number all end w amount.range (argument_ends_number code (k + 1) _) code j n g.0 amount.kind-is
          (after-argument ts c v e few 0 code (k + 1) (j + 1) n _ g.1 turn.sound))
