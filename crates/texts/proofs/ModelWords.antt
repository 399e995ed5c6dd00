-- The words of a text without a fault are a model's: reading them finds no fault but those that a text leaves to check.
use Rattle.std.proofs.Common.{◌≡◌, refl, sym, ◌∙◌, Bool, true, false, ◌&&◌, ◌||◌, List, [], ◌∷◌, ◌++◌, ℕ, zero, suc, ◌+◌, ◌-◌, ◌≤◌, arith, eqb, ltb, length, get_or, eqb-true, ltb-true, ne_eqb, le-ltb, leb-true, ltb-false, take}
use mathlib.Core.List.{flat_map}
use Rattle.integers.specs.Choice.{◌if◌else◌}
use Rattle.integers.specs.Lists.{any}
use Rattle.integers.proofs.Tests.{false-true}
use Rattle.integers.proofs.Booleans.{both_true}
use Rattle.words.specs.Word.{payload, word, number_word}
use Rattle.words.specs.Refusal.{◌at_place◌, accepted, fault_or, first_fault, ◌else_refuse◌, room_fault}
use Rattle.words.specs.Refusals.{Refusal}
use Rattle.words.specs.Answer.{Answer, written, refused_or, ◌else_answer◌}
use Rattle.words.specs.Overlay.{overlay}
use Rattle.words.proofs.Overlay.{front-over}
use Rattle.words.proofs.Reading.{passed, passed-number, no-fault}
use Rattle.models.specs.Table as Table
use Rattle.models.specs.Table.{Sort}
use Rattle.models.specs.Shape as Shape
use Rattle.models.specs.Reading.{State, after, ended, read_model, read_model_in, fault_end, fault_in, declared, started}
use Rattle.models.specs.InRange.{fault}
use Rattle.models.specs.declared.Due.{Due as Words}
use Rattle.models.specs.declared.Due.TheVariants as words
use Rattle.models.proofs.Sound.{reading}
use Rattle.tokens.specs.Token.{Token, tokens, end_of}
use Rattle.names.specs.Name.{is_word, code_of, variable_of}
use Rattle.grammar.specs.Value.{value_of}
use Rattle.grammar.specs.Brackets.{length_from}
use Rattle.grammar.specs.Form.{Form, Missing, One, Many, in_text, argument_forms, argument_form}
use Rattle.grammar.specs.Grammar.{Due, Item, Domain, Dots, Upper, Colon, Name, Semicolon, Builtin, Opening, Argument, Next, Inside, Satisfy, gives, fitting, of_sort, name_step, number_step, single_step, argument_step, step}
use Rattle.texts.specs.Text.{fault_from, words_from, tokens_fault, tokens_words, words_fault, text_fault, read_text, text_read}
use Rattle.texts.specs.ModelWords.{left_to_check, ModelWords}
use Rattle.texts.proofs.Aligned.{Left, Aligned, aligned, no-argument, some-form, shape-is, form-is, aligned-next, first-form, second-form, aligned-both, missing-form}
use Rattle.texts.proofs.WordTurns.{Turn, Headed, at-start, past-arguments, lower-turn, upper-turn, boolean-turn, constraint-turn, end-turn, integer-turn, boolean-argument, variable-element, number-turn, exponent-turn, number-element, numbers-turn, integers-turn, booleans-turn, parallel-turn}
use Rattle.texts.proofs.TokenSteps.{passes, fits, number-passes, name-passes, single, code-le, ListOf, left_in, InsideStep, element, comma, close, inside-step, no_end, counts}

-- ---- words whose faults are all left to check, from a state on

abbrev pub Fine : State → List ℕ → Type 0
Fine s ws = (p : ℕ) → left_to_check (first_fault fault after ended s p ws).number ≡ true

fine-word : (s : State) (w : ℕ) (ws : List ℕ) → left_to_check (fault s w ws) ≡ true → Fine (after s w) ws → Fine s (w ∷ ws)
unfolding first_fault
fine-word s w ws l f p = go (fault s w ws) l
  where
    go : (n : ℕ) → left_to_check n ≡ true → left_to_check (fault_or n p (first_fault fault after ended (after s w) (p + 1) ws)).number ≡ true
    go zero l = f (p + 1)
    go (suc n) l = l

-- ---- what is due in the text, and in the words

-- the second of parallel lists
abbrev second_list : Form
second_list = Many 91 2 93 true

data Follows (ts : List Token) : Due → Words → Type 0 where
  start : Follows ts (Item 0) words.Start
  domain : Follows ts Domain words.Start
  dots : {l : ℕ} → Follows ts Dots (words.Upper l)
  upper : {l : ℕ} → Follows ts Upper (words.Upper l)
  colon : Follows ts Colon words.Start
  name : Follows ts Name words.Start
  declaration-end : Follows ts (Semicolon 0) words.Start
  more : {t c k : ℕ} → Shape.argument c k ≡ 0 → Follows ts (Item 1) (words.Arguments 0 0 t c k)
  builtin : {d : Words} → Headed d → Follows ts Builtin d
  satisfy : {d : Words} → Headed d → Follows ts Satisfy d
  last : {d : Words} → Headed d → Follows ts (Semicolon 2) d
  over : Follows ts (Item 2) words.Ended
  opening : {c : ℕ} → Aligned c 0 0 → Follows ts (Opening c) (words.Arguments 0 0 0 c 0)
  argument-due : {t c k j n : ℕ} → Aligned c k j → Follows ts (Argument c j n) (words.Arguments 0 0 t c k)
  next-due : {t c k j n : ℕ} → Aligned c k j → Follows ts (Next c j n) (words.Arguments 0 0 t c k)
  constraint-end : {t c k : ℕ} → Shape.argument c k ≡ 0 → Follows ts (Semicolon 1) (words.Arguments 0 0 t c k)
  second-next : {t c k j n : ℕ} → argument_form c j ≡ second_list → Aligned c k (j + 1) → Follows ts (Next c j n) (words.Arguments 0 n t c k)
  second-due : {t c k j n : ℕ} → argument_form c j ≡ second_list → Aligned c k (j + 1) → Follows ts (Argument c j n) (words.Arguments 0 n t c k)
  in-numbers : {t c k j n m cl before : ℕ} → ListOf 1 cl → Aligned c k j → m ≡ left_in 1 cl before ts → Follows ts (Inside c j n 1 cl before) (words.Arguments m 0 t c k)
  in-first : {t c k j n m before : ℕ} → argument_form c j ≡ second_list → Aligned c k (j + 1) → m ≡ left_in 1 93 before ts → Follows ts (Inside c j n 1 93 before) (words.Arguments m n t c k)
  in-variables : {t c k j n m before : ℕ} → Aligned c k j → m ≡ left_in 2 93 before ts → Follows ts (Inside c j n 2 93 before) (words.Arguments 0 m t c k)

numbers-in : ListOf 1 93
numbers-in = record { apart = refl; no-end = refl; no-closing = refl }

set-in : ListOf 1 125
set-in = record { apart = refl; no-end = refl; no-closing = refl }

variables-in : ListOf 2 93
variables-in = record { apart = refl; no-end = refl; no-closing = refl }

module _ (all : List Token) (end : ℕ) where
  record Goal (ts : List Token) (g : Due) (d : Words) : Type 0 where
    fine : (types : List ℕ) (c : ℕ) → fault_from all end g ts ≡ accepted → length (words_from all g ts) ≤ 8192 → Fine (reading d types c) (words_from all g ts)

  -- ---- one token, where the tokens after it are read
  module _ (t : Token) (ts : List Token) (rest : (g : Due) (d : Words) → Follows ts g d → Goal ts g d) where
    -- a token without a fault
    met : {g : Due} {d : Words} →
        ((step all g t ts).fault ≡ 0 → fault_from all end (step all g t ts).next ts ≡ accepted → length (words_from all g (t ∷ ts)) ≤ 8192 → Goal (t ∷ ts) g d) → Goal (t ∷ ts) g d
    unfolding fault_from
    met {g} f = record { fine = λ types c e l. let p = passed (step all g t ts).fault t.place _ e in (f p.0 p.1 l).fine types c e l }

    quiet : {g next : Due} {d : Words} → step all g t ts ≡ passes 0 next → Follows ts next d → Goal (t ∷ ts) g d
    unfolding fault_from words_from
    quiet {g} {next} {d} s f = record { fine = λ types c e l. rw s ((rest next d f).fine types c (rw s at (passed (step all g t ts).fault t.place _ e).1) (rw s at l)) }

    writes : {g next : Due} {d after-it : Words} (w : ℕ) → step all g t ts ≡ passes w next → Turn d w after-it → Follows ts next after-it → Goal (t ∷ ts) g d
    unfolding fault_from words_from fault_in after
    writes {g} {next} {d} {after-it} w s u f = record {
      fine = λ types c e l.
          let z : eqb w 0 ≡ false = ne_eqb w 0 (λ q. omega (arith, u.some, q)) in
          let m : suc (length (words_from all next ts)) ≤ 8192 = rw (s, z) at l in
          let r = (rest next after-it f).fine (types ++ declared w) (c + started w) (rw s at (passed (step all g t ts).fault t.place _ e).1) (omega (arith, m)) in
          rw (s, z) (fine-word (reading d types c) w (words_from all next ts) (u.left (length types) (get_or types (payload w) 0) c) (rw u.after r));
    }

    -- ---- items

    at-item : Goal (t ∷ ts) (Item 0) words.Start
    unfolding step fitting gives
    at-item = go (is_word "var" t) (is_word "constraint" t) (is_word "solve" t) refl refl refl
      where
        go : (a b c : Bool) → is_word "var" t ≡ a → is_word "constraint" t ≡ b → is_word "solve" t ≡ c → Goal (t ∷ ts) (Item 0) words.Start
        go true b c f g h = quiet (rw f) domain
        go false true c f g h = quiet (rw (f, g)) (builtin at-start)
        go false false true f g h = quiet (rw (f, g, h)) (satisfy at-start)
        go false false false f g h = met (λ z m l. false-true ((both_true (eqb t.sort 257) false (fits _ 0 (Item 2) (rw (f, g, h) at z)).0).1))

    at-later : {y c k : ℕ} → Shape.argument c k ≡ 0 → Goal (t ∷ ts) (Item 1) (words.Arguments 0 0 y c k)
    unfolding step fitting gives
    at-later {y} {c} {k} q = go (is_word "var" t) (is_word "constraint" t) (is_word "solve" t) refl refl refl
      where
        go : (a b d : Bool) → is_word "var" t ≡ a → is_word "constraint" t ≡ b → is_word "solve" t ≡ d → Goal (t ∷ ts) (Item 1) (words.Arguments 0 0 y c k)
        go true b d f g h = met (λ z m l. absurd (let x = rw f at z in omega arith))
        go false true d f g h = quiet (rw (f, g)) (builtin (past-arguments q))
        go false false true f g h = quiet (rw (f, g, h)) (satisfy (past-arguments q))
        go false false false f g h = met (λ z m l. false-true ((both_true (eqb t.sort 257) false (fits _ 0 (Item 2) (rw (f, g, h) at z)).0).1))

    at-over : Goal (t ∷ ts) (Item 2) words.Ended
    unfolding step fitting gives
    at-over = go (is_word "var" t) (is_word "constraint" t) (is_word "solve" t) refl refl refl
      where
        go : (a b d : Bool) → is_word "var" t ≡ a → is_word "constraint" t ≡ b → is_word "solve" t ≡ d → Goal (t ∷ ts) (Item 2) words.Ended
        go true b d f g h = met (λ z m l. absurd (let x = rw f at z in omega arith))
        go false true d f g h = met (λ z m l. absurd (let x = rw (f, g) at z in omega arith))
        go false false true f g h = met (λ z m l. absurd (let x = rw (f, g, h) at z in omega arith))
        go false false false f g h = met (λ z m l. quiet (rw (f, g, h) (fits _ 0 (Item 2) (rw (f, g, h) at z)).1) over)

    -- ---- declarations

    at-domain : Goal (t ∷ ts) Domain words.Start
    unfolding step fitting gives
    at-domain = go (is_word "bool" t) refl
      where
        go : (a : Bool) → is_word "bool" t ≡ a → Goal (t ∷ ts) Domain words.Start
        go true f = writes (word 3 0) (rw f) boolean-turn colon
        go false f = met (λ z m l. let p = number-passes 1 t Dots (rw f at z) in writes (number_word 1 (value_of t.spelling)) (rw f p.1) (lower-turn (value_of t.spelling) p.0) dots)

    at-dots : {y : ℕ} → Goal (t ∷ ts) Dots (words.Upper y)
    unfolding step
    at-dots = met (λ z m l. quiet (fits _ 0 Upper z).1 upper)

    at-upper : {y : ℕ} → Goal (t ∷ ts) Upper (words.Upper y)
    unfolding step
    at-upper {y} = met (λ z m l. let p = number-passes 2 t Colon z in writes (number_word 2 (value_of t.spelling)) p.1 (upper-turn y (value_of t.spelling) p.0) colon)

    at-colon : Goal (t ∷ ts) Colon words.Start
    unfolding step
    at-colon = met (λ z m l. quiet (fits _ 0 Name z).1 name)

    at-name : Goal (t ∷ ts) Name words.Start
    unfolding step
    at-name = met (λ z m l. quiet (name-passes t.sort (eqb (variable_of all t) 0) 0 (Semicolon 0) z).1 declaration-end)

    at-declaration-end : Goal (t ∷ ts) (Semicolon 0) words.Start
    unfolding step
    at-declaration-end = met (λ z m l. quiet (fits _ 0 (Item 0) z).1 start)

    -- ---- constraints and the end

    at-builtin : {d : Words} → Headed d → Goal (t ∷ ts) Builtin d
    unfolding step
    at-builtin h = met (λ z m l.
        let p = name-passes t.sort (ltb 0 (code_of t)) (word 4 (code_of t)) (Opening (code_of t)) z in
        writes (word 4 (code_of t)) p.1 (constraint-turn (code_of t) h (omega (arith, ltb-true 0 (code_of t) p.0)) (code-le t)) (opening (aligned (code_of t))))

    at-satisfy : {d : Words} → Headed d → Goal (t ∷ ts) Satisfy d
    unfolding step
    at-satisfy h = met (λ z m l. quiet (fits _ 0 (Semicolon 2) z).1 (last h))

    at-last : {d : Words} → Headed d → Goal (t ∷ ts) (Semicolon 2) d
    unfolding step
    at-last h = met (λ z m l. writes (word 7 0) (fits _ (word 7 0) (Item 2) z).1 (end-turn h) over)

    at-constraint-end : {y c k : ℕ} → Shape.argument c k ≡ 0 → Goal (t ∷ ts) (Semicolon 1) (words.Arguments 0 0 y c k)
    unfolding step
    at-constraint-end q = met (λ z m l. quiet (fits _ 0 (Item 1) z).1 (more q))

    at-opening : {c : ℕ} → Aligned c 0 0 → Goal (t ∷ ts) (Opening c) (words.Arguments 0 0 0 c 0)
    unfolding step
    at-opening {c} a = met (λ z m l. quiet (fits _ 0 (Argument c 0 0) z).1 (argument-due a))

    -- after an argument
    at-next : {y c k j n : ℕ} → Aligned c k j → Goal (t ∷ ts) (Next c j n) (words.Arguments 0 0 y c k)
    unfolding step fitting gives
    at-next {y} {c} {k} {j} {n} a = go (eqb t.sort 44) refl
      where
        go : (b : Bool) → eqb t.sort 44 ≡ b → Goal (t ∷ ts) (Next c j n) (words.Arguments 0 0 y c k)
        go true f = quiet (rw f) (argument-due {n = n} a)
        go false f = met (λ z m l.
            let p = fits _ 0 (Semicolon 1) (rw f at z) in
            quiet (rw f p.1) (constraint-end (no-argument a (leb-true (length (argument_forms c)) j (both_true (eqb t.sort 41) _ p.0).1))))

    second-missing : second_list ≡ Missing → ⊥
    second-missing e = let z : ◌≡◌ {A = ℕ} 0 1 = cc in omega arith

    at-second-next : {y c k j n : ℕ} → argument_form c j ≡ second_list → Aligned c k (j + 1) → Goal (t ∷ ts) (Next c j n) (words.Arguments 0 n y c k)
    unfolding step fitting gives
    at-second-next {y} {c} {k} {j} {n} s a = go (eqb t.sort 44) refl
      where
        go : (b : Bool) → eqb t.sort 44 ≡ b → Goal (t ∷ ts) (Next c j n) (words.Arguments 0 n y c k)
        go true f = quiet (rw f) (second-due s a)
        go false f = met (λ z m l.
            let p = fits _ 0 (Semicolon 1) (rw f at z) in
            absurd (some-form c j second_list s second-missing (leb-true (length (argument_forms c)) j (both_true (eqb t.sort 41) _ p.0).1)))

    -- ---- lists

    at-inside-numbers : {y c k j n m cl before : ℕ} → ListOf 1 cl → Aligned c k j → m ≡ left_in 1 cl before (t ∷ ts) → Goal (t ∷ ts) (Inside c j n 1 cl before) (words.Arguments m 0 y c k)
    at-inside-numbers {y} {c} {k} {j} {n} {m} {cl} {before} i a q = met (λ z r l. go (inside-step all c j n i before t ts z))
      where
        go : InsideStep all c j n i before t ts → Goal (t ∷ ts) (Inside c j n 1 cl before) (words.Arguments m 0 y c k)
        go (element w s o f g) = rw (q ∙ f) (writes w s (number-element y c k (o.number refl) (left_in 1 cl 1 ts) 0) (in-numbers i a refl))
        go (comma b s f g) = quiet s (in-numbers i a (q ∙ f))
        go (close s f g) = rw (q ∙ f) (quiet s (next-due a))

    at-inside-first : {y c k j n m before : ℕ} → argument_form c j ≡ second_list → Aligned c k (j + 1) → m ≡ left_in 1 93 before (t ∷ ts) → Goal (t ∷ ts) (Inside c j n 1 93 before) (words.Arguments m n y c k)
    at-inside-first {y} {c} {k} {j} {n} {m} {before} x a q = met (λ z r l. go (inside-step all c j n numbers-in before t ts z))
      where
        go : InsideStep all c j n numbers-in before t ts → Goal (t ∷ ts) (Inside c j n 1 93 before) (words.Arguments m n y c k)
        go (element w s o f g) = rw (q ∙ f) (writes w s (number-element y c k (o.number refl) (left_in 1 93 1 ts) n) (in-first x a refl))
        go (comma b s f g) = quiet s (in-first x a (q ∙ f))
        go (close s f g) = rw (q ∙ f) (quiet s (second-next x a))

    at-inside-variables : {y c k j n m before : ℕ} → Aligned c k j → m ≡ left_in 2 93 before (t ∷ ts) → Goal (t ∷ ts) (Inside c j n 2 93 before) (words.Arguments 0 m y c k)
    at-inside-variables {y} {c} {k} {j} {n} {m} {before} a q = met (λ z r l. go (inside-step all c j n variables-in before t ts z))
      where
        go : InsideStep all c j n variables-in before t ts → Goal (t ∷ ts) (Inside c j n 2 93 before) (words.Arguments 0 m y c k)
        go (element w s o f g) = rw (q ∙ f) (writes w s (variable-element y c k (o.variable refl) (left_in 2 93 2 ts)) (in-variables a refl))
        go (comma b s f g) = quiet s (in-variables a (q ∙ f))
        go (close s f g) = rw (q ∙ f) (quiet s (next-due a))

    -- ---- arguments

    -- the opening bracket of a list that writes its length
    record Opened (c j n k el cl : ℕ) : Type 0 where
      m : ℕ
      m-is : m ≡ left_in el cl k ts
      few : m ≤ 8192
      is : step all (Argument c j n) t ts ≡ passes (word 6 m) (Inside c (j + 1) m el cl k)

    opened : (c j n op el cl : ℕ) → ListOf el cl → argument_form c j ≡ Many op el cl false → (step all (Argument c j n) t ts).fault ≡ 0 →
        fault_from all end (step all (Argument c j n) t ts).next ts ≡ accepted → length (words_from all (Argument c j n) (t ∷ ts)) ≤ 8192 → Opened c j n op el cl
    unfolding step argument_step words_from
    opened c j n op el cl i s z e l =
        let a = length_from el cl op 0 ts in
        let p = fits (eqb t.sort op) (word 6 (a - 1)) (Inside c (j + 1) (a - 1) el cl op) (rw s at z) in
        let q : step all (Argument c j n) t ts ≡ passes (word 6 (a - 1)) (Inside c (j + 1) (a - 1) el cl op) = rw s p.1 in
        let h = counts all c (j + 1) (a - 1) i end ts op (rw q at e) in
        let b : a - 1 ≡ left_in el cl op ts = omega (arith, h.0 0) in
        let k : length (words_from all (Inside c (j + 1) (a - 1) el cl op) ts) ≤ 8192 = go (word 6 (a - 1)) (words_from all (Inside c (j + 1) (a - 1) el cl op) ts) (rw q at l) in
        record { m = a - 1; m-is = b; few = omega (arith, b, h.1, k); is = q }
      where
        go : (w : ℕ) (ws : List ℕ) → length (ws if eqb w 0 else w ∷ ws) ≤ 8192 → length ws ≤ 8192
        go w ws h = by (eqb w 0) h
          where
            by : (b : Bool) → length (ws if b else w ∷ ws) ≤ 8192 → length ws ≤ 8192
            by true h = h
            by false h = omega arith

    at-argument : {y c k j n : ℕ} (ss : List Sort) → Left c k j ss → Goal (t ∷ ts) (Argument c j n) (words.Arguments 0 0 y c k)
    unfolding step argument_step flat_map in_text
    at-argument {y} {c} {k} {j} {n} [] a = met (λ z m l. false-true (fits false 0 (Semicolon 1) (rw (missing-form a) at z)).0)
    at-argument {y} {c} {k} {j} {n} (Table.integer ∷ ss) a = met (λ z m l.
        let f = form-is a (One 2) refl in
        let s = single all 2 t (Next c (j + 1) n) (rw f at z) in
        writes s.0 (rw f s.1.0) (integer-turn y c k (s.1.1.variable refl) (shape-is a)) (next-due {n = n} (aligned-next a (One 2) refl)))
    at-argument {y} {c} {k} {j} {n} (Table.boolean ∷ ss) a = met (λ z m l.
        let f = form-is a (One 2) refl in
        let s = single all 2 t (Next c (j + 1) n) (rw f at z) in
        writes s.0 (rw f s.1.0) (boolean-argument y c k (s.1.1.variable refl) (shape-is a)) (next-due {n = n} (aligned-next a (One 2) refl)))
    at-argument {y} {c} {k} {j} {n} (Table.number ∷ ss) a = met (λ z m l.
        let f = form-is a (One 1) refl in
        let s = single all 1 t (Next c (j + 1) n) (rw f at z) in
        writes s.0 (rw f s.1.0) (number-turn y c k (s.1.1.number refl) (shape-is a)) (next-due {n = n} (aligned-next a (One 1) refl)))
    at-argument {y} {c} {k} {j} {n} (Table.exponent ∷ ss) a = met (λ z m l.
        let f = form-is a (One 1) refl in
        let s = single all 1 t (Next c (j + 1) n) (rw f at z) in
        writes s.0 (rw f s.1.0) (exponent-turn y c k (s.1.1.number refl) (shape-is a)) (next-due {n = n} (aligned-next a (One 1) refl)))
    at-argument {y} {c} {k} {j} {n} (Table.numbers ∷ ss) a = met (λ z m l.
        let o = opened c j n 91 1 93 numbers-in (form-is a (Many 91 1 93 false) refl) z m l in
        writes (word 6 o.m) o.is (numbers-turn y c k o.m o.few (shape-is a)) (in-numbers numbers-in (aligned-next a (Many 91 1 93 false) refl) o.m-is))
    at-argument {y} {c} {k} {j} {n} (Table.set ∷ ss) a = met (λ z m l.
        let o = opened c j n 123 1 125 set-in (form-is a (Many 123 1 125 false) refl) z m l in
        writes (word 6 o.m) o.is (numbers-turn y c k o.m o.few (shape-is a)) (in-numbers set-in (aligned-next a (Many 123 1 125 false) refl) o.m-is))
    at-argument {y} {c} {k} {j} {n} (Table.integers ∷ ss) a = met (λ z m l.
        let o = opened c j n 91 2 93 variables-in (form-is a (Many 91 2 93 false) refl) z m l in
        writes (word 6 o.m) o.is (integers-turn y c k o.m o.few (shape-is a)) (in-variables (aligned-next a (Many 91 2 93 false) refl) o.m-is))
    at-argument {y} {c} {k} {j} {n} (Table.booleans ∷ ss) a = met (λ z m l.
        let o = opened c j n 91 2 93 variables-in (form-is a (Many 91 2 93 false) refl) z m l in
        writes (word 6 o.m) o.is (booleans-turn y c k o.m o.few (shape-is a)) (in-variables (aligned-next a (Many 91 2 93 false) refl) o.m-is))
    at-argument {y} {c} {k} {j} {n} (Table.parallel ∷ ss) a = met (λ z m l.
        let o = opened c j n 91 1 93 numbers-in (first-form a (Many 91 1 93 false) second_list refl) z m l in
        writes (word 6 o.m) o.is (parallel-turn y c k o.m o.few (shape-is a)) (in-first (second-form a (Many 91 1 93 false) second_list refl) (aligned-both a (Many 91 1 93 false) second_list refl) o.m-is))

    at-second : {y c k j n : ℕ} → argument_form c j ≡ second_list → Aligned c k (j + 1) → Goal (t ∷ ts) (Argument c j n) (words.Arguments 0 n y c k)
    unfolding step argument_step
    at-second {y} {c} {k} {j} {n} s b = met (λ z m l.
        let a = length_from 2 93 91 0 ts in
        let p = fits (eqb t.sort 91 && (eqb a 0 || eqb (a - 1) n)) 0 (Inside c (j + 1) n 2 93 91) (rw s at z) in
        let q : step all (Argument c j n) t ts ≡ passes 0 (Inside c (j + 1) n 2 93 91) = rw s p.1 in
        let h = counts all c (j + 1) n variables-in end ts 91 (rw q at m) in
        quiet q (in-variables b (same a n (left_in 2 93 91 ts) (h.0 0) (both_true (eqb t.sort 91) _ p.0).1)))
      where
        same : (a n m : ℕ) → a ≡ suc (0 + m) → (eqb a 0 || eqb (a - 1) n) ≡ true → n ≡ m
        same a n m e f = go (ne_eqb a 0 (λ z. omega (arith, z, e))) f
          where
            go : eqb a 0 ≡ false → (eqb a 0 || eqb (a - 1) n) ≡ true → n ≡ m
            go g f = omega (arith, eqb-true (a - 1) n (rw g at f), e)

    -- ---- whatever is due
    turn : (g : Due) (d : Words) → Follows (t ∷ ts) g d → Goal (t ∷ ts) g d
    turn g d start = at-item
    turn g d domain = at-domain
    turn g d dots = at-dots
    turn g d upper = at-upper
    turn g d colon = at-colon
    turn g d name = at-name
    turn g d declaration-end = at-declaration-end
    turn g d (more q) = at-later q
    turn g d (builtin h) = at-builtin h
    turn g d (satisfy h) = at-satisfy h
    turn g d (last h) = at-last h
    turn g d over = at-over
    turn g d (opening a) = at-opening a
    turn g d (argument-due a) = at-argument a.sorts a.are
    turn g d (next-due a) = at-next a
    turn g d (constraint-end q) = at-constraint-end q
    turn g d (second-next s a) = at-second-next s a
    turn g d (second-due s a) = at-second s a
    turn g d (in-numbers i a q) = at-inside-numbers i a q
    turn g d (in-first x a q) = at-inside-first x a q
    turn g d (in-variables a q) = at-inside-variables a q

  -- ---- no token is left

  -- no argument is met at the end
  no-argument-there : (c k j n : ℕ) (ss : List Sort) → Left c k j ss → (step all (Argument c j n) (end_of end) []).fault ≡ 0 → ⊥
  unfolding step argument_step single_step number_step name_step of_sort fitting gives flat_map in_text
  no-argument-there c k j n [] a z = let x = rw (missing-form a) at z in omega arith
  no-argument-there c k j n (Table.integer ∷ ss) a z = let x = rw (form-is a (One 2) refl) at z in omega arith
  no-argument-there c k j n (Table.boolean ∷ ss) a z = let x = rw (form-is a (One 2) refl) at z in omega arith
  no-argument-there c k j n (Table.number ∷ ss) a z = let x = rw (form-is a (One 1) refl) at z in omega arith
  no-argument-there c k j n (Table.exponent ∷ ss) a z = let x = rw (form-is a (One 1) refl) at z in omega arith
  no-argument-there c k j n (Table.numbers ∷ ss) a z = let x = rw (form-is a (Many 91 1 93 false) refl) at z in omega arith
  no-argument-there c k j n (Table.set ∷ ss) a z = let x = rw (form-is a (Many 123 1 125 false) refl) at z in omega arith
  no-argument-there c k j n (Table.integers ∷ ss) a z = let x = rw (form-is a (Many 91 2 93 false) refl) at z in omega arith
  no-argument-there c k j n (Table.booleans ∷ ss) a z = let x = rw (form-is a (Many 91 2 93 false) refl) at z in omega arith
  no-argument-there c k j n (Table.parallel ∷ ss) a z = let x = rw (first-form a (Many 91 1 93 false) second_list refl) at z in omega arith

  -- where something is due, the end is a fault
  no-end-there : (g : Due) (d : Words) → Follows [] g d → (step all g (end_of end) []).fault ≡ 0 → (types : List ℕ) (c : ℕ) → Fine (reading d types c) []
  unfolding step argument_step single_step number_step name_step of_sort fitting gives is_word first_fault ended fault_end any
  no-end-there g d start z types c = absurd (omega arith)
  no-end-there g d domain z types c = absurd (omega arith)
  no-end-there g d dots z types c = absurd (omega arith)
  no-end-there g d upper z types c = absurd (omega arith)
  no-end-there g d colon z types c = absurd (omega arith)
  no-end-there g d name z types c = absurd (omega arith)
  no-end-there g d declaration-end z types c = absurd (omega arith)
  no-end-there g d (more q) z types c = absurd (omega arith)
  no-end-there g d (builtin h) z types c = absurd (omega arith)
  no-end-there g d (satisfy h) z types c = absurd (omega arith)
  no-end-there g d (last h) z types c = absurd (omega arith)
  no-end-there g d over z types c = λ p. refl
  no-end-there g d (opening a) z types c = absurd (omega arith)
  no-end-there g d (argument-due {c = code} {k = k} {j = j} {n = n} a) z types c = absurd (no-argument-there code k j n a.sorts a.are z)
  no-end-there g d (next-due a) z types c = absurd (omega arith)
  no-end-there g d (constraint-end q) z types c = absurd (omega arith)
  no-end-there g d (second-next s a) z types c = absurd (omega arith)
  no-end-there g d (second-due s a) z types c = absurd (let x = rw s at z in omega arith)
  no-end-there g d (in-numbers {c = code} {j = j} {n = n} {before = before} i a q) z types c = absurd (no_end all code j n i end before z)
  no-end-there g d (in-first {c = code} {j = j} {n = n} {before = before} x a q) z types c = absurd (no_end all code j n numbers-in end before z)
  no-end-there g d (in-variables {c = code} {j = j} {n = n} {before = before} a q) z types c = absurd (no_end all code j n variables-in end before z)

  fine-from : (ts : List Token) (g : Due) (d : Words) → Follows ts g d → Goal ts g d
  unfolding fault_from words_from
  fine-from [] g d f = record { fine = λ types c e l. no-end-there g d f (passed (step all g (end_of end) []).fault end accepted e).0 types c }
  fine-from (t ∷ ts) g d f = turn t ts (fine-from ts) g d f

-- THE LAW, of a text's words
pub model_words : (bs : List ℕ) → tokens_fault (tokens bs) (length bs) ≡ accepted → length (tokens_words (tokens bs)) ≤ 8192 → left_to_check (read_model (tokens_words (tokens bs))).number ≡ true
unfolding tokens_fault tokens_words read_model_in
model_words bs e l =
    rw (le-ltb 8192 (length (words_from (tokens bs) (Item 0) (tokens bs))) l) ((fine-from (tokens bs) (length bs) (tokens bs) (Item 0) words.Start start).fine [] 0 e l 0)

-- ---- of the words that were written

module _ (all : List Token) (end : ℕ) where
  pub no_fault : (due : Due) (ts : List Token) → (fault_from all end due ts).number ≡ 0 → fault_from all end due ts ≡ accepted
  unfolding fault_from
  no_fault due [] e = sym (no-fault (step all due (end_of end) []).fault end accepted (passed-number _ end accepted e).0)
  no_fault due (t ∷ ts) e =
      let p = passed-number (step all due t ts).fault t.place _ e in
      sym (no-fault (step all due t ts).fault t.place _ p.0) ∙ no_fault (step all due t ts).next ts p.1

module _ (bs out : List ℕ) (n : ℕ) (e : read_text bs (length out) ≡ written n) where
  abbrev pub us : List ℕ
  us = tokens_words (tokens bs)

  -- the text's fault, 1, 16
  abbrev found : ℕ → ℕ → Bool → Bool → Refusal
  found m p long short =
      let second : Refusal = 1 at_place 0 if long else (16 at_place 0 if short else accepted) in
      fault_or m p second

  abbrev pub Written : ℕ → ℕ → Type 0
  Written m number = (m ≡ 0) × ((n ≡ length us) × ((length us ≤ 8192) × ((length us ≤ length out) × ((overlay out 0 us if eqb number 0 else out) ≡ overlay out 0 us))))

  pub wrote : Written (tokens_fault (tokens bs) (length bs)).number (text_fault bs (length out)).number
  unfolding read_text text_fault words_fault room_fault ◌else_refuse◌ ◌else_answer◌
  wrote = by (tokens_fault (tokens bs) (length bs)).number (tokens_fault (tokens bs) (length bs)).place (ltb 8192 (length us)) (ltb (length out) (length us)) refl refl e
    where
      by : (m p : ℕ) (long short : Bool) → ltb 8192 (length us) ≡ long → ltb (length out) (length us) ≡ short →
          refused_or (found m p long short).number (found m p long short).place (written (length us)) ≡ written n → Written m (found m p long short).number
      by zero p false false f g e = let l : n ≡ length us = cc in (refl, (l, (ltb-false _ _ f, (ltb-false _ _ g, refl))))
      by zero p false true f g e = let z : ◌≡◌ {A = ℕ} 0 1 = cc in absurd (omega arith)
      by zero p true short f g e = let z : ◌≡◌ {A = ℕ} 0 1 = cc in absurd (omega arith)
      by (suc m) p long short f g e = let z : ◌≡◌ {A = ℕ} 0 1 = cc in absurd (omega arith)

  written_words : left_to_check (read_model (take n (text_read bs out))).number ≡ true
  unfolding text_read tokens_fault
  written_words =
      let w = wrote in
      rw (w.1.1.1.1, w.1.0, front-over out us w.1.1.1.0) (model_words bs (no_fault (tokens bs) (length bs) (Item 0) (tokens bs) w.0) w.1.1.0)

pub words_of : (bs before : List ℕ) {after : List ℕ} {answer : Answer} → answer ≡ read_text bs (length before) → after ≡ text_read bs before → ModelWords answer after
words_of bs before e f n g = rw f (written_words bs before n (sym e ∙ g))
