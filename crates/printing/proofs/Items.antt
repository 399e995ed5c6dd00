-- The items of a printed text, and the whole: of words without a fault, the text is read as these words.
use Rattle.std.proofs.Common.{◌≡◌, refl, ap, ◌∙◌, Bool, true, false, List, [], ◌∷◌, ◌++◌, append_assoc, ℕ, zero, suc, ◌+◌, ◌-◌, ◌≤◌, arith, eqb, leb, length, length-append, leb-true, leb-false, eqb-true, ne_eqb}
use borrow.Author.Tests.{eqb-false}
use Rattle.integers.specs.Lists.{list_of}
use Rattle.words.specs.Word.{kind, payload, signed}
use Rattle.decimals.specs.Decimal.{numeral}
use Rattle.models.specs.Shape as Shape
use Rattle.models.specs.Reading.{fault_head, fault_argument_in, fault_due_in, fault_in, after_head, after_due}
use Rattle.models.specs.declared.Due.{Due as WordsDue}
use Rattle.models.specs.declared.Due.TheVariants as Words
use Rattle.models.proofs.Sound.{Sound, reading, at-constraint, at-end, is-head, at-lower, at-boolean, at_head, is-start, is-upper}
use Rattle.tokens.specs.Byte.{bytes, front, between, is_digit}
use Rattle.tokens.specs.Token.{Token}
use Rattle.grammar.specs.Grammar.{Item, Upper, Argument}
use Rattle.printing.specs.ModelText.{variable_name, builtin_name, line, head_text, word_text, text_from}
use Rattle.printing.proofs.Spelled.{colon, semicolon, ends-name, ends-number}
use Rattle.printing.proofs.Numerals.{named}
use Rattle.printing.proofs.Steps.{Reads}
use Rattle.printing.proofs.Events as Events
use Rattle.printing.proofs.Events.{at_blank, at-line, at_dots, at-colon, at-semicolon, at_last, at-var, at_bool, at_solve, at-satisfy, at-upper, at_name, at-builtin, at-opening}
use Rattle.printing.proofs.Aligned.{Aligned, aligned, at_most_8, some-argument}
use Rattle.printing.proofs.Turns.{lower-turn, boolean-turn, upper-turn, constraint-turn, end-turn, end-payload}
use Rattle.printing.proofs.Simulation.{start, upper, argument-due, done, numbers, parallel, variables, ended-both, Read, read_none, one_variable, one_number}
use Rattle.printing.proofs.Listed.{one_more_number, the_last_number, one_more_coefficient, the_last_coefficient, one_more_variable, the_last_variable, list_of_numbers, parallel_lists_of, list_of_variables}

-- ---- the bytes of items

constraint-bytes : (name rest : List ℕ) → (bytes "constraint " ++ (name ++ (40 ∷ []))) ++ rest ≡ bytes "constraint " ++ (name ++ (40 ∷ rest))
constraint-bytes name rest = append_assoc (bytes "constraint ") (name ++ (40 ∷ [])) rest ∙ ap (λ (bs : List ℕ). bytes "constraint " ++ bs) (append_assoc name (40 ∷ []) rest)

solve_bytes : (rest : List ℕ) → (bytes "solve satisfy" ++ line) ++ rest ≡ bytes "solve " ++ (bytes "satisfy;" ++ (10 ∷ rest))
unfolding bytes list_of
solve_bytes rest = refl

lower-bytes : (digits rest : List ℕ) → (bytes "var " ++ (digits ++ bytes "..")) ++ rest ≡ 118 ∷ 97 ∷ 114 ∷ 32 ∷ (digits ++ (46 ∷ 46 ∷ rest))
unfolding bytes list_of
lower-bytes digits rest = ap (λ (bs : List ℕ). 118 ∷ 97 ∷ 114 ∷ 32 ∷ bs) (append_assoc digits (46 ∷ 46 ∷ []) rest)

boolean-bytes : (name rest : List ℕ) → (bytes "var bool: " ++ (name ++ line)) ++ rest ≡ 118 ∷ 97 ∷ 114 ∷ 32 ∷ 98 ∷ 111 ∷ 111 ∷ 108 ∷ 58 ∷ 32 ∷ (name ++ (59 ∷ 10 ∷ rest))
unfolding bytes list_of
boolean-bytes name rest = ap (λ (bs : List ℕ). 118 ∷ 97 ∷ 114 ∷ 32 ∷ 98 ∷ 111 ∷ 111 ∷ 108 ∷ 58 ∷ 32 ∷ bs) (append_assoc name line rest)

upper-bytes : (digits name rest : List ℕ) → (digits ++ (bytes ": " ++ (name ++ line))) ++ rest ≡ digits ++ (58 ∷ 32 ∷ (name ++ (59 ∷ 10 ∷ rest)))
unfolding bytes list_of
upper-bytes digits name rest = append_assoc digits (58 ∷ 32 ∷ (name ++ line)) rest ∙ ap (λ (bs : List ℕ). digits ++ (58 ∷ 32 ∷ bs)) (append_assoc name line rest)

dot-ends : (ys : List ℕ) → is_digit (front (46 ∷ ys)) ≡ false
unfolding is_digit between front
dot-ends ys = refl

module _ (all : List Token) (end : ℕ) (ws : List ℕ) (rest : Read all end ws) (ts : List ℕ) (c v w p : ℕ) (e : length ts ≡ v) (few : v ≤ 256) where
  -- ---- a constraint's head, or the end
  module _ (stage : ℕ) (s : leb stage 1 ≡ true) (d : WordsDue) (h : Sound (reading d ts c) (w ∷ ws)) (text : word_text d (length ts) w ≡ head_text w) (next : after_due d w ≡ after_head w) (fault : fault_head c w ≡ 0) where
    read_head : Reads all end (Item stage) p (text_from (reading d ts c) (w ∷ ws)) (named v) false (w ∷ ws)
    read_head = elim (is-head c w fault) [
      | at-constraint below k low high ↦
          let turn = constraint-turn ts c w ws d h text next k in
          rw (turn.text-is ∙ constraint-bytes (builtin_name (payload w)) _)
          (Events.at-constraint all end stage s (at_blank all end (at-builtin all end (payload w) w k refl low high (at-opening all end (payload w)
          (rest _ _ v v ts (c + 1) (argument-due (some-argument (payload w) low high) (aligned (payload w))) e few turn.sound _)))))
      | at-end k ↦
          let turn = end-turn ts c w ws d h text next k in
          rw (turn.text-is ∙ solve_bytes _)
          (at_solve all end stage s (at_blank all end (at-satisfy all end (at_last all end w k (end-payload c w fault k) (at-line all end
          (rest _ _ v v ts c ended-both e few turn.sound _))))))
    ]

  -- ---- a variable, or the first head
  more : (t : ℕ) → length (ts ++ (t ∷ [])) ≡ suc v
  more t = length-append ts (t ∷ []) ∙ omega arith

  read-start : Sound (reading Words.Start ts c) (w ∷ ws) → Reads all end (Item 0) p (text_from (reading Words.Start ts c) (w ∷ ws)) (named v) false (w ∷ ws)
  unfolding fault_in fault_due_in word_text after_due
  read-start h = elim (is-start (length ts) c w h.0) [
    | at-lower below k range ↦
        let turn = lower-turn ts c w ws h k in
        rw (turn.text-is ∙ lower-bytes (numeral (signed w)) _)
        (at-var all end (at_blank all end (Events.at-lower all end w range (dot-ends _) k (at_dots all end
        (rest _ _ (suc v) v (ts ++ (1 ∷ [])) c upper (more 1) (omega arith) turn.sound _)))))
    | at-boolean below k zero-payload ↦
        let turn = boolean-turn ts c w ws h k in
        rw (turn.text-is ∙ boolean-bytes (variable_name (length ts)) _, e)
        (at-var all end (at_blank all end (at_bool all end w k zero-payload (at-colon all end (at_blank all end (at_name all end (ends-name semicolon _) v (omega arith) (at-semicolon all end 0 refl (at-line all end
        (rest _ _ (suc v) (suc v) (ts ++ (2 ∷ [])) c start (more 2) (omega arith) turn.sound _)))))))))
    | at_head n m fault ↦ read_head 0 refl Words.Start h (rw (ne_eqb (kind w) 1 n, ne_eqb (kind w) 3 m)) (rw (ne_eqb (kind w) 1 n, ne_eqb (kind w) 3 m)) fault
  ]

  -- ---- after a constraint
  read_done : (t code k : ℕ) → Shape.argument code k ≡ 0 → Sound (reading (Words.Arguments 0 0 t code k) ts c) (w ∷ ws) →
      Reads all end (Item 1) p (text_from (reading (Words.Arguments 0 0 t code k) ts c) (w ∷ ws)) (named v) false (w ∷ ws)
  unfolding fault_in fault_due_in fault_argument_in word_text after_due
  read_done t code k q h = read_head 1 refl (Words.Arguments 0 0 t code k) h (rw q) (rw q) (rw q at h.0)

  -- ---- an argument
  read-argument : (t code k j n : ℕ) → 1 ≤ Shape.argument code k → Aligned code k j → Sound (reading (Words.Arguments 0 0 t code k) ts c) (w ∷ ws) →
      Reads all end (Argument code j n) p (text_from (reading (Words.Arguments 0 0 t code k) ts c) (w ∷ ws)) (named v) false (w ∷ ws)
  read-argument t code k j n l a h = go (leb s 2) (leb s 4) (eqb s 5) (eqb s 8) refl refl refl refl
    where
      s : ℕ
      s = Shape.argument code k

      go : (x y z u : Bool) → leb s 2 ≡ x → leb s 4 ≡ y → eqb s 5 ≡ z → eqb s 8 ≡ u → Reads all end (Argument code j n) p (text_from (reading (Words.Arguments 0 0 t code k) ts c) (w ∷ ws)) (named v) false (w ∷ ws)
      go true y z u f g i o = one_variable all end ws rest ts c v e few t code k j n w p a h s refl l (leb-true s 2 f)
      go false true z u f g i o = one_number all end ws rest ts c v e few t code k j n w p a h s refl (leb-false s 2 f) (leb-true s 4 g)
      go false false true u f g i o = list_of_numbers all end ws rest ts c v few e code k j n w p t a h (eqb-true s 5 i)
      go false false false true f g i o = parallel_lists_of all end ws rest ts c v few e code k j n w p t a h (eqb-true s 8 o)
      go false false false false f g i o =
          list_of_variables all end ws rest ts c v few e code k j n w p t a h s refl (omega (arith, leb-false s 4 g, eqb-false s 5 i)) (omega (arith, at_most_8 code k, eqb-false s 8 o))

no_more : (ts : List ℕ) (c w : ℕ) (ws : List ℕ) → Sound (reading Words.Ended ts c) (w ∷ ws) → ⊥
unfolding fault_in fault_due_in
no_more ts c w ws h = omega (arith, h.0)

module _ (all : List Token) (end : ℕ) (ws : List ℕ) (rest : Read all end ws) (w : ℕ) where
  -- ---- an upper bound, and the name
  read_upper : (ts : List ℕ) (c v l p : ℕ) → length ts ≡ suc v → suc v ≤ 256 → Sound (reading (Words.Upper l) ts c) (w ∷ ws) →
      Reads all end Upper p (text_from (reading (Words.Upper l) ts c) (w ∷ ws)) (named v) false (w ∷ ws)
  unfolding fault_in fault_due_in
  read_upper ts c v l p e few h =
      let is = is-upper w l h.0 in
      let turn = upper-turn ts c w ws l h is.0 in
      let q : length ts - 1 ≡ v = omega arith in
      rw (turn.text-is ∙ upper-bytes (numeral (signed w)) (variable_name (length ts - 1)) _, q)
      (at-upper all end w is.2 (ends-number colon _) is.0 (at-colon all end (at_blank all end (at_name all end (ends-name semicolon _) v (omega arith) (at-semicolon all end 0 refl (at-line all end
      (rest _ _ (suc v) (suc v) ts c start e few turn.sound _)))))))

  -- ---- every word: after the end there is none
  pub read_word : Read all end (w ∷ ws)
  read_word d due v m ts c start e l h p = read-start all end ws rest ts c v w p e l h
  read_word d due v m ts c (upper {l = low}) e l h p = read_upper ts c m low p e l h
  read_word d due v m ts c (argument-due {t = t} {code} {k} {j} {n} s a) e l h p = read-argument all end ws rest ts c v w p e l t code k j n s a h
  read_word d due v m ts c (done {t = t} {code} {k} s) e l h p = read_done all end ws rest ts c v w p e l t code k s h
  read_word d due v m ts c (numbers {m = zero} {t} {code} {k} {j} {n} {before = f} o q a b) e l h p = the_last_number all end ws rest ts c v l e code k j n w p t f o b q a h
  read_word d due v m ts c (numbers {m = suc i} {t} {code} {k} {j} {n} {before = f} o q a b) e l h p = one_more_number all end ws rest ts c v l e code k j n w p t f o b i q a h
  read_word d due v m ts c (parallel {m = zero} {t} {code} {k} {j} {n} {before = f} y q a r b) e l h p = the_last_coefficient all end ws rest ts c v l e code k j (suc n) w p t n f y q a r b h refl
  read_word d due v m ts c (parallel {m = suc i} {t} {code} {k} {j} {n} {before = f} y q a r b) e l h p = one_more_coefficient all end ws rest ts c v l e code k j (suc n) w p t n f y q a r b i h refl
  read_word d due v m ts c (variables {m = zero} {t} {code} {k} {j} {n} {before = f} a r b) e l h p = the_last_variable all end ws rest ts c v l e code k j n w p t f a r b h
  read_word d due v m ts c (variables {m = suc i} {t} {code} {k} {j} {n} {before = f} a r b) e l h p = one_more_variable all end ws rest ts c v l e code k j n w p t f a r b i h
  read_word d due v m ts c ended-both e l h p = absurd (no_more ts c w ws h)

pub read-words : (all : List Token) (end : ℕ) (ws : List ℕ) → Read all end ws
read-words all end [] = read_none all end
read-words all end (w ∷ ws) = read_word all end ws (read-words all end ws) w
