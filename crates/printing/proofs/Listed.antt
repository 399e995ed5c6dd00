-- The lists of a printed constraint: their brackets, and their elements one after another.
use Rattle.std.proofs.Common.{◌≡◌, refl, ◌∙◌, Bool, true, false, List, [], ◌∷◌, ◌++◌, ℕ, zero, suc, ◌+◌, ◌<◌, ◌≤◌, arith, eqb, ltb, length, lt-ltb, eqb-true}
use borrow.Author.Tests.{eqb-false}
use Rattle.integers.specs.Choice.{◌if◌else◌}
use Rattle.words.specs.Word.{payload, signed}
use Rattle.decimals.specs.Decimal.{numeral}
use Rattle.models.specs.Shape as Shape
use Rattle.models.specs.declared.Due.TheVariants as Words
use Rattle.models.proofs.Sound.{Sound, reading}
use Rattle.tokens.specs.Token.{Token}
use Rattle.grammar.specs.Form.{argument_form, Many}
use Rattle.grammar.specs.Machine.{text_form}
use Rattle.grammar.specs.Grammar.{Argument, Inside}
use Rattle.printing.specs.ModelText.{variable_name, takes_set, opened, closed, numbers_end, variables_end, text_from}
use Rattle.printing.proofs.Spelled.{Sign, comma, close_list, ends-name, ends-number}
use Rattle.printing.proofs.Numerals.{named}
use Rattle.printing.proofs.Steps.{Reads}
use Rattle.printing.proofs.Events.{ListOf, of-numbers, of-variables, of_set, of-second, closing-of, number-element, variable-element, between-elements, at_close, at-empty, at-comma, at_second, at-list}
use Rattle.printing.proofs.Aligned.{Aligned, numbers_form, is-numbers, is-variables, is-parallel, parallel-lists}
use Rattle.printing.proofs.Turns.{Numeric, number_is, number-turn, more_numbers, last-number, variable-kind, variable-declared, variable-turn, more-variables, last-variable, length-is, numbers-turn, parallel-turn, integers-turn, booleans-turn}
use Rattle.printing.proofs.Ahead.{at_once, numbers-from, variables-from}
use Rattle.printing.proofs.Simulation.{numbers, parallel, variables, Read, after-argument}

-- ---- elements

module _ (all : List Token) (end : ℕ) (ws : List ℕ) (rest : Read all end ws) (ts : List ℕ) (c v : ℕ) (few : v ≤ 256) (e : length ts ≡ v) (code k j n w p : ℕ) where
  -- a number, before what follows it
  a-number : (b before : ℕ) → eqb before 1 ≡ false → (ys : List ℕ) {d : ℕ} → Sign d → Numeric w → Reads all end (Inside code j n 1 b 1) (p + length (numeral (signed w))) (d ∷ ys) (named v) false ws →
      Reads all end (Inside code j n 1 b before) p (numeral (signed w) ++ (d ∷ ys)) (named v) false (w ∷ ws)
  a-number b before s ys g m r = number-element all end w m.range (ends-number g ys) code j n b before s m.kind-is r

  module _ (t : ℕ) {o b : ℕ} (before : ℕ) (l : ListOf o b 1 false) (s : eqb before 1 ≡ false) where
    pub one_more_number : (m : ℕ) → closed code ≡ b ∷ [] → Aligned code k j → Sound (reading (Words.Arguments (suc (suc m)) 0 t code k) ts c) (w ∷ ws) →
        Reads all end (Inside code j n 1 b before) p (text_from (reading (Words.Arguments (suc (suc m)) 0 t code k) ts c) (w ∷ ws)) (named v) false (w ∷ ws)
    one_more_number m q a h =
        rw (more_numbers ts c 0 t code k w ws m h)
        (a-number b before s _ comma (number_is ts c (suc m) 0 t code k w ws h)
        (between-elements all end code j n l (rest _ _ v v ts c (numbers l q a refl) e few (number-turn ts c (suc m) 0 t code k w ws h).sound _)))

    pub the_last_number : closed code ≡ b ∷ [] → Aligned code k j → Sound (reading (Words.Arguments 1 0 t code k) ts c) (w ∷ ws) →
        Reads all end (Inside code j n 1 b before) p (text_from (reading (Words.Arguments 1 0 t code k) ts c) (w ∷ ws)) (named v) false (w ∷ ws)
    unfolding numbers_end
    the_last_number q a h =
        rw (last-number ts c 0 t code k w ws h, q)
        (a-number b before s _ (closing-of l) (number_is ts c 0 0 t code k w ws h)
        (at_close all end code j n l (after-argument all end ws rest ts c v e few t code k j n _ a (number-turn ts c 0 0 t code k w ws h).sound)))

  -- a number of the first of parallel lists, m variables more than one to come
  module _ (t m before : ℕ) (second : argument_form code j ≡ Many 91 2 93 true) (q : closed code ≡ 93 ∷ []) (a : Aligned code k (j + 1)) (lt : 1 ≤ t) (s : eqb before 1 ≡ false) where
    pub one_more_coefficient : (i : ℕ) → Sound (reading (Words.Arguments (suc (suc i)) (suc m) t code k) ts c) (w ∷ ws) → n ≡ suc m →
        Reads all end (Inside code j n 1 93 before) p (text_from (reading (Words.Arguments (suc (suc i)) (suc m) t code k) ts c) (w ∷ ws)) (named v) false (w ∷ ws)
    one_more_coefficient i h f =
        rw (more_numbers ts c (suc m) t code k w ws i h)
        (a-number 93 before s _ comma (number_is ts c (suc i) (suc m) t code k w ws h)
        (between-elements all end code j n of-numbers (rw f (rest _ _ v v ts c (parallel second q a lt refl) e few (number-turn ts c (suc i) (suc m) t code k w ws h).sound _))))

    pub the_last_coefficient : Sound (reading (Words.Arguments 1 (suc m) t code k) ts c) (w ∷ ws) → n ≡ suc m →
        Reads all end (Inside code j n 1 93 before) p (text_from (reading (Words.Arguments 1 (suc m) t code k) ts c) (w ∷ ws)) (named v) false (w ∷ ws)
    unfolding numbers_end
    the_last_coefficient h f =
        let sound = (number-turn ts c 0 (suc m) t code k w ws h).sound in
        rw (last-number ts c (suc m) t code k w ws h, q, lt-ltb 0 (suc m) (omega arith))
        (a-number 93 before s _ close_list (number_is ts c 0 (suc m) t code k w ws h)
        (at_close all end code j n of-numbers (at-comma all end code j n
        (at_second all end code j n second (variables-from ts (omega arith) c t code k lt ws m 0 91 _ refl sound ∙ omega arith)
        (rest _ _ v v ts c (variables a lt refl) e few sound _)))))

  module _ (t before : ℕ) (a : Aligned code k j) (lt : 1 ≤ t) (s : eqb before 2 ≡ false) where
    -- a variable, before what follows it
    a-variable : (ys : List ℕ) {d : ℕ} → Sign d → (m : ℕ) → Sound (reading (Words.Arguments 0 (suc m) t code k) ts c) (w ∷ ws) → Reads all end (Inside code j n 2 93 2) (p + length (variable_name (payload w))) (d ∷ ys) (named v) false ws →
        Reads all end (Inside code j n 2 93 before) p (variable_name (payload w) ++ (d ∷ ys)) (named v) false (w ∷ ws)
    a-variable ys g m h r =
        variable-element all end (ends-name g ys) v w (rw e at (variable-declared ts c m t code k w ws lt h)) few (variable-kind ts c m t code k w ws lt h) code j n 93 before s r

    pub one_more_variable : (m : ℕ) → Sound (reading (Words.Arguments 0 (suc (suc m)) t code k) ts c) (w ∷ ws) →
        Reads all end (Inside code j n 2 93 before) p (text_from (reading (Words.Arguments 0 (suc (suc m)) t code k) ts c) (w ∷ ws)) (named v) false (w ∷ ws)
    one_more_variable m h =
        rw (more-variables ts c m t code k w ws lt h)
        (a-variable _ comma (suc m) h
        (between-elements all end code j n of-variables (rest _ _ v v ts c (variables a lt refl) e few (variable-turn ts c (suc m) t code k w ws lt h).sound _)))

    pub the_last_variable : Sound (reading (Words.Arguments 0 1 t code k) ts c) (w ∷ ws) →
        Reads all end (Inside code j n 2 93 before) p (text_from (reading (Words.Arguments 0 1 t code k) ts c) (w ∷ ws)) (named v) false (w ∷ ws)
    unfolding variables_end
    the_last_variable h =
        rw (last-variable ts c 0 t code k w ws lt h)
        (a-variable _ close_list 0 h
        (at_close all end code j n of-variables (after-argument all end ws rest ts c v e few t code k j n _ a (variable-turn ts c 0 t code k w ws lt h).sound)))

-- ---- a list from its opening bracket on

-- the numbers of a code: a list or a set
record Numbered (code j : ℕ) : Type 0 where
  o : ℕ
  b : ℕ
  list : ListOf o b 1 false
  apart : eqb o 1 ≡ false
  is : argument_form code j ≡ Many o 1 b false
  opened-is : opened code ≡ o ∷ []
  closed_is : closed code ≡ b ∷ []

numbered : (code j : ℕ) → argument_form code j ≡ text_form (numbers_form (takes_set code)) → Numbered code j
unfolding opened closed
numbered code j h = go (takes_set code) refl
  where
    go : (t : Bool) → takes_set code ≡ t → Numbered code j
    go true e = record { o = 123; b = 125; list = of_set; apart = refl; is = rw e at h; opened-is = rw e; closed_is = rw e }
    go false e = record { o = 91; b = 93; list = of-numbers; apart = refl; is = rw e at h; opened-is = rw e; closed_is = rw e }

module _ (all : List Token) (end : ℕ) (ws : List ℕ) (rest : Read all end ws) (ts : List ℕ) (c v : ℕ) (few : v ≤ 256) (e : length ts ≡ v) (code k j n w p : ℕ) where
  from-numbers : Numeric w → Numbered code j → Aligned code (k + 1) (j + 1) → (m : ℕ) → payload w ≡ m → Sound (reading (Words.Arguments m 0 0 code (k + 1)) ts c) ws →
      Reads all end (Argument code j n) p ((opened code ++ ([] if ltb 0 m else numbers_end code (k + 1) 0)) ++ text_from (reading (Words.Arguments m 0 0 code (k + 1)) ts c) ws) (named v) false (w ∷ ws)
  unfolding numbers_end
  from-numbers i g a zero q h =
      rw (g.opened-is, g.closed_is)
      (at-list all end code j n g.list w i.kind-is g.is (at_once g.list _ _ ∙ omega arith)
      (at-empty all end code (j + 1) (payload w) g.list (after-argument all end ws rest ts c v e few 0 code (k + 1) (j + 1) (payload w) _ a h)))
  from-numbers i g a (suc m) q h =
      rw (g.opened-is, lt-ltb 0 (suc m) (omega arith))
      (at-list all end code j n g.list w i.kind-is g.is (numbers-from g.list ts c 0 code (k + 1) 0 g.closed_is ws m 0 g.o _ g.apart h ∙ omega arith)
      (rest _ _ v v ts c (numbers g.list g.closed_is a g.apart) e few h _))

  from-variables : Numeric w → argument_form code j ≡ Many 91 2 93 false → Aligned code (k + 1) (j + 1) → (t : ℕ) → 1 ≤ t → (m : ℕ) → payload w ≡ m → Sound (reading (Words.Arguments 0 m t code (k + 1)) ts c) ws →
      Reads all end (Argument code j n) p ((91 ∷ ([] if ltb 0 m else variables_end code (k + 1))) ++ text_from (reading (Words.Arguments 0 m t code (k + 1)) ts c) ws) (named v) false (w ∷ ws)
  unfolding variables_end
  from-variables i is a t l zero q h =
      at-list all end code j n of-variables w i.kind-is is (at_once of-variables _ _ ∙ omega arith)
      (at-empty all end code (j + 1) (payload w) of-variables (after-argument all end ws rest ts c v e few t code (k + 1) (j + 1) (payload w) _ a h))
  from-variables i is a t l (suc m) q h =
      rw (lt-ltb 0 (suc m) (omega arith))
      (at-list all end code j n of-variables w i.kind-is is (variables-from ts (omega arith) c t code (k + 1) l ws m 0 91 _ refl h ∙ omega arith)
      (rest _ _ v v ts c (variables a l refl) e few h _))

  from-parallel : Numeric w → argument_form code j ≡ Many 91 1 93 false → argument_form code (j + 1) ≡ Many 91 2 93 true → closed code ≡ 93 ∷ [] → Aligned code (k + 1) (j + 1 + 1) → (m : ℕ) → payload w ≡ m → Sound (reading (Words.Arguments m m 1 code (k + 1)) ts c) ws →
      Reads all end (Argument code j n) p ((91 ∷ ([] if ltb 0 m else 93 ∷ 44 ∷ 91 ∷ variables_end code (k + 1))) ++ text_from (reading (Words.Arguments m m 1 code (k + 1)) ts c) ws) (named v) false (w ∷ ws)
  unfolding variables_end
  from-parallel i is second f a zero q h =
      at-list all end code j n of-numbers w i.kind-is is (at_once of-numbers _ _ ∙ omega arith)
      (at-empty all end code (j + 1) (payload w) of-numbers (at-comma all end code (j + 1) (payload w)
      (at_second all end code (j + 1) (payload w) second (at_once of-second _ _ ∙ omega arith)
      (at-empty all end code (j + 1 + 1) (payload w) of-second (after-argument all end ws rest ts c v e few 1 code (k + 1) (j + 1 + 1) (payload w) _ a h)))))
  from-parallel i is second f a (suc m) q h =
      rw (lt-ltb 0 (suc m) (omega arith))
      (at-list all end code j n of-numbers w i.kind-is is (numbers-from of-numbers ts c 1 code (k + 1) (suc m) f ws m 0 91 _ refl h ∙ omega arith)
      (rw q (rest _ _ v v ts c (parallel second f a (omega arith) refl) e few h _)))

  -- ---- by the shape of the argument
  module _ (t : ℕ) (a : Aligned code k j) (h : Sound (reading (Words.Arguments 0 0 t code k) ts c) (w ∷ ws)) where
    pub list_of_numbers : Shape.argument code k ≡ 5 → Reads all end (Argument code j n) p (text_from (reading (Words.Arguments 0 0 t code k) ts c) (w ∷ ws)) (named v) false (w ∷ ws)
    list_of_numbers q =
        let turn = numbers-turn ts c t code k w ws h q in
        let g = is-numbers code k j a q in
        rw turn.text-is (from-numbers (length-is ts c t code k w ws h 5 q (omega arith) (omega arith)) (numbered code j g.0) g.1 (payload w) refl turn.sound)

    pub parallel_lists_of : Shape.argument code k ≡ 8 → Reads all end (Argument code j n) p (text_from (reading (Words.Arguments 0 0 t code k) ts c) (w ∷ ws)) (named v) false (w ∷ ws)
    unfolding closed
    parallel_lists_of q =
        let turn = parallel-turn ts c t code k w ws h q in
        let g = is-parallel code k j a q in
        rw turn.text-is (from-parallel (length-is ts c t code k w ws h 8 q (omega arith) (omega arith)) g.0 g.1 (rw (parallel-lists code k q)) g.2 (payload w) refl turn.sound)

    pub list_of_variables : (s : ℕ) → Shape.argument code k ≡ s → 5 < s → s < 8 → Reads all end (Argument code j n) p (text_from (reading (Words.Arguments 0 0 t code k) ts c) (w ∷ ws)) (named v) false (w ∷ ws)
    list_of_variables s q l m = go (eqb s 6) refl
      where
        g : (argument_form code j ≡ Many 91 2 93 false) × Aligned code (k + 1) (j + 1)
        g = is-variables code k j a s q l m

        i : Numeric w
        i = length-is ts c t code k w ws h s q (omega arith) (omega arith)

        go : (b : Bool) → eqb s 6 ≡ b → Reads all end (Argument code j n) p (text_from (reading (Words.Arguments 0 0 t code k) ts c) (w ∷ ws)) (named v) false (w ∷ ws)
        go true f =
            let turn = integers-turn ts c t code k w ws h (q ∙ eqb-true s 6 f) in
            rw turn.text-is (from-variables i g.0 g.1 1 (omega arith) (payload w) refl turn.sound)
        go false f =
            let r : s ≡ 7 = omega (arith, eqb-false s 6 f) in
            let turn = booleans-turn ts c t code k w ws h (q ∙ r) in
            rw turn.text-is (from-variables i g.0 g.1 2 (omega arith) (payload w) refl turn.sound)
