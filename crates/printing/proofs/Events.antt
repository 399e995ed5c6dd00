-- Each token that a printed text has, where it is due: what it writes and what is due after it.
use Rattle.std.proofs.Common.{◌≡◌, refl, ap, ◌∙◌, Bool, true, false, List, [], ◌∷◌, ◌++◌, ℕ, suc, ◌+◌, ◌-◌, ◌<◌, ◌≤◌, arith, eqb, leb, length, lt-ltb, eq-eqb, ne_eqb}
use Rattle.integers.specs.Lists.{list_of, any}
use Rattle.words.specs.Word.{kind, payload, signed, in_range, word}
use Rattle.models.specs.Table.{last}
use Rattle.decimals.specs.Decimal.{numeral}
use Rattle.tokens.specs.Byte.{bytes, front, between, is_letter, in_name, is_digit, is_gap}
use Rattle.tokens.specs.Token.{Token, tokens_from, token_length, sort_of}
use Rattle.names.specs.Name.{is_word, code_of, declared_from, variable_of}
use Rattle.grammar.specs.Form.{argument_forms, argument_form, One, Many}
use Rattle.grammar.specs.Grammar as Grammar
use Rattle.grammar.specs.Brackets.{fits_inside, length_from}
use Rattle.grammar.specs.Grammar.{gives, fitting, of_sort, number_step, single_step, argument_step, Due, Item, Domain, Dots, Upper, Colon, Name, Semicolon, Builtin, Opening, Argument, Next, Inside, Satisfy}
use Rattle.printing.specs.ModelText.{variable_name, builtin_name}
use Rattle.printing.proofs.Spelled.{token, colon, semicolon, comma, opening, closing, open_list, close_list, open_set, close_set, Sign, spelled-sign, spelled_dots, spelled_blank, spelled-line}
use Rattle.printing.proofs.Numerals.{numeral-some, named, found, not_found, name-token, number-token, value-back, signed_back}
use Rattle.printing.proofs.Builtins.{builtin-named}
use Rattle.printing.proofs.Steps.{passes, Reads, Meets, step, plain_step, word-step}

-- a word by its kind and payload
pub word_back : (k w : ℕ) → kind w ≡ k → word k (payload w) ≡ w
unfolding kind payload word
word_back k w h = omega arith

pub some_word : (k w : ℕ) → kind w ≡ suc k → 0 < w
unfolding kind
some_word k w h = omega arith

one_less : (w : ℕ) → payload w + 1 - 1 ≡ payload w
one_less w = omega arith

one-back : (w : ℕ) → kind w ≡ 5 → word 5 (payload w + 1 - 1) ≡ w
one-back w k = rw (one_less w) (word_back 5 w k)

-- the same step with another word
worded : {v w : ℕ} {d : Due} → v ≡ w → passes v d ≡ passes w d
worded {d = d} e = ap (λ (u : ℕ). passes u d) e

-- a list argument: the signs that open and close it, the sort of an element's token, whether it is the second of parallel lists
pub data ListOf : ℕ → ℕ → ℕ → Bool → Type 0 where
  of-numbers : ListOf 91 93 1 false
  of-variables : ListOf 91 93 2 false
  of_set : ListOf 123 125 1 false
  of-second : ListOf 91 93 2 true

pub opening_of : {o c e : ℕ} {b : Bool} → ListOf o c e b → Sign o × (eqb o 58 ≡ false)
opening_of of-numbers = (open_list, refl)
opening_of of-variables = (open_list, refl)
opening_of of_set = (open_set, refl)
opening_of of-second = (open_list, refl)

pub closing-of : {o c e : ℕ} {b : Bool} → ListOf o c e b → Sign c
closing-of of-numbers = close_list
closing-of of-variables = close_list
closing-of of_set = close_set
closing-of of-second = close_list

module _ (all : List Token) (end : ℕ) where
  module _ {d : Due} {p : ℕ} {bs : List ℕ} {ns : List (List ℕ)} {b : Bool} {us : List ℕ} where
    pub at_blank : Reads all end d (p + 1) bs ns b us → Reads all end d p (32 ∷ bs) ns b us
    at_blank r = record { gives = λ h. rw (spelled_blank p bs) (r.gives (λ q l. (rw (spelled_blank p bs) at (h q (omega arith))))) }

    pub at-line : Reads all end d (p + 1) bs ns b us → Reads all end d p (10 ∷ bs) ns b us
    at-line r = record { gives = λ h. rw (spelled-line p bs) (r.gives (λ q l. (rw (spelled-line p bs) at (h q (omega arith))))) }

  -- ---- signs of declarations and of items

  module _ {p : ℕ} {bs : List ℕ} {ns : List (List ℕ)} {us : List ℕ} where
    pub at_dots : Reads all end Upper (p + 1 + 1) bs ns false us → Reads all end Dots p (46 ∷ 46 ∷ bs) ns false us
    unfolding Grammar.step fitting gives
    at_dots r = plain_step all end (token 46 p (46 ∷ 46 ∷ [])) 0 (spelled_dots p bs) refl (omega arith) (λ e. refl) r

    pub at-colon : Reads all end Name (p + 1) bs ns true us → Reads all end Colon p (58 ∷ bs) ns false us
    unfolding Grammar.step fitting gives
    at-colon r = plain_step all end (token 58 p (58 ∷ [])) 0 (spelled-sign colon p bs) refl (omega arith) (λ e. refl) r

    pub at-semicolon : (stage : ℕ) → eqb stage 2 ≡ false → Reads all end (Item stage) (p + 1) bs ns false us → Reads all end (Semicolon stage) p (59 ∷ bs) ns false us
    unfolding Grammar.step fitting gives
    at-semicolon stage h r = plain_step all end (token 59 p (59 ∷ [])) 0 (spelled-sign semicolon p bs) refl (omega arith) (λ e. rw h) r

    pub at_last : (w : ℕ) → kind w ≡ 7 → payload w ≡ 0 → Reads all end (Item 2) (p + 1) bs ns false us → Reads all end (Semicolon 2) p (59 ∷ bs) ns false (w ∷ us)
    unfolding Grammar.step fitting gives
    at_last w k z r = word-step all end (token 59 p (59 ∷ [])) w (some_word 6 w k) (spelled-sign semicolon p bs) refl (omega arith) (λ e. worded (rw z at (word_back 7 w k))) r

    -- ---- keywords

    pub at-var : Reads all end Domain (p + 1 + 1 + 1) (32 ∷ bs) ns false us → Reads all end (Item 0) p (118 ∷ 97 ∷ 114 ∷ 32 ∷ bs) ns false us
    unfolding Grammar.step fitting gives is_word bytes list_of tokens_from token_length sort_of is_gap any is_letter in_name is_digit between
    at-var r = plain_step all end (token 2 p (118 ∷ 97 ∷ 114 ∷ [])) 0 refl refl (omega arith) (λ e. refl) r

    pub at_bool : (w : ℕ) → kind w ≡ 3 → payload w ≡ 0 → Reads all end Colon (p + 1 + 1 + 1 + 1) (58 ∷ bs) ns false us → Reads all end Domain p (98 ∷ 111 ∷ 111 ∷ 108 ∷ 58 ∷ bs) ns false (w ∷ us)
    unfolding Grammar.step fitting gives is_word bytes list_of tokens_from token_length sort_of is_gap any is_letter in_name is_digit between
    at_bool w k z r = word-step all end (token 2 p (98 ∷ 111 ∷ 111 ∷ 108 ∷ [])) w (some_word 2 w k) refl refl (omega arith) (λ e. worded (rw z at (word_back 3 w k))) r

    pub at-constraint : (stage : ℕ) → leb stage 1 ≡ true → Reads all end Builtin (p + 1 + 1 + 1 + 1 + 1 + 1 + 1 + 1 + 1 + 1) (32 ∷ bs) ns false us →
        Reads all end (Item stage) p (bytes "constraint " ++ bs) ns false us
    unfolding Grammar.step fitting gives is_word bytes list_of tokens_from token_length sort_of is_gap any is_letter in_name is_digit between
    at-constraint stage h r = plain_step all end (token 2 p (bytes "constraint")) 0 refl refl (omega arith) (λ e. rw h) r

    pub at_solve : (stage : ℕ) → leb stage 1 ≡ true → Reads all end Satisfy (p + 1 + 1 + 1 + 1 + 1) (32 ∷ bs) ns false us →
        Reads all end (Item stage) p (bytes "solve " ++ bs) ns false us
    unfolding Grammar.step fitting gives is_word bytes list_of tokens_from token_length sort_of is_gap any is_letter in_name is_digit between
    at_solve stage h r = plain_step all end (token 2 p (bytes "solve")) 0 refl refl (omega arith) (λ e. rw h) r

    pub at-satisfy : Reads all end (Semicolon 2) (p + 1 + 1 + 1 + 1 + 1 + 1 + 1) (59 ∷ bs) ns false us → Reads all end Satisfy p (bytes "satisfy;" ++ bs) ns false us
    unfolding Grammar.step fitting gives is_word bytes list_of tokens_from token_length sort_of is_gap any is_letter in_name is_digit between
    at-satisfy r = plain_step all end (token 2 p (bytes "satisfy")) 0 refl refl (omega arith) (λ e. refl) r

    -- ---- numbers

    module _ (w : ℕ) (range : in_range (signed w) ≡ true) (apart : is_digit (front bs) ≡ false) where
      meets-number_step : {d next : Due} {j : ℕ} → kind w ≡ suc j → ((ts : List Token) → Meets all end ns d (token 1 p (numeral (signed w))) ts w next) →
          Reads all end next (p + length (numeral (signed w))) bs ns false us → Reads all end d p (numeral (signed w) ++ bs) ns false (w ∷ us)
      meets-number_step {j = j} k m r =
          word-step all end (token 1 p (numeral (signed w))) w (some_word j w k) (number-token p (signed w) bs apart) refl (omega (arith, numeral-some (signed w))) (m _) r

      pub at-lower : kind w ≡ 1 → Reads all end Dots (p + length (numeral (signed w))) bs ns false us → Reads all end Domain p (numeral (signed w) ++ bs) ns false (w ∷ us)
      unfolding Grammar.step is_word number_step of_sort gives
      at-lower k = meets-number_step k (λ ts e. rw (value-back (signed w), range) (worded (signed_back 1 w ∙ word_back 1 w k)))

      pub at-upper : kind w ≡ 2 → Reads all end Colon (p + length (numeral (signed w))) bs ns false us → Reads all end Upper p (numeral (signed w) ++ bs) ns false (w ∷ us)
      unfolding Grammar.step number_step of_sort gives
      at-upper k = meets-number_step k (λ ts e. rw (value-back (signed w), range) (worded (signed_back 2 w ∙ word_back 2 w k)))

      pub at-number : (code j n : ℕ) → argument_form code j ≡ One 1 → kind w ≡ 6 → Reads all end (Next code (j + 1) n) (p + length (numeral (signed w))) bs ns false us → Reads all end (Argument code j n) p (numeral (signed w) ++ bs) ns false (w ∷ us)
      unfolding Grammar.step argument_step single_step number_step of_sort gives
      at-number code j n a k = meets-number_step k (λ ts e. rw (a, value-back (signed w), range) (worded (signed_back 6 w ∙ word_back 6 w k)))

      pub number-element : (code j n c before : ℕ) → eqb before 1 ≡ false → kind w ≡ 6 → Reads all end (Inside code j n 1 c 1) (p + length (numeral (signed w))) bs ns false us →
          Reads all end (Inside code j n 1 c before) p (numeral (signed w) ++ bs) ns false (w ∷ us)
      unfolding Grammar.step fits_inside single_step number_step of_sort gives
      number-element code j n c before s k = meets-number_step k (λ ts e. rw (s, value-back (signed w), range) (worded (signed_back 6 w ∙ word_back 6 w k)))

  -- ---- names of variables

  met-found : (p n i : ℕ) → i < n → declared_from false p all ≡ named n → variable_of all (token 2 p (variable_name i)) ≡ i + 1
  unfolding variable_of
  met-found p n i l e = rw e (found n i l)

  met_new : (p n : ℕ) → declared_from false p all ≡ named n → variable_of all (token 2 p (variable_name n)) ≡ 0
  unfolding variable_of
  met_new p n e = rw e (not_found n n (omega arith))

  name-some : (i : ℕ) → 1 ≤ length (variable_name i)
  unfolding variable_name
  name-some i = omega arith

  module _ {p : ℕ} {bs : List ℕ} {us : List ℕ} (apart : in_name (front bs) ≡ false) where
    pub at_name : (n : ℕ) → n < 256 → Reads all end (Semicolon 0) (p + length (variable_name n)) bs (named (suc n)) false us → Reads all end Name p (variable_name n ++ bs) (named n) true us
    unfolding Grammar.step Grammar.name_step of_sort gives
    at_name n l r = step all end true (token 2 p (variable_name n)) 0 (name-token p n bs l apart) refl (omega (arith, name-some n)) (λ e. rw (met_new p n e)) r

    module _ (n w : ℕ) (l : payload w < n) (m : n ≤ 256) (k : kind w ≡ 5) where
      variable-step : {d next : Due} → ((ts : List Token) → Meets all end (named n) d (token 2 p (variable_name (payload w))) ts w next) →
          Reads all end next (p + length (variable_name (payload w))) bs (named n) false us → Reads all end d p (variable_name (payload w) ++ bs) (named n) false (w ∷ us)
      variable-step f r =
          word-step all end (token 2 p (variable_name (payload w))) w (some_word 4 w k) (name-token p (payload w) bs (omega arith) apart) refl (omega (arith, name-some (payload w))) (f _) r

      pub at-variable : (code j x : ℕ) → argument_form code j ≡ One 2 → Reads all end (Next code (j + 1) x) (p + length (variable_name (payload w))) bs (named n) false us →
          Reads all end (Argument code j x) p (variable_name (payload w) ++ bs) (named n) false (w ∷ us)
      unfolding Grammar.step argument_step single_step Grammar.name_step of_sort gives
      at-variable code j x a = variable-step (λ ts e. rw (a, met-found p n (payload w) l e, lt-ltb 0 (payload w + 1) (omega arith)) (worded (one-back w k)))

      pub variable-element : (code j x c before : ℕ) → eqb before 2 ≡ false → Reads all end (Inside code j x 2 c 2) (p + length (variable_name (payload w))) bs (named n) false us →
          Reads all end (Inside code j x 2 c before) p (variable_name (payload w) ++ bs) (named n) false (w ∷ us)
      unfolding Grammar.step fits_inside single_step Grammar.name_step of_sort gives
      variable-element code j x c before s = variable-step (λ ts e. rw (s, met-found p n (payload w) l e, lt-ltb 0 (payload w + 1) (omega arith)) (worded (one-back w k)))

  -- ---- signs of constraints

  module _ {p : ℕ} {bs : List ℕ} {ns : List (List ℕ)} {us : List ℕ} where
    sign-step : {d next : Due} {c : ℕ} → Sign c → eqb c 58 ≡ false → ((ts : List Token) → Meets all end ns d (token c p (c ∷ [])) ts 0 next) →
        Reads all end next (p + 1) bs ns false us → Reads all end d p (c ∷ bs) ns false us
    sign-step {c = c} s h f r = plain_step all end (token c p (c ∷ [])) 0 (spelled-sign s p bs) refl (omega arith) (f _) (rw h r)

    pub at-opening : (code : ℕ) → Reads all end (Argument code 0 0) (p + 1) bs ns false us → Reads all end (Opening code) p (40 ∷ bs) ns false us
    unfolding Grammar.step fitting gives
    at-opening code = sign-step opening refl (λ ts e. refl)

    pub at-comma : (code j n : ℕ) → Reads all end (Argument code j n) (p + 1) bs ns false us → Reads all end (Next code j n) p (44 ∷ bs) ns false us
    unfolding Grammar.step fitting gives
    at-comma code j n = sign-step comma refl (λ ts e. refl)

    pub at-closing : (code j n : ℕ) → leb (length (argument_forms code)) j ≡ true → Reads all end (Semicolon 1) (p + 1) bs ns false us → Reads all end (Next code j n) p (41 ∷ bs) ns false us
    unfolding Grammar.step fitting gives
    at-closing code j n a = sign-step closing refl (λ ts e. rw a)

    module _ (code j n : ℕ) where
      -- between two elements, after the last one, in an empty list
      pub between-elements : {o c x : ℕ} {b : Bool} → ListOf o c x b → Reads all end (Inside code j n x c 44) (p + 1) bs ns false us → Reads all end (Inside code j n x c x) p (44 ∷ bs) ns false us
      unfolding Grammar.step fits_inside fitting gives
      between-elements of-numbers = sign-step comma refl (λ ts e. refl)
      between-elements of-variables = sign-step comma refl (λ ts e. refl)
      between-elements of_set = sign-step comma refl (λ ts e. refl)
      between-elements of-second = sign-step comma refl (λ ts e. refl)

      pub at_close : {o c x : ℕ} {b : Bool} → ListOf o c x b → Reads all end (Next code j n) (p + 1) bs ns false us → Reads all end (Inside code j n x c x) p (c ∷ bs) ns false us
      unfolding Grammar.step fits_inside fitting gives
      at_close of-numbers = sign-step close_list refl (λ ts e. refl)
      at_close of-variables = sign-step close_list refl (λ ts e. refl)
      at_close of_set = sign-step close_set refl (λ ts e. refl)
      at_close of-second = sign-step close_list refl (λ ts e. refl)

      pub at-empty : {o c x : ℕ} {b : Bool} → ListOf o c x b → Reads all end (Next code j n) (p + 1) bs ns false us → Reads all end (Inside code j n x c o) p (c ∷ bs) ns false us
      unfolding Grammar.step fits_inside fitting gives
      at-empty of-numbers = sign-step close_list refl (λ ts e. refl)
      at-empty of-variables = sign-step close_list refl (λ ts e. refl)
      at-empty of_set = sign-step close_set refl (λ ts e. refl)
      at-empty of-second = sign-step close_list refl (λ ts e. refl)

      -- the second of parallel lists, as long as the first
      pub at_second : argument_form code j ≡ Many 91 2 93 true → length_from 2 93 91 0 (tokens_from 0 (p + 1) bs) ≡ n + 1 → Reads all end (Inside code (j + 1) n 2 93 91) (p + 1) bs ns false us →
          Reads all end (Argument code j n) p (91 ∷ bs) ns false us
      unfolding Grammar.step argument_step fitting gives
      at_second a h r =
          let m : n + 1 - 1 ≡ n = omega arith in
          plain_step all end (token 91 p (91 ∷ [])) 0 (spelled-sign open_list p bs) refl (omega arith) (λ e. rw (a, h, ne_eqb (n + 1) 0 (λ z. omega arith), m, eq-eqb n n refl)) r

      -- the other lists, whose length is a word
      pub at-list : {o c x : ℕ} → ListOf o c x false → (w : ℕ) → kind w ≡ 6 → argument_form code j ≡ Many o x c false → length_from x c o 0 (tokens_from 0 (p + 1) bs) ≡ payload w + 1 →
          Reads all end (Inside code (j + 1) (payload w) x c o) (p + 1) bs ns false us → Reads all end (Argument code j n) p (o ∷ bs) ns false (w ∷ us)
      unfolding Grammar.step argument_step fitting gives
      at-list {o} {c} {x} l w k a h r =
          word-step all end {next = Inside code (j + 1) (payload w) x c o} (token o p (o ∷ [])) w (some_word 5 w k) (spelled-sign (opening_of l).0 p bs) refl (omega arith)
          (λ e. rw (a, h, one_less w, eq-eqb o o refl) (worded (word_back 6 w k))) (rw (opening_of l).1 r)

  -- ---- the name of a builtin

  module _ {p : ℕ} {bs : List ℕ} {ns : List (List ℕ)} {us : List ℕ} (code w : ℕ) where
    pub at-builtin : kind w ≡ 4 → payload w ≡ code → 1 ≤ code → code ≤ last → Reads all end (Opening code) (p + length (builtin_name code)) (40 ∷ bs) ns false us →
        Reads all end Builtin p (builtin_name code ++ (40 ∷ bs)) ns false (w ∷ us)
    unfolding Grammar.step Grammar.name_step of_sort gives code_of
    at-builtin k e l h r =
        let q = builtin-named p code bs l h in
        let c = q.code_is in
        word-step all end (token 2 p (builtin_name code)) w (some_word 3 w k) q.next refl (omega (arith, q.some))
        (λ z. rw (c, lt-ltb 0 code l) (worded (rw (← e) (word_back 4 w k)))) r
