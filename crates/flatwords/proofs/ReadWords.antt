-- The words of a system are read as its variables and its builtins.
use Rattle.std.proofs.Common.{◌≡◌, refl, sym, ap, ap₂, ◌∙◌, Bool, true, false, ◌||◌, List, [], ◌∷◌, ◌++◌, map, append_assoc, append-nil, ℕ, zero, suc, ◌+◌, ◌<◌, ◌≤◌, arith, eqb, le-leb, ℤ, length, length-append, get_or}
use Rattle.std.proofs.lemmas.List.{length-map, get_or-append-add}
use Rattle.integers.specs.Number.{+0}
use Rattle.integers.specs.Lists.{list_of}
use Rattle.integers.specs.declared.Bounds.{Bounds}
use Rattle.integers.specs.Terms.{Term, ◌·◌}
use Rattle.integers.proofs.Tests.{All}
use Rattle.integers.proofs.Lists.{all_append, all_implies}
use Rattle.words.specs.Word.{word, number_word, kind, payload, signed, word_at}
use Rattle.words.specs.Kind as Kind
use Rattle.words.specs.Variables.{variables, starts_pair}
use Rattle.words.proofs.ReadBack.{kind-word, kind-number, payload-word, signed-number}
use Rattle.models.specs.Table.{Sort, integer, boolean, number, exponent, numbers, set, integers, booleans, parallel, Argument, Takes}
use Rattle.models.specs.Builtin.{Builtin, int_eq, int_le, int_lt, int_ne, int_le_reif, int_plus, int_times, int_abs, int_max, int_lin_eq, int_lin_le, int_lin_ne, int_lin_eq_reif, int_eq_reif, int_lin_le_reif, bool2int, bool_not, bool_and, bool_or, bool_xor, bool_clause, array_bool_and, array_bool_xor, array_int_element, array_var_int_element, array_int_maximum, set_in, set_in_reif, int_min, int_lt_reif, int_ne_reif, int_lin_ne_reif, array_int_minimum, bool_eq_reif, bool_le_reif, bool_lt_reif, int_div, int_mod, int_pow}
use Rattle.models.specs.Model.{constraints, constraints_from, builtin, builtins, given, var, num, size, vars, nums, past, terms, past_terms, exponent_at, argument_at, place_after}
use Rattle.models.proofs.Arguments.{Given, arguments_of}
use Rattle.flatzinc.specs.declared.ModelVariable.{ModelVariable}
use Rattle.flatzinc.specs.Numbers.{variable_bounds, bounds_of}
use Rattle.flatwords.specs.Fits.{Small, InRange, SmallTerm, ArgumentFits, BuiltinFits, VariableFits}
use Rattle.flatwords.specs.SystemWords.{variable_words, argument_words, given_words, code_of, constraint_words, all_variable_words, all_constraint_words, words_of}

-- ---- lists

listed : {A : Type 0} (g : ℕ → A) (xs : List A) (d : A) → ((k : ℕ) → k < length xs → g k ≡ get_or xs k d) → list_of g (length xs) ≡ xs
unfolding list_of
listed g [] d e = refl
listed g (x ∷ xs) d e = ap₂ ◌∷◌ (e zero (omega arith)) (listed (λ k. g (suc k)) xs d (λ k l. e (suc k) (omega arith)))

elements_by : {A C : Type 0} (f : A → ℕ) (back : ℕ → C) (part : A → C) (P : A → Type 0) → ((a : A) → P a → back (f a) ≡ part a) → (xs : List A) (post : List ℕ) (d : A) →
    All P xs → (k : ℕ) → k < length xs → back (get_or (map f xs ++ post) k 0) ≡ part (get_or xs k d)
elements_by f back part P e [] post d h k l = absurd (omega arith)
elements_by f back part P e (x ∷ xs) post d h zero l = e x h.0
elements_by f back part P e (x ∷ xs) post d h (suc k) l = elements_by f back part P e xs post d h.1 k (omega arith)

elements : {A : Type 0} (f : A → ℕ) (back : ℕ → A) (P : A → Type 0) → ((a : A) → P a → back (f a) ≡ a) → (xs : List A) (post : List ℕ) (d : A) → All P xs →
    (k : ℕ) → k < length xs → back (get_or (map f xs ++ post) k 0) ≡ get_or xs k d
elements f back P e xs post d h k l = elements_by f back (λ a. a) P e xs post d h k l

-- ---- one argument, between other words

module _ (pre R : List ℕ) where
  abbrev ws : List ℕ
  ws = pre ++ R

  abbrev i : ℕ
  i = length pre

  after-head : (k : ℕ) → word_at ws (i + 1 + k) ≡ word_at R (suc k)
  unfolding word_at
  after-head k = ap (λ (n : ℕ). get_or ws n 0) (omega arith) ∙ get_or-append-add pre R (suc k) 0

  at-head : word_at ws i ≡ word_at R 0
  unfolding word_at
  at-head = ap (λ (n : ℕ). get_or ws n 0) (omega arith) ∙ get_or-append-add pre R 0 0

  size-is : (n : ℕ) → word_at R 0 ≡ word Kind.number n → n ≤ 32 → size ws i ≡ n
  unfolding size var
  size-is n e l =
      let p : payload (word_at ws i) ≡ n = ap payload (at-head ∙ e) ∙ payload-word Kind.number n (omega arith) in
      rw (p, le-leb n 32 l) refl

module _ (pre post : List ℕ) where
  abbrev Around : List ℕ → List ℕ
  Around aws = pre ++ (aws ++ post)

  at-argument : (s : Sort) (a : Argument s) → ArgumentFits s a → argument_at (Around (argument_words s a)) (length pre) s ≡ a
  unfolding argument_words var num exponent_at nums vars terms past word_at
  at-argument integer v h = ap payload (at-head pre (word Kind.variable v ∷ post)) ∙ payload-word Kind.variable v h
  at-argument boolean v h = ap payload (at-head pre (word Kind.variable v ∷ post)) ∙ payload-word Kind.variable v h
  at-argument number n h = ap signed (at-head pre (number_word Kind.number n ∷ post)) ∙ signed-number Kind.number n h
  at-argument exponent k h =
      let p = ap payload (at-head pre (word Kind.number k ∷ post)) ∙ payload-word Kind.number k (omega arith) in
      rw (p, le-leb k 27 h) refl
  at-argument numbers ns h =
      let R = word Kind.number (length ns) ∷ (map (number_word Kind.number) ns ++ post) in
      ap (list_of (λ k. signed (word_at (pre ++ R) (length pre + 1 + k)))) (size-is pre R (length ns) refl h.0)
      ∙ listed (λ k. signed (word_at (pre ++ R) (length pre + 1 + k))) ns +0
      (λ k l. ap signed (after-head pre R k) ∙ elements (number_word Kind.number) signed InRange (λ a r. signed-number Kind.number a r) ns post +0 h.1 k l)
  at-argument set ns h =
      let R = word Kind.number (length ns) ∷ (map (number_word Kind.number) ns ++ post) in
      ap (list_of (λ k. signed (word_at (pre ++ R) (length pre + 1 + k)))) (size-is pre R (length ns) refl h.0)
      ∙ listed (λ k. signed (word_at (pre ++ R) (length pre + 1 + k))) ns +0
      (λ k l. ap signed (after-head pre R k) ∙ elements (number_word Kind.number) signed InRange (λ a r. signed-number Kind.number a r) ns post +0 h.1 k l)
  at-argument integers vs h =
      let R = word Kind.number (length vs) ∷ (map (word Kind.variable) vs ++ post) in
      ap (list_of (λ k. payload (word_at (pre ++ R) (length pre + 1 + k)))) (size-is pre R (length vs) refl h.0)
      ∙ listed (λ k. payload (word_at (pre ++ R) (length pre + 1 + k))) vs 0
      (λ k l. ap payload (after-head pre R k) ∙ elements (word Kind.variable) payload Small (λ a r. payload-word Kind.variable a r) vs post 0 h.1 k l)
  at-argument booleans vs h =
      let R = word Kind.number (length vs) ∷ (map (word Kind.variable) vs ++ post) in
      ap (list_of (λ k. payload (word_at (pre ++ R) (length pre + 1 + k)))) (size-is pre R (length vs) refl h.0)
      ∙ listed (λ k. payload (word_at (pre ++ R) (length pre + 1 + k))) vs 0
      (λ k l. ap payload (after-head pre R k) ∙ elements (word Kind.variable) payload Small (λ a r. payload-word Kind.variable a r) vs post 0 h.1 k l)
  at-argument parallel ts h =
      let A : List ℕ = map (λ (t : Term ℕ). number_word Kind.number t.coefficient) ts in
      let B : List ℕ = map (λ (t : Term ℕ). word Kind.variable t.variable) ts in
      let R = word Kind.number (length ts) ∷ ((A ++ B) ++ post) in
      let e : size (pre ++ R) (length pre) ≡ length ts = size-is pre R (length ts) refl h.0 in
      let G : ℕ → Term ℕ = λ k. signed (word_at (pre ++ R) (length pre + 1 + k)) · payload (word_at (pre ++ R) (past (pre ++ R) (length pre) + k)) in
      ap (list_of G) e ∙ listed G ts (+0 · 0) (λ k l. ap₂ (λ c x. c · x) (coefficient-at ts h k l) (variable-at ts h e k l))
    where
      coefficient-at : (us : List (Term ℕ)) → ArgumentFits parallel us → (k : ℕ) → k < length us →
          signed (word_at (Around (argument_words parallel us)) (length pre + 1 + k)) ≡ (get_or us k (+0 · 0)).coefficient
      coefficient-at us h k l =
          let A : List ℕ = map (λ (t : Term ℕ). number_word Kind.number t.coefficient) us in
          let B : List ℕ = map (λ (t : Term ℕ). word Kind.variable t.variable) us in
          ap signed (after-head pre (word Kind.number (length us) ∷ ((A ++ B) ++ post)) k)
          ∙ ap (λ (r : List ℕ). signed (get_or r k 0)) (append_assoc A B post)
          ∙ elements_by (λ (t : Term ℕ). number_word Kind.number t.coefficient) signed (λ t. t.coefficient) SmallTerm (λ t r. signed-number Kind.number t.coefficient r.0) us (B ++ post) (+0 · 0) h.1 k l

      variable-at : (us : List (Term ℕ)) → ArgumentFits parallel us → size (Around (argument_words parallel us)) (length pre) ≡ length us → (k : ℕ) → k < length us →
          payload (word_at (Around (argument_words parallel us)) (past (Around (argument_words parallel us)) (length pre) + k)) ≡ (get_or us k (+0 · 0)).variable
      variable-at us h e k l =
          let A : List ℕ = map (λ (t : Term ℕ). number_word Kind.number t.coefficient) us in
          let B : List ℕ = map (λ (t : Term ℕ). word Kind.variable t.variable) us in
          let m : length A ≡ length us = length-map us (λ (t : Term ℕ). number_word Kind.number t.coefficient) in
          let at : past (Around (argument_words parallel us)) (length pre) + k ≡ length pre + 1 + (length A + k) = omega arith in
          ap (λ (n : ℕ). payload (word_at (Around (argument_words parallel us)) n)) at
          ∙ ap payload (after-head pre (word Kind.number (length us) ∷ ((A ++ B) ++ post)) (length A + k))
          ∙ ap (λ (r : List ℕ). payload (get_or r (length A + k) 0)) (append_assoc A B post)
          ∙ ap payload (get_or-append-add A (B ++ post) k 0)
          ∙ elements_by (λ (t : Term ℕ). word Kind.variable t.variable) payload (λ t. t.variable) SmallTerm (λ t r. payload-word Kind.variable t.variable r.1) us post (+0 · 0) h.1 k l

  place-after : (s : Sort) (a : Argument s) → ArgumentFits s a → place_after (Around (argument_words s a)) (length pre) s ≡ length pre + length (argument_words s a)
  unfolding argument_words past past_terms word_at
  place-after integer v h = omega arith
  place-after boolean v h = omega arith
  place-after number n h = omega arith
  place-after exponent k h = omega arith
  place-after numbers ns h =
      let e = size-is pre (word Kind.number (length ns) ∷ (map (number_word Kind.number) ns ++ post)) (length ns) refl h.0 in let m = length-map ns (number_word Kind.number) in omega arith
  place-after set ns h =
      let e = size-is pre (word Kind.number (length ns) ∷ (map (number_word Kind.number) ns ++ post)) (length ns) refl h.0 in let m = length-map ns (number_word Kind.number) in omega arith
  place-after integers vs h =
      let e = size-is pre (word Kind.number (length vs) ∷ (map (word Kind.variable) vs ++ post)) (length vs) refl h.0 in let m = length-map vs (word Kind.variable) in omega arith
  place-after booleans vs h =
      let e = size-is pre (word Kind.number (length vs) ∷ (map (word Kind.variable) vs ++ post)) (length vs) refl h.0 in let m = length-map vs (word Kind.variable) in omega arith
  place-after parallel ts h =
      let A : List ℕ = map (λ (t : Term ℕ). number_word Kind.number t.coefficient) ts in
      let B : List ℕ = map (λ (t : Term ℕ). word Kind.variable t.variable) ts in
      let e = size-is pre (word Kind.number (length ts) ∷ ((A ++ B) ++ post)) (length ts) refl h.0 in
      let m = length-map ts (λ (t : Term ℕ). number_word Kind.number t.coefficient) in
      let n = length-map ts (λ (t : Term ℕ). word Kind.variable t.variable) in
      let a = length-append A B in
      omega arith

-- ---- all arguments of a builtin

abbrev sorts_of : List Given → List Sort
sorts_of [] = []
sorts_of (g ∷ gs) = g.sort ∷ sorts_of gs

abbrev applied : (gs : List Given) → Takes (sorts_of gs) → Builtin
applied [] b = b
applied (g ∷ gs) f = applied gs (f g.is)

given-read : (gs : List Given) (pre post : List ℕ) (f : Takes (sorts_of gs)) → All (λ g. ArgumentFits g.sort g.is) gs →
    given (pre ++ (given_words gs ++ post)) (length pre) (sorts_of gs) f ≡ applied gs f
unfolding given_words
given-read [] pre post f h = refl
given-read (g ∷ gs) pre post f h =
    let aw = argument_words g.sort g.is in
    let R = given_words gs ++ post in
    let e : pre ++ ((aw ++ given_words gs) ++ post) ≡ pre ++ (aw ++ R) = ap (λ (l : List ℕ). pre ++ l) (append_assoc aw (given_words gs) post) in
    let v = at-argument pre R g.sort g.is h.0 in
    let n : place_after (pre ++ (aw ++ R)) (length pre) g.sort ≡ length (pre ++ aw) = place-after pre R g.sort g.is h.0 ∙ sym (length-append pre aw) in
    ap (λ (l : List ℕ). given l (place_after l (length pre) g.sort) (sorts_of gs) (f (argument_at l (length pre) g.sort))) e
    ∙ ap₂ (λ (k : ℕ) (a : Argument g.sort). given (pre ++ (aw ++ R)) k (sorts_of gs) (f a)) n v
    ∙ ap (λ (l : List ℕ). given l (length (pre ++ aw)) (sorts_of gs) (f g.is)) (sym (append_assoc pre aw R))
    ∙ given-read gs (pre ++ aw) post (f g.is) h.1

-- the constraint of these words is the builtin
abbrev Read : Builtin → ℕ → List ℕ → Builtin
Read b place post = builtin (record { place = place; code = payload (word Kind.constraint (code_of b)); arguments = given_words (arguments_of b) ++ post })

by-code : (n : ℕ) (place : ℕ) (args : List ℕ) → n < 268435456 →
    builtin (record { place = place; code = payload (word Kind.constraint n); arguments = args }) ≡ get_or builtins n (λ ws. int_eq 0 0) args
unfolding builtin
by-code n place args l = ap (λ (k : ℕ). get_or builtins k (λ ws. int_eq 0 0) args) (payload-word Kind.constraint n l)

read-builtin : (b : Builtin) (place : ℕ) (post : List ℕ) → BuiltinFits b → Read b place post ≡ b
unfolding builtins code_of
read-builtin (int_eq a b) place post h = by-code 1 place _ (omega arith) ∙ given-read (arguments_of (int_eq a b)) [] post int_eq h
read-builtin (int_le a b) place post h = by-code 2 place _ (omega arith) ∙ given-read (arguments_of (int_le a b)) [] post int_le h
read-builtin (int_lt a b) place post h = by-code 3 place _ (omega arith) ∙ given-read (arguments_of (int_lt a b)) [] post int_lt h
read-builtin (int_ne a b) place post h = by-code 4 place _ (omega arith) ∙ given-read (arguments_of (int_ne a b)) [] post int_ne h
read-builtin (int_le_reif a b r) place post h = by-code 5 place _ (omega arith) ∙ given-read (arguments_of (int_le_reif a b r)) [] post int_le_reif h
read-builtin (int_plus a b c) place post h = by-code 6 place _ (omega arith) ∙ given-read (arguments_of (int_plus a b c)) [] post int_plus h
read-builtin (int_times a b c) place post h = by-code 7 place _ (omega arith) ∙ given-read (arguments_of (int_times a b c)) [] post int_times h
read-builtin (int_abs x y) place post h = by-code 8 place _ (omega arith) ∙ given-read (arguments_of (int_abs x y)) [] post int_abs h
read-builtin (int_max a b c) place post h = by-code 9 place _ (omega arith) ∙ given-read (arguments_of (int_max a b c)) [] post int_max h
read-builtin (int_lin_eq asbs c) place post h = by-code 10 place _ (omega arith) ∙ given-read (arguments_of (int_lin_eq asbs c)) [] post int_lin_eq h
read-builtin (int_lin_le asbs c) place post h = by-code 11 place _ (omega arith) ∙ given-read (arguments_of (int_lin_le asbs c)) [] post int_lin_le h
read-builtin (int_lin_ne asbs c) place post h = by-code 12 place _ (omega arith) ∙ given-read (arguments_of (int_lin_ne asbs c)) [] post int_lin_ne h
read-builtin (int_lin_eq_reif asbs c r) place post h = by-code 13 place _ (omega arith) ∙ given-read (arguments_of (int_lin_eq_reif asbs c r)) [] post int_lin_eq_reif h
read-builtin (int_eq_reif a b r) place post h = by-code 14 place _ (omega arith) ∙ given-read (arguments_of (int_eq_reif a b r)) [] post int_eq_reif h
read-builtin (int_lin_le_reif asbs c r) place post h = by-code 15 place _ (omega arith) ∙ given-read (arguments_of (int_lin_le_reif asbs c r)) [] post int_lin_le_reif h
read-builtin (bool2int a b) place post h = by-code 16 place _ (omega arith) ∙ given-read (arguments_of (bool2int a b)) [] post bool2int h
read-builtin (bool_not a b) place post h = by-code 17 place _ (omega arith) ∙ given-read (arguments_of (bool_not a b)) [] post bool_not h
read-builtin (bool_and a b r) place post h = by-code 18 place _ (omega arith) ∙ given-read (arguments_of (bool_and a b r)) [] post bool_and h
read-builtin (bool_or a b r) place post h = by-code 19 place _ (omega arith) ∙ given-read (arguments_of (bool_or a b r)) [] post bool_or h
read-builtin (bool_xor a b r) place post h = by-code 20 place _ (omega arith) ∙ given-read (arguments_of (bool_xor a b r)) [] post bool_xor h
read-builtin (bool_clause xs ys) place post h = by-code 21 place _ (omega arith) ∙ given-read (arguments_of (bool_clause xs ys)) [] post bool_clause h
read-builtin (array_bool_and xs r) place post h = by-code 22 place _ (omega arith) ∙ given-read (arguments_of (array_bool_and xs r)) [] post array_bool_and h
read-builtin (array_bool_xor xs) place post h = by-code 23 place _ (omega arith) ∙ given-read (arguments_of (array_bool_xor xs)) [] post array_bool_xor h
read-builtin (array_int_element i ns c) place post h = by-code 24 place _ (omega arith) ∙ given-read (arguments_of (array_int_element i ns c)) [] post array_int_element h
read-builtin (array_var_int_element i xs c) place post h = by-code 25 place _ (omega arith) ∙ given-read (arguments_of (array_var_int_element i xs c)) [] post array_var_int_element h
read-builtin (array_int_maximum m xs) place post h = by-code 26 place _ (omega arith) ∙ given-read (arguments_of (array_int_maximum m xs)) [] post array_int_maximum h
read-builtin (set_in x S) place post h = by-code 27 place _ (omega arith) ∙ given-read (arguments_of (set_in x S)) [] post set_in h
read-builtin (set_in_reif x S r) place post h = by-code 28 place _ (omega arith) ∙ given-read (arguments_of (set_in_reif x S r)) [] post set_in_reif h
read-builtin (int_min a b c) place post h = by-code 29 place _ (omega arith) ∙ given-read (arguments_of (int_min a b c)) [] post int_min h
read-builtin (int_lt_reif a b r) place post h = by-code 30 place _ (omega arith) ∙ given-read (arguments_of (int_lt_reif a b r)) [] post int_lt_reif h
read-builtin (int_ne_reif a b r) place post h = by-code 31 place _ (omega arith) ∙ given-read (arguments_of (int_ne_reif a b r)) [] post int_ne_reif h
read-builtin (int_lin_ne_reif asbs c r) place post h = by-code 32 place _ (omega arith) ∙ given-read (arguments_of (int_lin_ne_reif asbs c r)) [] post int_lin_ne_reif h
read-builtin (array_int_minimum m xs) place post h = by-code 33 place _ (omega arith) ∙ given-read (arguments_of (array_int_minimum m xs)) [] post array_int_minimum h
read-builtin (bool_eq_reif a b r) place post h = by-code 34 place _ (omega arith) ∙ given-read (arguments_of (bool_eq_reif a b r)) [] post bool_eq_reif h
read-builtin (bool_le_reif a b r) place post h = by-code 35 place _ (omega arith) ∙ given-read (arguments_of (bool_le_reif a b r)) [] post bool_le_reif h
read-builtin (bool_lt_reif a b r) place post h = by-code 36 place _ (omega arith) ∙ given-read (arguments_of (bool_lt_reif a b r)) [] post bool_lt_reif h
read-builtin (int_div n d q) place post h = by-code 37 place _ (omega arith) ∙ given-read (arguments_of (int_div n d q)) [] post int_div h
read-builtin (int_mod n d r) place post h = by-code 38 place _ (omega arith) ∙ given-read (arguments_of (int_mod n d r)) [] post int_mod h
read-builtin (int_pow x k z) place post h = by-code 39 place _ (omega arith) ∙ given-read (arguments_of (int_pow x k z)) [] post int_pow h

-- ---- the words of all constraints: each word that starts none is passed over

abbrev Quiet : ℕ → Type 0
Quiet w = (eqb (kind w) Kind.constraint ≡ false) × (starts_pair w ≡ false) × (eqb (kind w) Kind.boolean ≡ false)

quiet-kind : (w k : ℕ) → kind w ≡ k → eqb k Kind.constraint ≡ false → (eqb k Kind.lower || eqb k Kind.auxiliary_lower) ≡ false → eqb k Kind.boolean ≡ false → Quiet w
unfolding starts_pair
quiet-kind w k e c p b = rw e (c, p, b)

quiet-number : (z : ℤ) → Quiet (number_word Kind.number z)
quiet-number z = quiet-kind (number_word Kind.number z) 6 (kind-number 6 z) refl refl refl

quiet-count : (n : ℕ) → Quiet (word Kind.number n)
quiet-count n = quiet-kind (word Kind.number n) 6 (kind-word 6 n) refl refl refl

quiet-variable : (v : ℕ) → Quiet (word Kind.variable v)
quiet-variable v = quiet-kind (word Kind.variable v) 5 (kind-word 5 v) refl refl refl

all-quiet : {A : Type 0} (f : A → ℕ) → ((a : A) → Quiet (f a)) → (xs : List A) → All Quiet (map f xs)
all-quiet f q [] = tt
all-quiet f q (x ∷ xs) = (q x, all-quiet f q xs)

quiet-argument : (s : Sort) (a : Argument s) → All Quiet (argument_words s a)
unfolding argument_words
quiet-argument integer v = (quiet-variable v, tt)
quiet-argument boolean v = (quiet-variable v, tt)
quiet-argument number n = (quiet-number n, tt)
quiet-argument exponent k = (quiet-count k, tt)
quiet-argument numbers ns = (quiet-count (length ns), all-quiet (number_word Kind.number) quiet-number ns)
quiet-argument set ns = (quiet-count (length ns), all-quiet (number_word Kind.number) quiet-number ns)
quiet-argument integers vs = (quiet-count (length vs), all-quiet (word Kind.variable) quiet-variable vs)
quiet-argument booleans vs = (quiet-count (length vs), all-quiet (word Kind.variable) quiet-variable vs)
quiet-argument parallel ts = (
  quiet-count (length ts),
  (all_append Quiet (map (λ (t : Term ℕ). number_word Kind.number t.coefficient) ts) (map (λ (t : Term ℕ). word Kind.variable t.variable) ts)).1
      (all-quiet (λ (t : Term ℕ). number_word Kind.number t.coefficient) (λ t. quiet-number t.coefficient) ts, all-quiet (λ (t : Term ℕ). word Kind.variable t.variable) (λ t. quiet-variable t.variable) ts),
)

quiet-given : (gs : List Given) → All Quiet (given_words gs)
unfolding given_words
quiet-given [] = tt
quiet-given (g ∷ gs) = (all_append Quiet (argument_words g.sort g.is) (given_words gs)).1 (quiet-argument g.sort g.is, quiet-given gs)

abbrev Builtins : ℕ → List ℕ → List Builtin
Builtins p ws = map builtin (constraints_from p ws)

abbrev StartsNone : ℕ → Type 0
StartsNone w = eqb (kind w) Kind.constraint ≡ false

pass : (qs : List ℕ) (p : ℕ) (rest : List ℕ) → All StartsNone qs → Builtins p (qs ++ rest) ≡ Builtins (p + length qs) rest
unfolding constraints_from
pass [] p rest h = ap (λ (n : ℕ). Builtins n rest) (omega arith)
pass (q ∷ qs) p rest h = rw h.0 (pass qs (p + 1) rest h.1 ∙ ap (λ (n : ℕ). Builtins n rest) (omega arith))

none-starts : (qs : List ℕ) → All Quiet qs → All StartsNone qs
none-starts qs h = all_implies Quiet StartsNone (λ w q. q.0) qs h

silent : (qs : List ℕ) (rest : List ℕ) → All Quiet qs → variables (qs ++ rest) ≡ variables rest
unfolding variables
silent [] rest h = refl
silent (q ∷ qs) rest h = rw (h.0.1, h.0.2) (silent qs rest h.1)

read-constraints : (bs : List Builtin) (p : ℕ) → All BuiltinFits bs → Builtins p (all_constraint_words bs) ≡ bs
unfolding all_constraint_words constraint_words constraints_from
read-constraints [] p h = rw (kind-word 7 0) refl
read-constraints (b ∷ bs) p h =
    let args = given_words (arguments_of b) in
    rw (kind-word 4 (code_of b))
    (ap₂ ◌∷◌ (read-builtin b p (all_constraint_words bs) h.0) (pass args (p + 1) (all_constraint_words bs) (none-starts args (quiet-given (arguments_of b))) ∙ read-constraints bs (p + 1 + length args) h.1))

no-variables : (bs : List Builtin) → variables (all_constraint_words bs) ≡ []
unfolding all_constraint_words constraint_words variables starts_pair
no-variables [] = rw (kind-word 7 0) refl
no-variables (b ∷ bs) =
    let args = given_words (arguments_of b) in
    rw (kind-word 4 (code_of b)) (silent args (all_constraint_words bs) (quiet-given (arguments_of b)) ∙ no-variables bs)

-- ---- the words of all variables

one-variable : (t : Bool) (B : Bounds) (rest : List ℕ) → VariableFits t B → variables (variable_words t B ++ rest) ≡ variable_bounds t B ∷ variables rest
unfolding variable_words variables starts_pair word_at
one-variable true B rest h = rw (kind-word 3 0) refl
one-variable false B rest h =
    rw (kind-number 1 B.lower, kind-number 2 B.upper, signed-number 1 B.lower h.0, signed-number 2 B.upper h.1) refl

no-heads : (t : Bool) (B : Bounds) → All StartsNone (variable_words t B)
unfolding variable_words
no-heads true B = (rw (kind-word 3 0) refl, tt)
no-heads false B = (rw (kind-number 1 B.lower) refl, (rw (kind-number 2 B.upper) refl, tt))

none-in-variables : (vs : List ModelVariable) → All StartsNone (all_variable_words vs)
unfolding all_variable_words
none-in-variables [] = tt
none-in-variables (v ∷ vs) = (all_append StartsNone (variable_words v.is_boolean v.bounds) (all_variable_words vs)).1 (no-heads v.is_boolean v.bounds, none-in-variables vs)

read-all_variables : (vs : List ModelVariable) (rest : List ℕ) → All (λ v. VariableFits v.is_boolean v.bounds) vs → variables (all_variable_words vs ++ rest) ≡ bounds_of vs ++ variables rest
unfolding all_variable_words
read-all_variables [] rest h = refl
read-all_variables (v ∷ vs) rest h =
    ap (λ (l : List ℕ). variables l) (append_assoc (variable_words v.is_boolean v.bounds) (all_variable_words vs) rest)
    ∙ one-variable v.is_boolean v.bounds (all_variable_words vs ++ rest) h.0
    ∙ ap (λ l. variable_bounds v.is_boolean v.bounds ∷ l) (read-all_variables vs rest h.1)

-- ---- the words of a system

module _ (vs : List ModelVariable) (bs : List Builtin) where
  pub words_variables : All (λ v. VariableFits v.is_boolean v.bounds) vs → variables (words_of vs bs) ≡ bounds_of vs
  unfolding words_of
  words_variables h = read-all_variables vs (all_constraint_words bs) h ∙ ap (λ l. bounds_of vs ++ l) (no-variables bs) ∙ append-nil (bounds_of vs)

  pub words_builtins : All BuiltinFits bs → map builtin (constraints (words_of vs bs)) ≡ bs
  unfolding words_of constraints
  words_builtins h = pass (all_variable_words vs) 0 (all_constraint_words bs) (none-in-variables vs) ∙ read-constraints bs (0 + length (all_variable_words vs)) h
