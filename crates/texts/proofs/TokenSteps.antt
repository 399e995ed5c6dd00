-- What a token without a fault does: its word or none, and what is due after it.
use Rattle.std.proofs.Common.{◌≡◌, refl, sym, ◌∙◌, Bool, true, false, ◌&&◌, List, [], ◌∷◌, map, ℕ, suc, ◌+◌, ◌-◌, ◌≤◌, add-zero, arith, eqb, ltb, length, eqb-true, ne_eqb}
use Rattle.integers.specs.Choice.{◌if◌else◌}
use Rattle.integers.proofs.Tests.{false-true}
use Rattle.words.specs.Word.{kind, in_range, word, number_word}
use Rattle.words.specs.Refusal.{accepted}
use Rattle.words.proofs.Reading.{passed}
use Rattle.words.proofs.ReadBack.{kind-word}
use Rattle.tokens.specs.Byte.{bytes}
use Rattle.tokens.specs.Token.{Token, end_of}
use Rattle.names.specs.Name.{same, look_up, builtin_names, code_of, variable_of}
use Rattle.grammar.specs.Value.{value_of}
use Rattle.grammar.specs.Brackets.{fits_inside, length_from}
use Rattle.grammar.specs.Grammar.{TokenStep, Due, Next, Inside, gives, fitting, of_sort, name_step, number_step, single_step, step}
use Rattle.texts.specs.Text.{fault_from, words_from}
use Rattle.texts.proofs.WordTurns.{Numeric, numeric}

abbrev pub passes : ℕ → Due → TokenStep
passes w next = record { fault = 0; word = w; next = next }

pub fits : (b : Bool) (w : ℕ) (next : Due) → (fitting b w next).fault ≡ 0 → (b ≡ true) × (fitting b w next ≡ passes w next)
unfolding fitting gives
fits true w next e = (refl, refl)
fits false w next e = absurd (omega arith)

pub of-sort : (sort s : ℕ) (right : Bool) (number w : ℕ) (next : Due) → (number ≡ 0 → ⊥) → (of_sort sort s right number w next).fault ≡ 0 →
    (right ≡ true) × (of_sort sort s right number w next ≡ passes w next)
unfolding of_sort gives
of-sort sort s right number w next n e = go (eqb s sort) right e
  where
    go : (a r : Bool) → ((0 if r else number) if a else 19) ≡ 0 →
        (r ≡ true) × (gives ((0 if r else number) if a else 19) w next ≡ passes w next)
    go true true e = (refl, refl)
    go true false e = absurd (n e)
    go false r e = absurd (omega arith)

-- of a number
pub number-passes : (k : ℕ) (t : Token) (next : Due) → (number_step k t next).fault ≡ 0 → (in_range (value_of t.spelling) ≡ true) × (number_step k t next ≡ passes (number_word k (value_of t.spelling)) next)
unfolding number_step
number-passes k t next e = of-sort 1 t.sort _ 21 _ next (λ z. omega arith) e

-- of a name
pub name-passes : (s : ℕ) (right : Bool) (w : ℕ) (next : Due) → (name_step s right w next).fault ≡ 0 → (right ≡ true) × (name_step s right w next ≡ passes w next)
unfolding name_step
name-passes s right w next e = of-sort 2 s right 20 w next (λ z. omega arith) e

-- of an argument or element of one token
pub record Single (element w : ℕ) : Type 0 where
  pub number : eqb element 1 ≡ true → Numeric w
  pub variable : eqb element 1 ≡ false → kind w ≡ 5

pub single : (all : List Token) (element : ℕ) (t : Token) (next : Due) → (single_step all element t next).fault ≡ 0 → (w : ℕ) × ((single_step all element t next ≡ passes w next) × Single element w)
unfolding single_step
single all element t next e = go (eqb element 1) refl e
  where
    v : ℕ
    v = variable_of all t

    go : (b : Bool) → eqb element 1 ≡ b → (number_step 6 t next if b else name_step t.sort (ltb 0 v) (word 5 (v - 1)) next).fault ≡ 0 →
        (w : ℕ) × (((number_step 6 t next if b else name_step t.sort (ltb 0 v) (word 5 (v - 1)) next) ≡ passes w next) × Single element w)
    go true q e =
        let p = number-passes 6 t next e in
        (number_word 6 (value_of t.spelling), (p.1, record { number = λ z. numeric (value_of t.spelling) p.0; variable = λ z. false-true (sym z ∙ q) }))
    go false q e =
        let p = name-passes t.sort (ltb 0 v) (word 5 (v - 1)) next e in
        (word 5 (v - 1), (p.1, record { number = λ z. false-true (sym q ∙ z); variable = λ z. kind-word 5 (v - 1) }))

-- it writes a word
pub not_none : (w : ℕ) {element : ℕ} → Single element w → w ≡ 0 → ⊥
unfolding kind
not_none w {element} s z = go (eqb element 1) refl
  where
    go : (b : Bool) → eqb element 1 ≡ b → ⊥
    go true q = omega (arith, (s.number q).kind-is, z)
    go false q = omega (arith, s.variable q, z)

-- codes
look_up-le : (x : List ℕ) (k : ℕ) (ys : List (List ℕ)) → look_up x k ys ≤ k + length ys
unfolding look_up
look_up-le x k [] = omega arith
look_up-le x k (y ∷ ys) = go (same x y) (look_up-le x (k + 1) ys)
  where
    go : (b : Bool) → look_up x (k + 1) ys ≤ k + 1 + length ys → (k + 1 if b else look_up x (k + 1) ys) ≤ k + suc (length ys)
    go true l = omega arith
    go false l = omega arith

pub code-le : (t : Token) → code_of t ≤ 39
unfolding code_of builtin_names
code-le t = look_up-le t.spelling 0 (map bytes builtin_names)

-- ---- in brackets

-- an element's sort and a closing bracket
pub record ListOf (el cl : ℕ) : Type 0 where
  pub apart : eqb el cl ≡ false
  pub no-end : eqb 257 el ≡ false
  pub no-closing : eqb 257 cl ≡ false

-- how many elements are left
unfoldable pub left_in : ℕ → ℕ → ℕ → List Token → ℕ
left_in el cl before [] = 0
left_in el cl before (t ∷ ts) = (0 if eqb t.sort cl else (1 if eqb t.sort el else 0) + left_in el cl t.sort ts) if fits_inside el cl before t.sort else 0

module _ (all : List Token) (c j n : ℕ) {el cl : ℕ} (l : ListOf el cl) where
  pub data InsideStep (before : ℕ) (t : Token) (ts : List Token) : Type 0 where
    element : (w : ℕ) → step all (Inside c j n el cl before) t ts ≡ passes w (Inside c j n el cl el) → Single el w → left_in el cl before (t ∷ ts) ≡ suc (left_in el cl el ts) →
        ((x : ℕ) → length_from el cl before x (t ∷ ts) ≡ length_from el cl el (x + 1) ts) → InsideStep before t ts
    comma : (b : ℕ) → step all (Inside c j n el cl before) t ts ≡ passes 0 (Inside c j n el cl b) → left_in el cl before (t ∷ ts) ≡ left_in el cl b ts →
        ((x : ℕ) → length_from el cl before x (t ∷ ts) ≡ length_from el cl b x ts) → InsideStep before t ts
    close : step all (Inside c j n el cl before) t ts ≡ passes 0 (Next c j n) → left_in el cl before (t ∷ ts) ≡ 0 → ((x : ℕ) → length_from el cl before x (t ∷ ts) ≡ suc x) → InsideStep before t ts

  pub inside-step : (before : ℕ) (t : Token) (ts : List Token) → (step all (Inside c j n el cl before) t ts).fault ≡ 0 → InsideStep before t ts
  unfolding step left_in length_from fitting gives
  inside-step before t ts e = go (fits_inside el cl before t.sort) (eqb t.sort el) (eqb t.sort cl) refl refl refl e
    where
      go : (a b d : Bool) → fits_inside el cl before t.sort ≡ a → eqb t.sort el ≡ b → eqb t.sort cl ≡ d →
          (single_step all el t (Inside c j n el cl el) if a && b else fitting a 0 (Next c j n if d else Inside c j n el cl t.sort)).fault ≡ 0 → InsideStep before t ts
      go false b d f g h e = absurd (omega arith)
      go true true d f g h e =
          let s = single all el t (Inside c j n el cl el) e in
          let q : t.sort ≡ el = eqb-true t.sort el g in
          let k : eqb t.sort cl ≡ false = rw q l.apart in
          element s.0 (rw (f, g) s.1.0) s.1.1 (rw (f, k, g, q) (omega arith)) (λ x. rw (f, k, g, q) refl)
      go true false true f g h e = close (rw (f, g, h)) (rw (f, h)) (λ x. rw (f, h) (omega arith))
      go true false false f g h e = comma t.sort (rw (f, g, h)) (rw (f, h, g) (omega arith)) (λ x. rw (f, h, g, add-zero x) refl)

  -- the text does not end there
  pub no_end : (end before : ℕ) → (step all (Inside c j n el cl before) (end_of end) []).fault ≡ 0 → ⊥
  unfolding step fits_inside fitting gives
  no_end end before e = go (eqb before el) refl
    where
      go : (b : Bool) → eqb before el ≡ b → ⊥
      go true q = let z = rw (q, l.no-closing) at e in omega arith
      go false q = let z = rw (q, l.no-end, l.no-closing) at e in omega arith

  -- where the brackets are read without a fault, the list has as many elements as are ahead, and each writes a word
  pub counts : (end : ℕ) (ts : List Token) (before : ℕ) → fault_from all end (Inside c j n el cl before) ts ≡ accepted →
      ((x : ℕ) → length_from el cl before x ts ≡ suc (x + left_in el cl before ts)) × (left_in el cl before ts ≤ length (words_from all (Inside c j n el cl before) ts))
  unfolding fault_from words_from left_in
  counts end [] before e = absurd (no_end end before (passed _ _ _ e).0)
  counts end (t ∷ ts) before e = let p = passed (step all (Inside c j n el cl before) t ts).fault t.place _ e in go (inside-step before t ts p.0) p.1 (counts end ts)
    where
      go : InsideStep before t ts → fault_from all end (step all (Inside c j n el cl before) t ts).next ts ≡ accepted →
          ((b : ℕ) → fault_from all end (Inside c j n el cl b) ts ≡ accepted → ((x : ℕ) → length_from el cl b x ts ≡ suc (x + left_in el cl b ts)) × (left_in el cl b ts ≤ length (words_from all (Inside c j n el cl b) ts))) →
          ((x : ℕ) → length_from el cl before x (t ∷ ts) ≡ suc (x + left_in el cl before (t ∷ ts))) × (left_in el cl before (t ∷ ts) ≤ length (words_from all (Inside c j n el cl before) (t ∷ ts)))
      go (element w s i a b) q rest =
          let r = rest el (rw s at q) in
          (λ x. omega (arith, b x, r.0 (x + 1), a), rw (s, ne_eqb w 0 (not_none w i)) (omega (arith, a, r.1)))
      go (comma b s a f) q rest = let r = rest b (rw s at q) in (λ x. omega (arith, f x, r.0 x, a), rw s (omega (arith, a, r.1)))
      go (close s a f) q rest = (λ x. omega (arith, f x, a), omega (arith, a))
