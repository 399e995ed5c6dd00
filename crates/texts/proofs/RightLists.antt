-- The lists and arguments of a text that is read without a fault are right ones, and their words are those that were read.
use Rattle.std.proofs.Common.{◌≡◌, refl, sym, ap, ◌∙◌, subst, Bool, true, false, ◌&&◌, ◌||◌, List, [], ◌∷◌, ◌++◌, append_assoc, ℕ, zero, suc, ◌+◌, ◌-◌, ◌<◌, ◌≤◌, arith, eqb, leb, length, eqb-true, eq-eqb, ne_eqb, leb-true}
use mathlib.Core.List.{flat_map}
use Rattle.integers.proofs.Tests.{false-true}
use Rattle.integers.proofs.Booleans.{both_true}
use Rattle.words.specs.Word.{kind, word}
use Rattle.words.specs.Refusal.{accepted}
use Rattle.words.proofs.Reading.{passed}
use Rattle.words.proofs.ReadBack.{kind-word}
use Rattle.models.specs.Table as Table
use Rattle.models.specs.Table.{Sort}
use Rattle.tokens.specs.Token.{Token, end_of}
use Rattle.names.specs.Name.{declared_from}
use Rattle.grammar.specs.Brackets.{length_from}
use Rattle.grammar.specs.Form.{Form, One, Many, in_text, argument_forms, argument_form}
use Rattle.grammar.specs.Grammar.{Due, Argument, Next, Inside, Semicolon, gives, fitting, of_sort, name_step, number_step, single_step, argument_step, step}
use Rattle.texts.specs.Text.{fault_from, words_from}
use Rattle.texts.specs.RightText as Right
use Rattle.texts.specs.RightText.{Number, Variable}
use Rattle.texts.proofs.Aligned.{Left, some-form, form-is, left-next, first-form, second-form, left-both, missing-form, no-sorts}
use Rattle.texts.proofs.TokenSteps.{passes, fits, ListOf, left_in, no_end, counts}
use Rattle.texts.proofs.Tokens.{At, names-here, no-fault-here, plain-on, silent, one-word, a-number, a-variable, Listing, Met, one, comma, shut, met}

pub numbers-in : ListOf 1 93
numbers-in = record { apart = refl; no-end = refl; no-closing = refl }

pub set-in : ListOf 1 125
set-in = record { apart = refl; no-end = refl; no-closing = refl }

pub variables-in : ListOf 2 93
variables-in = record { apart = refl; no-end = refl; no-closing = refl }

pub number-listing : Listing 1 93
number-listing = record { apart = refl; closing-apart = refl; comma-apart = refl; element-comma = refl; closing-comma = refl; comma-closing = refl; element-colon = refl; closing-colon = refl }

pub set-listing : Listing 1 125
set-listing = record { apart = refl; closing-apart = refl; comma-apart = refl; element-comma = refl; closing-comma = refl; comma-closing = refl; element-colon = refl; closing-colon = refl }

pub variable-listing : Listing 2 93
variable-listing = record { apart = refl; closing-apart = refl; comma-apart = refl; element-comma = refl; closing-comma = refl; comma-closing = refl; element-colon = refl; closing-colon = refl }

module _ (all : List Token) (end : ℕ) where
  -- an element of one token is right
  pub record Element (el : ℕ) (One-of : ℕ → Token → Type 0) (t : Token) (next : Due) : Type 0 where
    pub w : ℕ
    pub is : single_step all el t next ≡ passes w next
    pub k : ℕ
    pub kind-is : kind w ≡ k
    pub some : 1 ≤ k
    pub right : One-of w t

  number-element : (t : Token) (next : Due) → (single_step all 1 t next).fault ≡ 0 → Element 1 (Number 6) t next
  unfolding single_step
  number-element t next e = let x = a-number 6 t next e in record { w = x.0; is = x.1.0; k = 6; kind-is = x.1.1.0; some = omega arith; right = x.1.1.1 }

  variable-element : (ns : List (List ℕ)) (t : Token) (next : Due) → declared_from false t.place all ≡ ns → (single_step all 2 t next).fault ≡ 0 → Element 2 (Variable ns) t next
  variable-element ns t next h e = let x = a-variable all end ns t next h e in record { w = x.0; is = x.1.0; k = 5; kind-is = x.1.1.0; some = omega arith; right = x.1.1.1 }

  -- ---- a list

  module _ (c j n : ℕ) (el cl : ℕ) (l : Listing el cl) (i : ListOf el cl) (ns : List (List ℕ)) (One-of : ℕ → Token → Type 0)
      (element : (t : Token) (next : Due) → declared_from false t.place all ≡ ns → (single_step all el t next).fault ≡ 0 → Element el One-of t next) where
    -- what is read up to the closing bracket
    record Listed (before : ℕ) (ts : List Token) (X : List Token → List ℕ → Type 0) : Type 0 where
      rest : List Token
      ws : List ℕ
      is : X rest ws
      at : At all end (Next c j n) ns false rest
      words : words_from all (Inside c j n el cl before) ts ≡ ws ++ words_from all (Next c j n) rest
      shorter : length rest < length ts
      count : length ws ≡ left_in el cl before ts

    ends-not : (before : ℕ) → At all end (Inside c j n el cl before) ns false [] → ⊥
    unfolding fault_from
    ends-not before a = no_end all c j n i end before (passed _ end accepted a.accepts).0

    further : (m : ℕ) (ts : List Token) → length ts ≤ m → At all end (Inside c j n el cl el) ns false ts → Listed el ts (λ rest ws. Right.Further One-of cl rest ws ts)
    further m [] h a = absurd (ends-not el a)
    further zero (t ∷ ts) h a = absurd (omega arith)
    further (suc m) (t ∷ ts) h a = go (met all end c j n l el t ts (no-fault-here all end a)) (λ us g b. further m us g b)
      where
        after-comma : (ts : List Token) → length ts ≤ m → t.sort ≡ 44 → words_from all (Inside c j n el cl el) (t ∷ ts) ≡ words_from all (Inside c j n el cl 44) ts → left_in el cl el (t ∷ ts) ≡ left_in el cl 44 ts →
            At all end (Inside c j n el cl 44) ns false ts → ((us : List Token) → length us ≤ m → At all end (Inside c j n el cl el) ns false us → Listed el us (λ rest ws. Right.Further One-of cl rest ws us)) →
            Listed el (t ∷ ts) (λ rest ws. Right.Further One-of cl rest ws (t ∷ ts))
        after-comma [] g q v d b rest = absurd (ends-not 44 b)
        after-comma (u ∷ us) g q v d b rest = by (met all end c j n l 44 u us (no-fault-here all end b))
          where
            by : Met all end c j n l 44 u us → Listed el (t ∷ (u ∷ us)) (λ rest ws. Right.Further One-of cl rest ws (t ∷ (u ∷ us)))
            by (one y x z s f) =
                let e = element u (Inside c j n el cl el) (names-here all end b) z in
                let r = rest us (omega arith) (plain-on all end b (s ∙ e.is) (rw y l.element-colon)) in
                record {
                  rest = r.rest;
                  ws = e.w ∷ r.ws;
                  is = Right.further q e.right r.is;
                  at = r.at;
                  words = v ∙ one-word all end (Inside c j n el cl 44) u us (s ∙ e.is) e.kind-is e.some ∙ ap (λ (ws : List ℕ). e.w ∷ ws) r.words;
                  shorter = omega (arith, r.shorter);
                  count = omega (arith, r.count, d, f);
                }
            by (comma y x s f) = false-true (sym l.comma-apart ∙ x)
            by (shut y x s f) = false-true (sym (x l.comma-apart))

        go : Met all end c j n l el t ts → ((us : List Token) → length us ≤ m → At all end (Inside c j n el cl el) ns false us → Listed el us (λ rest ws. Right.Further One-of cl rest ws us)) →
            Listed el (t ∷ ts) (λ rest ws. Right.Further One-of cl rest ws (t ∷ ts))
        go (one y x z s f) rest = false-true (sym x ∙ eq-eqb el el refl)
        go (comma y x s f) rest = after-comma ts (omega arith) y (silent all end (Inside c j n el cl el) t ts s) f (plain-on all end a s (rw y refl)) rest
        go (shut y x s f) rest = record {
          rest = ts;
          ws = [];
          is = Right.closed y;
          at = plain-on all end a s (rw y l.closing-colon);
          words = silent all end (Inside c j n el cl el) t ts s;
          shorter = omega arith;
          count = sym f;
        }

    listed : (op : ℕ) (ts : List Token) → eqb op el ≡ false → eqb op 44 ≡ false → At all end (Inside c j n el cl op) ns false ts → Listed op ts (λ rest ws. Right.Elements One-of cl rest ws ts)
    listed op [] p q a = absurd (ends-not op a)
    listed op (t ∷ ts) p q a = go (met all end c j n l op t ts (no-fault-here all end a))
      where
        go : Met all end c j n l op t ts → Listed op (t ∷ ts) (λ rest ws. Right.Elements One-of cl rest ws (t ∷ ts))
        go (one y x z s f) =
            let e = element t (Inside c j n el cl el) (names-here all end a) z in
            let r = further (length ts) ts (omega arith) (plain-on all end a (s ∙ e.is) (rw y l.element-colon)) in
            record {
              rest = r.rest;
              ws = e.w ∷ r.ws;
              is = Right.elements e.right r.is;
              at = r.at;
              words = one-word all end (Inside c j n el cl op) t ts (s ∙ e.is) e.kind-is e.some ∙ ap (λ (ws : List ℕ). e.w ∷ ws) r.words;
              shorter = omega (arith, r.shorter);
              count = omega (arith, r.count, f);
            }
        go (comma y x s f) = false-true (sym p ∙ x)
        go (shut y x s f) = record {
          rest = ts;
          ws = [];
          is = Right.no-element y;
          at = plain-on all end a s (rw y l.closing-colon);
          words = silent all end (Inside c j n el cl op) t ts s;
          shorter = omega arith;
          count = sym f;
        }

  -- ---- an argument

  record Argued (c j n : ℕ) (ns : List (List ℕ)) (k : ℕ) (ss : List Sort) (ts : List Token) (X : List Token → List ℕ → Type 0) : Type 0 where
    rest : List Token
    ws : List ℕ
    is : X rest ws
    next-j : ℕ
    next-n : ℕ
    at : At all end (Next c next-j next-n) ns false rest
    left : Left c (k + 1) next-j ss
    words : words_from all (Argument c j n) ts ≡ ws ++ words_from all (Next c next-j next-n) rest
    shorter : length rest < length ts

  -- an argument of one token
  single-argument : (c j n : ℕ) (ns : List (List ℕ)) (k : ℕ) (ss : List Sort) (t : Token) (ts : List Token) (el : ℕ) (One-of : ℕ → Token → Type 0) → argument_form c j ≡ One el → eqb el 58 ≡ false →
      (Element el One-of t (Next c (j + 1) n)) → ((fault : (single_step all el t (Next c (j + 1) n)).fault ≡ 0) → t.sort ≡ el) → Left c (k + 1) (j + 1) ss → At all end (Argument c j n) ns false (t ∷ ts) →
      (X : List Token → List ℕ → Type 0) → ((w : ℕ) → One-of w t → X ts (w ∷ [])) → Argued c j n ns k ss (t ∷ ts) X
  unfolding step argument_step
  single-argument c j n ns k ss t ts el One-of f colon e sort left a X make =
      let s : step all (Argument c j n) t ts ≡ passes e.w (Next c (j + 1) n) = rw f e.is in
      record {
        rest = ts;
        ws = e.w ∷ [];
        is = make e.w e.right;
        next-j = j + 1;
        next-n = n;
        at = plain-on all end a s (rw (sort (rw f at (no-fault-here all end a))) colon);
        left = left;
        words = one-word all end (Argument c j n) t ts s e.kind-is e.some;
        shorter = omega arith;
      }

  -- the list of an argument from its bracket on, which writes its length
  record Bracketed (c j n : ℕ) (ns : List (List ℕ)) (op el cl : ℕ) (One-of : ℕ → Token → Type 0) (o : Token) (ts : List Token) : Type 0 where
    rest : List Token
    ws : List ℕ
    opens : o.sort ≡ op
    is : Right.Elements One-of cl rest ws ts
    at : At all end (Next c (j + 1) (length ws)) ns false rest
    words : words_from all (Argument c j n) (o ∷ ts) ≡ word 6 (length ws) ∷ (ws ++ words_from all (Next c (j + 1) (length ws)) rest)
    shorter : length rest < length ts

  bracketed : (c j n : ℕ) (ns : List (List ℕ)) (op el cl : ℕ) (l : Listing el cl) (i : ListOf el cl) (One-of : ℕ → Token → Type 0)
      (element : (t : Token) (next : Due) → declared_from false t.place all ≡ ns → (single_step all el t next).fault ≡ 0 → Element el One-of t next) →
      eqb op el ≡ false → eqb op 44 ≡ false → eqb op 58 ≡ false → argument_form c j ≡ Many op el cl false → (o : Token) (ts : List Token) → At all end (Argument c j n) ns false (o ∷ ts) → Bracketed c j n ns op el cl One-of o ts
  unfolding step argument_step
  bracketed c j n ns op el cl l i One-of element p q colon f o ts a =
      let x = length_from el cl op 0 ts in
      let g = fits (eqb o.sort op) (word 6 (x - 1)) (Inside c (j + 1) (x - 1) el cl op) (rw f at (no-fault-here all end a)) in
      let s : step all (Argument c j n) o ts ≡ passes (word 6 (x - 1)) (Inside c (j + 1) (x - 1) el cl op) = rw f g.1 in
      let y : o.sort ≡ op = eqb-true o.sort op g.0 in
      let b = plain-on all end a s (rw y colon) in
      let r = listed c (j + 1) (x - 1) el cl l i ns One-of element op ts p q b in
      let h = counts all c (j + 1) (x - 1) i end ts op b.accepts in
      let z : x - 1 ≡ length r.ws = omega (arith, h.0 0, r.count) in
      record {
        rest = r.rest;
        ws = r.ws;
        opens = y;
        is = r.is;
        at = subst (λ (m : ℕ). At all end (Next c (j + 1) m) ns false r.rest) z r.at;
        words =
            one-word all end (Argument c j n) o ts s (kind-word 6 (x - 1)) (omega arith)
            ∙ ap (λ (us : List ℕ). word 6 (x - 1) ∷ us) r.words
            ∙ ap (λ (m : ℕ). word 6 m ∷ (r.ws ++ words_from all (Next c (j + 1) m) r.rest)) z;
        shorter = r.shorter;
      }

  list-argument : (c j n : ℕ) (ns : List (List ℕ)) (k : ℕ) (ss : List Sort) (op el cl : ℕ) (One-of : ℕ → Token → Type 0) (o : Token) (ts : List Token) → Bracketed c j n ns op el cl One-of o ts → Left c (k + 1) (j + 1) ss →
      (X : List Token → List ℕ → Type 0) → ((rest : List Token) (ws : List ℕ) → o.sort ≡ op → Right.Elements One-of cl rest ws ts → X rest (word 6 (length ws) ∷ ws)) → Argued c j n ns k ss (o ∷ ts) X
  list-argument c j n ns k ss op el cl One-of o ts b left X make = record {
    rest = b.rest;
    ws = word 6 (length b.ws) ∷ b.ws;
    is = make b.rest b.ws b.opens b.is;
    next-j = j + 1;
    next-n = length b.ws;
    at = b.at;
    left = left;
    words = b.words;
    shorter = omega (arith, b.shorter);
  }

  -- ---- parallel lists

  abbrev second-list : Form
  second-list = Many 91 2 93 true

  module _ (c j n : ℕ) (ns : List (List ℕ)) (k : ℕ) (ss : List Sort) (o : Token) (ts : List Token) (second : argument_form c (j + 1) ≡ Many 91 2 93 true) (left : Left c (k + 1) (j + 1 + 1) ss)
      (b : Bracketed c j n ns 91 1 93 (Number 6) o ts) where
    abbrev X : List Token → List ℕ → Type 0
    X rest ws = Right.Argument ns rest Table.parallel ws (o ∷ ts)

    abbrev m : ℕ
    m = length b.ws

    end-next : (step all (Next c (j + 1) m) (end_of end) []).fault ≡ 0 → ⊥
    unfolding step fitting gives
    end-next e = omega arith

    end-second : (step all (Argument c (j + 1) m) (end_of end) []).fault ≡ 0 → ⊥
    unfolding step argument_step fitting gives
    end-second e = let z = rw second at e in omega arith

    both : (rest : List Token) → b.rest ≡ rest → At all end (Next c (j + 1) m) ns false rest → Argued c j n ns k ss (o ∷ ts) X
    unfolding fault_from step argument_step fitting gives
    both [] q a = absurd (end-next (passed _ end accepted a.accepts).0)
    both (p ∷ []) q a = after (eqb p.sort 44) refl
      where
        after : (d : Bool) → eqb p.sort 44 ≡ d → Argued c j n ns k ss (o ∷ ts) X
        after true y =
            let s : step all (Next c (j + 1) m) p [] ≡ passes 0 (Argument c (j + 1) m) = rw y in
            absurd (end-second (passed _ end accepted (plain-on all end a s (rw (eqb-true p.sort 44 y) refl)).accepts).0)
        after false y = absurd (some-form c (j + 1) (Many 91 2 93 true) second (λ e. let z : ◌≡◌ {A = ℕ} 0 1 = cc in omega arith) (leb-true (length (argument_forms c)) (j + 1) (both_true (eqb p.sort 41) _ (fits _ 0 (Semicolon 1) (rw y at (no-fault-here all end a))).0).1))
    both (p ∷ (r ∷ us)) q a = after (eqb p.sort 44) refl
      where
        after : (d : Bool) → eqb p.sort 44 ≡ d → Argued c j n ns k ss (o ∷ ts) X
        after true y =
            let s : step all (Next c (j + 1) m) p (r ∷ us) ≡ passes 0 (Argument c (j + 1) m) = rw y in
            let g : p.sort ≡ 44 = eqb-true p.sort 44 y in
            let d = plain-on all end a s (rw g refl) in
            let x = length_from 2 93 91 0 us in
            let f = fits (eqb r.sort 91 && (eqb x 0 || eqb (x - 1) m)) 0 (Inside c (j + 1 + 1) m 2 93 91) (rw second at (no-fault-here all end d)) in
            let w : step all (Argument c (j + 1) m) r us ≡ passes 0 (Inside c (j + 1 + 1) m 2 93 91) = rw second f.1 in
            let h : r.sort ≡ 91 = eqb-true r.sort 91 (both_true (eqb r.sort 91) _ f.0).0 in
            let i = plain-on all end d w (rw h refl) in
            let v = listed c (j + 1 + 1) m 2 93 variable-listing variables-in ns (Variable ns) (variable-element ns) 91 us refl refl i in
            let e = counts all c (j + 1 + 1) m variables-in end us 91 i.accepts in
            let z : length v.ws ≡ m = same x m (length v.ws) (omega (arith, e.0 0, v.count)) (both_true (eqb r.sort 91) _ f.0).1 in
            record {
              rest = v.rest;
              ws = word 6 m ∷ (b.ws ++ v.ws);
              is = Right.parallel-lists b.opens (subst (λ (l : List Token). Right.Elements (Number 6) 93 l b.ws ts) q b.is) g h v.is z;
              next-j = j + 1 + 1;
              next-n = m;
              at = v.at;
              left = left;
              words =
                  b.words
                  ∙ ap (λ (l : List ℕ). word 6 m ∷ (b.ws ++ l))
                  (ap (words_from all (Next c (j + 1) m)) q ∙ silent all end (Next c (j + 1) m) p (r ∷ us) s ∙ silent all end (Argument c (j + 1) m) r us w ∙ v.words)
                  ∙ ap (λ (l : List ℕ). word 6 m ∷ l) (sym (append_assoc b.ws v.ws _));
              shorter = omega (arith, v.shorter, b.shorter, ap length q);
            }
          where
            same : (x m v : ℕ) → x ≡ suc v → (eqb x 0 || eqb (x - 1) m) ≡ true → v ≡ m
            same x m v e f = omega (arith, eqb-true (x - 1) m (rw (ne_eqb x 0 (λ z. omega (arith, z, e))) at f), e)
        after false y = absurd (some-form c (j + 1) (Many 91 2 93 true) second (λ e. let z : ◌≡◌ {A = ℕ} 0 1 = cc in omega arith) (leb-true (length (argument_forms c)) (j + 1) (both_true (eqb p.sort 41) _ (fits _ 0 (Semicolon 1) (rw y at (no-fault-here all end a))).0).1))

  -- ---- by the sort of the argument

  number-sort : (t : Token) (next : Due) → (single_step all 1 t next).fault ≡ 0 → t.sort ≡ 1
  unfolding single_step
  number-sort t next e = (a-number 6 t next e).1.1.1.0

  variable-sort : (t : Token) (next : Due) → (single_step all 2 t next).fault ≡ 0 → t.sort ≡ 2
  variable-sort t next e = (a-variable all end (declared_from false t.place all) t next refl e).1.1.1.0

  -- some token is there
  no-end-argument : (c j n k : ℕ) (s : Sort) (ss : List Sort) → Left c k j (s ∷ ss) → (step all (Argument c j n) (end_of end) []).fault ≡ 0 → ⊥
  unfolding step argument_step single_step number_step name_step of_sort fitting gives flat_map in_text
  no-end-argument c j n k Table.integer ss a z = let x = rw (form-is a (One 2) refl) at z in omega arith
  no-end-argument c j n k Table.boolean ss a z = let x = rw (form-is a (One 2) refl) at z in omega arith
  no-end-argument c j n k Table.number ss a z = let x = rw (form-is a (One 1) refl) at z in omega arith
  no-end-argument c j n k Table.exponent ss a z = let x = rw (form-is a (One 1) refl) at z in omega arith
  no-end-argument c j n k Table.numbers ss a z = let x = rw (form-is a (Many 91 1 93 false) refl) at z in omega arith
  no-end-argument c j n k Table.set ss a z = let x = rw (form-is a (Many 123 1 125 false) refl) at z in omega arith
  no-end-argument c j n k Table.integers ss a z = let x = rw (form-is a (Many 91 2 93 false) refl) at z in omega arith
  no-end-argument c j n k Table.booleans ss a z = let x = rw (form-is a (Many 91 2 93 false) refl) at z in omega arith
  no-end-argument c j n k Table.parallel ss a z = let x = rw (first-form a (Many 91 1 93 false) second-list refl) at z in omega arith

  module _ (c : ℕ) (ns : List (List ℕ)) where
    argued : (j n k : ℕ) (s : Sort) (ss : List Sort) → Left c k j (s ∷ ss) → (ts : List Token) → At all end (Argument c j n) ns false ts → Argued c j n ns k ss ts (λ rest ws. Right.Argument ns rest s ws ts)
    unfolding fault_from step argument_step flat_map in_text
    argued j n k s ss a [] b = absurd (no-end-argument c j n k s ss a (passed _ end accepted b.accepts).0)
    argued j n k Table.integer ss a (t ∷ ts) b =
        let f = form-is a (One 2) refl in
        let e = rw f at (no-fault-here all end b) in
        single-argument c j n ns k ss t ts 2 (Variable ns) f refl (variable-element ns t (Next c (j + 1) n) (names-here all end b) e) (variable-sort t (Next c (j + 1) n)) (left-next a (One 2) refl) b (λ rest ws. Right.Argument ns rest Table.integer ws (t ∷ ts)) (λ w r. Right.integer-argument r)
    argued j n k Table.boolean ss a (t ∷ ts) b =
        let f = form-is a (One 2) refl in
        let e = rw f at (no-fault-here all end b) in
        single-argument c j n ns k ss t ts 2 (Variable ns) f refl (variable-element ns t (Next c (j + 1) n) (names-here all end b) e) (variable-sort t (Next c (j + 1) n)) (left-next a (One 2) refl) b (λ rest ws. Right.Argument ns rest Table.boolean ws (t ∷ ts)) (λ w r. Right.boolean-argument r)
    argued j n k Table.number ss a (t ∷ ts) b =
        let f = form-is a (One 1) refl in
        let e = rw f at (no-fault-here all end b) in
        single-argument c j n ns k ss t ts 1 (Number 6) f refl (number-element t (Next c (j + 1) n) e) (number-sort t (Next c (j + 1) n)) (left-next a (One 1) refl) b (λ rest ws. Right.Argument ns rest Table.number ws (t ∷ ts)) (λ w r. Right.number-argument r)
    argued j n k Table.exponent ss a (t ∷ ts) b =
        let f = form-is a (One 1) refl in
        let e = rw f at (no-fault-here all end b) in
        single-argument c j n ns k ss t ts 1 (Number 6) f refl (number-element t (Next c (j + 1) n) e) (number-sort t (Next c (j + 1) n)) (left-next a (One 1) refl) b (λ rest ws. Right.Argument ns rest Table.exponent ws (t ∷ ts)) (λ w r. Right.exponent-argument r)
    argued j n k Table.numbers ss a (t ∷ ts) b =
        list-argument c j n ns k ss 91 1 93 (Number 6) t ts (bracketed c j n ns 91 1 93 number-listing numbers-in (Number 6) (λ u next h e. number-element u next e) refl refl refl (form-is a (Many 91 1 93 false) refl) t ts b)
        (left-next a (Many 91 1 93 false) refl) (λ rest ws. Right.Argument ns rest Table.numbers ws (t ∷ ts)) (λ rest ws o r. Right.number-list o r)
    argued j n k Table.set ss a (t ∷ ts) b =
        list-argument c j n ns k ss 123 1 125 (Number 6) t ts (bracketed c j n ns 123 1 125 set-listing set-in (Number 6) (λ u next h e. number-element u next e) refl refl refl (form-is a (Many 123 1 125 false) refl) t ts b)
        (left-next a (Many 123 1 125 false) refl) (λ rest ws. Right.Argument ns rest Table.set ws (t ∷ ts)) (λ rest ws o r. Right.number-set o r)
    argued j n k Table.integers ss a (t ∷ ts) b =
        list-argument c j n ns k ss 91 2 93 (Variable ns) t ts (bracketed c j n ns 91 2 93 variable-listing variables-in (Variable ns) (variable-element ns) refl refl refl (form-is a (Many 91 2 93 false) refl) t ts b)
        (left-next a (Many 91 2 93 false) refl) (λ rest ws. Right.Argument ns rest Table.integers ws (t ∷ ts)) (λ rest ws o r. Right.integer-list o r)
    argued j n k Table.booleans ss a (t ∷ ts) b =
        list-argument c j n ns k ss 91 2 93 (Variable ns) t ts (bracketed c j n ns 91 2 93 variable-listing variables-in (Variable ns) (variable-element ns) refl refl refl (form-is a (Many 91 2 93 false) refl) t ts b)
        (left-next a (Many 91 2 93 false) refl) (λ rest ws. Right.Argument ns rest Table.booleans ws (t ∷ ts)) (λ rest ws o r. Right.boolean-list o r)
    argued j n k Table.parallel ss a (t ∷ ts) b =
        let r = bracketed c j n ns 91 1 93 number-listing numbers-in (Number 6) (λ u next h e. number-element u next e) refl refl refl (first-form a (Many 91 1 93 false) second-list refl) t ts b in
        both c j n ns k ss t ts (second-form a (Many 91 1 93 false) second-list refl) (left-both a (Many 91 1 93 false) second-list refl) r r.rest refl r.at

    -- ---- the arguments, and ")"
    pub record Read (g : Due) (ts : List Token) (next : Due) (X : List Token → List ℕ → Type 0) : Type 0 where
      pub rest : List Token
      pub ws : List ℕ
      pub is : X rest ws
      pub at : At all end next ns false rest
      pub words : words_from all g ts ≡ ws ++ words_from all next rest
      pub shorter : length rest < length ts

    no-end-next : (j n : ℕ) → (step all (Next c j n) (end_of end) []).fault ≡ 0 → ⊥
    unfolding step fitting gives
    no-end-next j n e = omega arith

    -- no argument is met where none is left
    pub none-met : (j n k : ℕ) → Left c k j [] → (ts : List Token) → At all end (Argument c j n) ns false ts → ⊥
    unfolding fault_from step argument_step fitting gives
    none-met j n k a [] b = let z = rw (missing-form a) at (passed (step all (Argument c j n) (end_of end) []).fault end accepted b.accepts).0 in omega arith
    none-met j n k a (t ∷ ts) b = let z = rw (missing-form a) at (no-fault-here all end b) in omega arith

    data NextIs (j n : ℕ) (ts : List Token) : Type 0 where
      commas : (p : Token) (us : List Token) → ts ≡ p ∷ us → p.sort ≡ 44 → At all end (Argument c j n) ns false us → words_from all (Next c j n) ts ≡ words_from all (Argument c j n) us → NextIs j n ts
      closes : (p : Token) (us : List Token) → ts ≡ p ∷ us → p.sort ≡ 41 → length (argument_forms c) ≤ j → At all end (Semicolon 1) ns false us → words_from all (Next c j n) ts ≡ words_from all (Semicolon 1) us → NextIs j n ts

    next-is : (j n : ℕ) (ts : List Token) → At all end (Next c j n) ns false ts → NextIs j n ts
    unfolding fault_from step fitting gives
    next-is j n [] a = absurd (no-end-next j n (passed _ end accepted a.accepts).0)
    next-is j n (p ∷ us) a = go (eqb p.sort 44) refl
      where
        go : (d : Bool) → eqb p.sort 44 ≡ d → NextIs j n (p ∷ us)
        go true y =
            let s : step all (Next c j n) p us ≡ passes 0 (Argument c j n) = rw y in
            let q : p.sort ≡ 44 = eqb-true p.sort 44 y in
            commas p us refl q (plain-on all end a s (rw q refl)) (silent all end (Next c j n) p us s)
        go false y =
            let f = fits (eqb p.sort 41 && leb (length (argument_forms c)) j) 0 (Semicolon 1) (rw y at (no-fault-here all end a)) in
            let s : step all (Next c j n) p us ≡ passes 0 (Semicolon 1) = rw y f.1 in
            let g = both_true (eqb p.sort 41) _ f.0 in
            let q : p.sort ≡ 41 = eqb-true p.sort 41 g.0 in
            closes p us refl q (leb-true (length (argument_forms c)) j g.1) (plain-on all end a s (rw q refl)) (silent all end (Next c j n) p us s)

    pub arguments : (ss : List Sort) (s : Sort) (j n k : ℕ) → Left c k j (s ∷ ss) → (ts : List Token) → At all end (Argument c j n) ns false ts → Read (Argument c j n) ts (Semicolon 1) (λ rest ws. Right.Arguments ns rest (s ∷ ss) ws ts)
    arguments [] s j n k a ts b = go (next-is r.next-j r.next-n r.rest r.at)
      where
        r : Argued c j n ns k [] ts (λ rest ws. Right.Argument ns rest s ws ts)
        r = argued j n k s [] a ts b

        go : NextIs r.next-j r.next-n r.rest → Read (Argument c j n) ts (Semicolon 1) (λ rest ws. Right.Arguments ns rest (s ∷ []) ws ts)
        go (commas p us q y d w) = absurd (none-met r.next-j r.next-n (k + 1) r.left us d)
        go (closes p us q y l d w) = record {
          rest = us;
          ws = r.ws;
          is = Right.last-argument (subst (λ (rest : List Token). Right.Argument ns rest s r.ws ts) q r.is) y;
          at = d;
          words = r.words ∙ ap (λ (l : List ℕ). r.ws ++ l) w;
          shorter = omega (arith, r.shorter, ap length q);
        }
    arguments (s' ∷ ss) s j n k a ts b = go (next-is r.next-j r.next-n r.rest r.at) (λ us d. arguments ss s' r.next-j r.next-n (k + 1) r.left us d)
      where
        r : Argued c j n ns k (s' ∷ ss) ts (λ rest ws. Right.Argument ns rest s ws ts)
        r = argued j n k s (s' ∷ ss) a ts b

        go : NextIs r.next-j r.next-n r.rest →
            ((us : List Token) → At all end (Argument c r.next-j r.next-n) ns false us → Read (Argument c r.next-j r.next-n) us (Semicolon 1) (λ rest ws. Right.Arguments ns rest (s' ∷ ss) ws us)) →
            Read (Argument c j n) ts (Semicolon 1) (λ rest ws. Right.Arguments ns rest (s ∷ (s' ∷ ss)) ws ts)
        go (commas p us q y d w) more =
            let v = more us d in
            record {
              rest = v.rest;
              ws = r.ws ++ v.ws;
              is = Right.more-arguments (subst (λ (rest : List Token). Right.Argument ns rest s r.ws ts) q r.is) y v.is;
              at = v.at;
              words = r.words ∙ ap (λ (l : List ℕ). r.ws ++ l) (w ∙ v.words) ∙ sym (append_assoc r.ws v.ws _);
              shorter = omega (arith, r.shorter, v.shorter, ap length q);
            }
        go (closes p us q y l d w) more = absurd (let e = no-sorts (s' ∷ ss) r.left l in let z : ◌≡◌ {A = ℕ} 0 1 = cc in omega arith)
