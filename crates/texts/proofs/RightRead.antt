-- THE LAW OF RIGHT TEXTS, its second half: a right text is read without a fault, and the words that are read are its items'.
use Rattle.std.proofs.Common.{◌≡◌, refl, sym, ap, ◌∙◌, Bool, true, false, List, [], ◌∷◌, ◌++◌, append-nil, append_assoc, ℕ, suc, ◌+◌, ◌-◌, ◌≤◌, arith, eqb, leb, length, length-drop, drop, get_or, eqb-true, eq-eqb, ne_eqb, lt-ltb, le-ltb, le-leb}
use mathlib.Core.List.{flat_map}
use Prim.Native.String.{String}
use Rattle.std.proofs.lemmas.Slice.Eq.{bytes_eq-Decides}
use Rattle.integers.specs.Choice.{◌if◌else◌}
use Rattle.integers.specs.Lists.{list_of}
use Rattle.integers.proofs.Tests.{false-true}
use Rattle.words.specs.Word.{kind, word}
use Rattle.words.specs.Refusal.{accepted}
use Rattle.words.proofs.ReadBack.{kind-word, kind-number}
use Rattle.models.specs.Table.{Sort}
use Rattle.tokens.specs.Byte.{bytes}
use Rattle.tokens.specs.Token.{Token, tokens}
use Rattle.names.specs.Name.{same, is_word, declared_from, variable_of}
use Rattle.grammar.specs.Value.{value_of}
use Rattle.grammar.specs.Brackets.{fits_inside, length_from}
use Rattle.grammar.specs.Form.{Form, One, Many, in_text, argument_forms, argument_form}
use Rattle.grammar.specs.Grammar.{Due, Item, Domain, Dots, Upper, Colon, Name, Semicolon, Builtin, Opening, Argument, Next, Inside, Satisfy, gives, fitting, of_sort, name_step, number_step, single_step, argument_step, step}
use Rattle.texts.specs.Text.{fault_from, words_from, tokens_fault, tokens_words}
use Rattle.texts.specs.RightText as Right
use Rattle.texts.specs.RightText.{Number, Variable}
use Rattle.texts.proofs.Aligned.{Left, left-all, form-is, left-next, first-form, second-form, left-both}
use Rattle.texts.proofs.TokenSteps.{passes}
use Rattle.texts.proofs.Tokens.{Ordered, ordered-tokens, Listing}
use Rattle.texts.proofs.RightLists.{number-listing, set-listing, variable-listing}

module _ (all : List Token) (end : ℕ) where
  -- the names ns stand before these tokens; b says whether a colon does
  record Before (ns : List (List ℕ)) (b : Bool) (ts : List Token) : Type 0 where
    from : ℕ
    ordered : Ordered from ts
    past : (q : ℕ) → from ≤ q → declared_from false q all ≡ ns ++ declared_from b q ts

  module _ {ns : List (List ℕ)} {b : Bool} {t : Token} {ts : List Token} (a : Before ns b (t ∷ ts)) where
    names-at : declared_from false t.place all ≡ ns
    unfolding declared_from
    names-at = a.past t.place a.ordered.0 ∙ rw (le-ltb t.place t.place (omega arith)) (append-nil ns)

    next-after : Before (ns ++ (t.spelling ∷ [] if b else [])) (eqb t.sort 58) ts
    unfolding declared_from
    next-after = record {
      from = t.place + 1;
      ordered = a.ordered.1.1;
      past = λ q l. a.past q (omega (arith, a.ordered.0, l)) ∙ rw (lt-ltb t.place q (omega (arith, l))) (go b q);
    }
      where
        go : (b : Bool) (q : ℕ) → ns ++ (t.spelling ∷ declared_from (eqb t.sort 58) q ts if b else declared_from (eqb t.sort 58) q ts) ≡ (ns ++ (t.spelling ∷ [] if b else [])) ++ declared_from (eqb t.sort 58) q ts
        go true q = sym (append_assoc ns (t.spelling ∷ []) _)
        go false q = sym (append_assoc ns [] _)

  plain-after : {ns : List (List ℕ)} {t : Token} {ts : List Token} → Before ns false (t ∷ ts) → (n : ℕ) → t.sort ≡ n → eqb n 58 ≡ false → Before ns false ts
  plain-after {ns} {t} a n q f = let g : eqb t.sort 58 ≡ false = rw q f in rw (append-nil ns, g) at (next-after a)

  -- ---- what is read where this is due
  record Gives (g : Due) (ts : List Token) (us : List ℕ) : Type 0 where
    fault : fault_from all end g ts ≡ accepted
    words : words_from all g ts ≡ us

  quiet : (g : Due) (t : Token) (ts : List Token) {next : Due} {us : List ℕ} → step all g t ts ≡ passes 0 next → Gives next ts us → Gives g (t ∷ ts) us
  unfolding fault_from words_from
  quiet g t ts s r = record { fault = rw s r.fault; words = rw s r.words }

  writes : (g : Due) (t : Token) (ts : List Token) {next : Due} {us : List ℕ} (w k : ℕ) → step all g t ts ≡ passes w next → kind w ≡ k → 1 ≤ k → Gives next ts us → Gives g (t ∷ ts) (w ∷ us)
  unfolding fault_from words_from kind
  writes g t ts w k s q l r = record { fault = rw s r.fault; words = rw (s, ne_eqb w 0 (λ z. omega (arith, z, q, l))) (ap (λ (us : List ℕ). w ∷ us) r.words) }

  -- ---- one token

  number-passes : (k w : ℕ) (t : Token) (next : Due) → Number k w t → number_step k t next ≡ passes w next
  unfolding number_step of_sort gives
  number-passes k w t next n = rw (n.0, n.1, n.2)

  -- an element of one token
  record Single (el w : ℕ) (t : Token) (next : Due) : Type 0 where
    sort : t.sort ≡ el
    is : single_step all el t next ≡ passes w next
    k : ℕ
    kind-is : kind w ≡ k
    some : 1 ≤ k

  number-single : (w : ℕ) (t : Token) (next : Due) → Number 6 w t → Single 1 w t next
  unfolding single_step
  number-single w t next n = record { sort = n.0; is = number-passes 6 w t next n; k = 6; kind-is = rw n.2 (kind-number 6 (value_of t.spelling)); some = omega arith }

  variable-single : (ns : List (List ℕ)) (w : ℕ) (t : Token) (next : Due) → declared_from false t.place all ≡ ns → Variable ns w t → Single 2 w t next
  unfolding single_step variable_of name_step of_sort gives
  variable-single ns w t next h v =
      let i = v.1.0 in
      let e : suc i - 1 ≡ i = omega arith in
      record { sort = v.0; is = rw (h, v.1.1.0, v.0, lt-ltb 0 (suc i) (omega arith), e, v.1.1.1); k = 5; kind-is = rw v.1.1.1 (kind-word 5 i); some = omega arith }

  -- ---- lists

  module _ (el cl : ℕ) (l : Listing el cl) (ns : List (List ℕ)) (One-of : ℕ → Token → Type 0) (one-sort : (w : ℕ) (t : Token) → One-of w t → t.sort ≡ el) where
    further-length : {rest : List Token} {ws : List ℕ} {ts : List Token} → Right.Further One-of cl rest ws ts → (x : ℕ) → length_from el cl el x ts ≡ suc (x + length ws)
    unfolding length_from fits_inside
    further-length (Right.closed q) x = rw (q, eq-eqb el el refl, l.closing-comma, eq-eqb cl cl refl) (omega arith)
    further-length (Right.further {t = t} {w = w} {ws = ws} q o r) x =
        rw (q, one-sort w t o, eq-eqb el el refl, l.comma-closing, l.comma-apart, l.apart) (omega (arith, further-length r (x + 0 + 1)))

    elements-length : (op : ℕ) → eqb op el ≡ false → eqb op 44 ≡ false → {rest : List Token} {ws : List ℕ} {ts : List Token} → Right.Elements One-of cl rest ws ts → length_from el cl op 0 ts ≡ suc (length ws)
    unfolding length_from fits_inside
    elements-length op p o (Right.no-element q) = rw (q, p, o, l.closing-apart, eq-eqb cl cl refl) (omega arith)
    elements-length op p o (Right.elements {t = t} {w = w} y r) = rw (one-sort w t y, p, eq-eqb el el refl, l.apart) (omega (arith, further-length r (0 + 1)))

    module _ (c j n : ℕ) (single : (w : ℕ) (t : Token) (next : Due) → declared_from false t.place all ≡ ns → One-of w t → Single el w t next) where
      element-step : (before : ℕ) (t : Token) (ts : List Token) → eqb before el ≡ false → t.sort ≡ el → step all (Inside c j n el cl before) t ts ≡ single_step all el t (Inside c j n el cl el)
      unfolding step fits_inside
      element-step before t ts b q = rw (q, b, eq-eqb el el refl)

      comma-step : (t : Token) (ts : List Token) → t.sort ≡ 44 → step all (Inside c j n el cl el) t ts ≡ passes 0 (Inside c j n el cl 44)
      unfolding step fits_inside fitting gives
      comma-step t ts q = rw (q, eq-eqb el el refl, l.comma-apart, l.comma-closing)

      close-after : (t : Token) (ts : List Token) → t.sort ≡ cl → step all (Inside c j n el cl el) t ts ≡ passes 0 (Next c j n)
      unfolding step fits_inside fitting gives
      close-after t ts q = rw (q, eq-eqb el el refl, l.closing-comma, eq-eqb cl cl refl, l.closing-apart)

      close-first : (op : ℕ) (t : Token) (ts : List Token) → eqb op el ≡ false → eqb op 44 ≡ false → t.sort ≡ cl → step all (Inside c j n el cl op) t ts ≡ passes 0 (Next c j n)
      unfolding step fits_inside fitting gives
      close-first op t ts p o q = rw (q, p, o, l.closing-apart, eq-eqb cl cl refl)

      further-gives : {rest : List Token} {ws : List ℕ} {ts : List Token} → Right.Further One-of cl rest ws ts → Before ns false ts → (us : List ℕ) → (Before ns false rest → Gives (Next c j n) rest us) →
          Gives (Inside c j n el cl el) ts (ws ++ us)
      further-gives {rest = rest} (Right.closed {b = b} q) p us f = quiet (Inside c j n el cl el) b rest (close-after b rest q) (f (plain-after p cl q l.closing-colon))
      further-gives (Right.further {c = m} {t = t} {w = w} {ts = ts} q o r) p us f =
          let a = plain-after p 44 q refl in
          let s = single w t (Inside c j n el cl el) (names-at a) o in
          quiet (Inside c j n el cl el) m (t ∷ ts) (comma-step m (t ∷ ts) q)
          (writes (Inside c j n el cl 44) t ts w s.k (element-step 44 t ts l.comma-apart s.sort ∙ s.is) s.kind-is s.some (further-gives r (plain-after a el s.sort l.element-colon) us f))

      elements-give : (op : ℕ) → eqb op el ≡ false → eqb op 44 ≡ false → {rest : List Token} {ws : List ℕ} {ts : List Token} → Right.Elements One-of cl rest ws ts → Before ns false ts → (us : List ℕ) →
          (Before ns false rest → Gives (Next c j n) rest us) → Gives (Inside c j n el cl op) ts (ws ++ us)
      elements-give op x y {rest = rest} (Right.no-element {b = b} q) p us f = quiet (Inside c j n el cl op) b rest (close-first op b rest x y q) (f (plain-after p cl q l.closing-colon))
      elements-give op x y (Right.elements {t = t} {w = w} {ts = ts} o r) p us f =
          let s = single w t (Inside c j n el cl el) (names-at p) o in
          writes (Inside c j n el cl op) t ts w s.k (element-step op t ts x s.sort ∙ s.is) s.kind-is s.some (further-gives r (plain-after p el s.sort l.element-colon) us f)

  joined : (g : Due) (ts : List Token) (xs ys zs : List ℕ) → Gives g ts (xs ++ (ys ++ zs)) → Gives g ts ((xs ++ ys) ++ zs)
  joined g ts xs ys zs r = record { fault = r.fault; words = r.words ∙ sym (append_assoc xs ys zs) }

  -- ---- arguments

  module _ (c : ℕ) (ns : List (List ℕ)) where
    -- a list that writes its length
    list-gives : (op el cl : ℕ) (l : Listing el cl) (One-of : ℕ → Token → Type 0) (one-sort : (w : ℕ) (t : Token) → One-of w t → t.sort ≡ el)
        (single : (w : ℕ) (t : Token) (next : Due) → declared_from false t.place all ≡ ns → One-of w t → Single el w t next) → eqb op el ≡ false → eqb op 44 ≡ false → eqb op 58 ≡ false →
        (j n : ℕ) → argument_form c j ≡ Many op el cl false → {rest : List Token} (o : Token) (ws : List ℕ) (ts : List Token) → o.sort ≡ op → Right.Elements One-of cl rest ws ts → Before ns false (o ∷ ts) → (us : List ℕ) →
        (Before ns false rest → Gives (Next c (j + 1) (length ws)) rest us) → Gives (Argument c j n) (o ∷ ts) (word 6 (length ws) ∷ (ws ++ us))
    unfolding step argument_step fitting gives
    list-gives op el cl l One-of one-sort single x y z j n f o ws ts q e p us g =
        let m : suc (length ws) - 1 ≡ length ws = omega arith in
        let s : step all (Argument c j n) o ts ≡ passes (word 6 (length ws)) (Inside c (j + 1) (length ws) el cl op) = rw (f, q, eq-eqb op op refl, elements-length el cl l ns One-of one-sort op x y e, m) in
        writes (Argument c j n) o ts (word 6 (length ws)) 6 s (kind-word 6 (length ws)) (omega arith)
        (elements-give el cl l ns One-of one-sort c (j + 1) (length ws) single op x y e (plain-after p op q z) us g)

    number-lists : (op cl : ℕ) (l : Listing 1 cl) → eqb op 1 ≡ false → eqb op 44 ≡ false → eqb op 58 ≡ false →
        (j n : ℕ) → argument_form c j ≡ Many op 1 cl false → {rest : List Token} (o : Token) (ws : List ℕ) (ts : List Token) → o.sort ≡ op → Right.Elements (Number 6) cl rest ws ts → Before ns false (o ∷ ts) → (us : List ℕ) →
        (Before ns false rest → Gives (Next c (j + 1) (length ws)) rest us) → Gives (Argument c j n) (o ∷ ts) (word 6 (length ws) ∷ (ws ++ us))
    number-lists op cl l = list-gives op 1 cl l (Number 6) (λ w t v. v.0) (λ w t next h v. number-single w t next v)

    variable-lists : (j n : ℕ) → argument_form c j ≡ Many 91 2 93 false → {rest : List Token} (o : Token) (ws : List ℕ) (ts : List Token) → o.sort ≡ 91 → Right.Elements (Variable ns) 93 rest ws ts → Before ns false (o ∷ ts) → (us : List ℕ) →
        (Before ns false rest → Gives (Next c (j + 1) (length ws)) rest us) → Gives (Argument c j n) (o ∷ ts) (word 6 (length ws) ∷ (ws ++ us))
    variable-lists = list-gives 91 2 93 variable-listing (Variable ns) (λ w t v. v.0) (variable-single ns) refl refl refl

    one-gives : (j n w el : ℕ) (t : Token) (rest : List Token) (us : List ℕ) → argument_form c j ≡ One el → eqb el 58 ≡ false → Single el w t (Next c (j + 1) n) → Before ns false (t ∷ rest) →
        (Before ns false rest → Gives (Next c (j + 1) n) rest us) → Gives (Argument c j n) (t ∷ rest) (w ∷ us)
    unfolding step argument_step
    one-gives j n w el t rest us f z s p g = writes (Argument c j n) t rest w s.k (rw f s.is) s.kind-is s.some (g (plain-after p el s.sort z))

    abbrev second-list : Form
    second-list = Many 91 2 93 true

    second-gives : (j n : ℕ) → argument_form c j ≡ second-list → {rest : List Token} (p : Token) (vs : List ℕ) (ts : List Token) → p.sort ≡ 91 → Right.Elements (Variable ns) 93 rest vs ts → length vs ≡ n → Before ns false (p ∷ ts) → (us : List ℕ) →
        (Before ns false rest → Gives (Next c (j + 1) n) rest us) → Gives (Argument c j n) (p ∷ ts) (vs ++ us)
    unfolding step argument_step fitting gives
    second-gives j n f p vs ts q e z b us g =
        let m : suc (length vs) - 1 ≡ length vs = omega arith in
        let len = elements-length 2 93 variable-listing ns (Variable ns) (λ w t v. v.0) 91 refl refl e in
        let s : step all (Argument c j n) p ts ≡ passes 0 (Inside c (j + 1) n 2 93 91) = rw (f, q, len, m, z, ne_eqb (suc n) 0 (λ y. omega arith), eq-eqb n n refl) in
        quiet (Argument c j n) p ts s (elements-give 2 93 variable-listing ns (Variable ns) (λ w t v. v.0) c (j + 1) n (variable-single ns) 91 refl refl e (plain-after b 91 q refl) us g)

    comma-next : (j n : ℕ) (t : Token) (ts : List Token) → t.sort ≡ 44 → step all (Next c j n) t ts ≡ passes 0 (Argument c j n)
    unfolding step fitting gives
    comma-next j n t ts q = rw q

    close-next : (j n k : ℕ) (t : Token) (ts : List Token) → t.sort ≡ 41 → Left c k j [] → step all (Next c j n) t ts ≡ passes 0 (Semicolon 1)
    unfolding step fitting gives flat_map
    close-next j n k t ts q l =
        let e : length (drop j (argument_forms c)) ≡ 0 = ap length l.in_forms in
        rw (q, le-leb (length (argument_forms c)) j (omega (arith, e, length-drop j (argument_forms c))))

    argument-gives : {s : Sort} {rest : List Token} {ws : List ℕ} {ts : List Token} → Right.Argument ns rest s ws ts → (ss : List Sort) (j n k : ℕ) → Left c k j (s ∷ ss) → Before ns false ts → (us : List ℕ) →
        ((j' n' : ℕ) → Left c (k + 1) j' ss → Before ns false rest → Gives (Next c j' n') rest us) → Gives (Argument c j n) ts (ws ++ us)
    unfolding flat_map in_text
    argument-gives {rest = rest} (Right.integer-argument {t = t} {w = w} v) ss j n k a p us f = one-gives j n w 2 t rest us (form-is a (One 2) refl) refl (variable-single ns w t (Next c (j + 1) n) (names-at p) v) p (f (j + 1) n (left-next a (One 2) refl))
    argument-gives {rest = rest} (Right.boolean-argument {t = t} {w = w} v) ss j n k a p us f = one-gives j n w 2 t rest us (form-is a (One 2) refl) refl (variable-single ns w t (Next c (j + 1) n) (names-at p) v) p (f (j + 1) n (left-next a (One 2) refl))
    argument-gives {rest = rest} (Right.number-argument {t = t} {w = w} v) ss j n k a p us f = one-gives j n w 1 t rest us (form-is a (One 1) refl) refl (number-single w t (Next c (j + 1) n) v) p (f (j + 1) n (left-next a (One 1) refl))
    argument-gives {rest = rest} (Right.exponent-argument {t = t} {w = w} v) ss j n k a p us f = one-gives j n w 1 t rest us (form-is a (One 1) refl) refl (number-single w t (Next c (j + 1) n) v) p (f (j + 1) n (left-next a (One 1) refl))
    argument-gives (Right.number-list {o = o} {ws = ws} {ts = ts} q e) ss j n k a p us f = number-lists 91 93 number-listing refl refl refl j n (form-is a (Many 91 1 93 false) refl) o ws ts q e p us (f (j + 1) (length ws) (left-next a (Many 91 1 93 false) refl))
    argument-gives (Right.number-set {o = o} {ws = ws} {ts = ts} q e) ss j n k a p us f = number-lists 123 125 set-listing refl refl refl j n (form-is a (Many 123 1 125 false) refl) o ws ts q e p us (f (j + 1) (length ws) (left-next a (Many 123 1 125 false) refl))
    argument-gives (Right.integer-list {o = o} {ws = ws} {ts = ts} q e) ss j n k a p us f = variable-lists j n (form-is a (Many 91 2 93 false) refl) o ws ts q e p us (f (j + 1) (length ws) (left-next a (Many 91 2 93 false) refl))
    argument-gives (Right.boolean-list {o = o} {ws = ws} {ts = ts} q e) ss j n k a p us f = variable-lists j n (form-is a (Many 91 2 93 false) refl) o ws ts q e p us (f (j + 1) (length ws) (left-next a (Many 91 2 93 false) refl))
    argument-gives (Right.parallel-lists {o = o} {c = m} {p = r} {ws = ws} {vs = vs} {ts = ts} {us = xs} q e x y d z) ss j n k a p us f =
        joined (Argument c j n) (o ∷ ts) (word 6 (length ws) ∷ ws) vs us
        (number-lists 91 93 number-listing refl refl refl j n (first-form a (Many 91 1 93 false) second-list refl) o ws ts q e p (vs ++ us)
        (λ b. quiet (Next c (j + 1) (length ws)) m (r ∷ xs) (comma-next (j + 1) (length ws) m (r ∷ xs) x)
        (second-gives (j + 1) (length ws) (second-form a (Many 91 1 93 false) second-list refl) r vs xs y d z (plain-after b 44 x refl) us (f (j + 1 + 1) (length ws) (left-both a (Many 91 1 93 false) second-list refl)))))

    arguments-give : {rest : List Token} {ss : List Sort} {ws : List ℕ} {ts : List Token} → Right.Arguments ns rest ss ws ts → (j n k : ℕ) → Left c k j ss → Before ns false ts → (us : List ℕ) →
        (Before ns false rest → Gives (Semicolon 1) rest us) → Gives (Argument c j n) ts (ws ++ us)
    arguments-give {rest = rest} (Right.last-argument {p = p} a q) j n k l b us f =
        argument-gives a [] j n k l b us (λ j' n' l' b'. quiet (Next c j' n') p rest (close-next j' n' (k + 1) p rest q l') (f (plain-after b' 41 q refl)))
    arguments-give (Right.more-arguments {ss = ss} {c = m} {ws = ws} {vs = vs} {ts = ts} {us = xs} a q r) j n k l b us f =
        joined (Argument c j n) ts ws vs us
        (argument-gives a ss j n k l b (vs ++ us) (λ j' n' l' b'. quiet (Next c j' n') m xs (comma-next j' n' m xs q) (arguments-give r j' n' (k + 1) l' (plain-after b' 44 q refl) us f)))

  -- ---- keywords

  spelled : (w : String) (t : Token) → is_word w t ≡ true → (t.sort ≡ 2) × (t.spelling ≡ bytes w)
  unfolding is_word
  spelled w t e = go (eqb t.sort 2) refl e
    where
      go : (b : Bool) → eqb t.sort 2 ≡ b → (same t.spelling (bytes w) if b else false) ≡ true → (t.sort ≡ 2) × (t.spelling ≡ bytes w)
      go true q e = (eqb-true t.sort 2 q, (bytes_eq-Decides t.spelling (bytes w)).0 e)
      go false q e = false-true e

  -- keywords with other first bytes are others
  first-byte : (w v : String) (t : Token) → (get_or (bytes w) 0 0 ≡ get_or (bytes v) 0 0 → ⊥) → is_word w t ≡ true → is_word v t ≡ false
  first-byte w v t n e = go (is_word v t) refl
    where
      go : (b : Bool) → is_word v t ≡ b → b ≡ false
      go true q = absurd (n (ap (λ (l : List ℕ). get_or l 0 0) (sym (spelled w t e).1 ∙ (spelled v t q).1)))
      go false q = refl

  constraint-no-var : (t : Token) → is_word "constraint" t ≡ true → is_word "var" t ≡ false
  unfolding bytes list_of
  constraint-no-var t e = first-byte "constraint" "var" t (λ z. omega (arith, z)) e

  solve-no-var : (t : Token) → is_word "solve" t ≡ true → is_word "var" t ≡ false
  unfolding bytes list_of
  solve-no-var t e = first-byte "solve" "var" t (λ z. omega (arith, z)) e

  solve-no-constraint : (t : Token) → is_word "solve" t ≡ true → is_word "constraint" t ≡ false
  unfolding bytes list_of
  solve-no-constraint t e = first-byte "solve" "constraint" t (λ z. omega (arith, z)) e

  -- a number is no keyword
  number-no-bool : (t : Token) (w : ℕ) → Number 1 w t → is_word "bool" t ≡ false
  unfolding is_word
  number-no-bool t w n = rw n.0

  -- ---- items

  module _ (ns : List (List ℕ)) where
    constraints-give : {rest : List Token} {ws : List ℕ} {ts : List Token} → Right.Constraints ns rest ws ts → (s : ℕ) → leb s 1 ≡ true → Before ns false ts → (us : List ℕ) →
        ((s' : ℕ) → leb s' 1 ≡ true → Before ns false rest → Gives (Item s') rest us) → Gives (Item s) ts (ws ++ us)
    unfolding step fitting gives name_step of_sort
    constraints-give Right.no-constraint s l p us f = f s l p
    constraints-give (Right.constraint {c = c} {k = k} {b = b} {o = o} {e = e} {ws = ws} {vs = vs} {ts = ts} {us = xs} w v q gs z r) s l p us f =
        let a = plain-after p 2 (spelled "constraint" k w).0 refl in
        let d = plain-after a 2 v.0 refl in
        let i : step all (Item s) k (b ∷ (o ∷ ts)) ≡ passes 0 Builtin = rw (constraint-no-var k w, w, l) in
        let m : step all Builtin b (o ∷ ts) ≡ passes (word 4 c) (Opening c) = rw (v.1, v.0, lt-ltb 0 c (omega (arith, v.2))) in
        let x : step all (Opening c) o ts ≡ passes 0 (Argument c 0 0) = rw q in
        let y : step all (Semicolon 1) e xs ≡ passes 0 (Item 1) = rw z in
        quiet (Item s) k (b ∷ (o ∷ ts)) i
        (writes Builtin b (o ∷ ts) (word 4 c) 4 m (kind-word 4 c) (omega arith)
        (quiet (Opening c) o ts x
        (joined (Argument c 0 0) ts ws vs us
        (arguments-give c ns gs 0 0 0 (left-all c) (plain-after d 40 q refl) (vs ++ us) (λ g. quiet (Semicolon 1) e xs y (constraints-give r 1 refl (plain-after g 59 z refl) us f))))))

  -- ":", a new name, ";"
  name-gives : (ns : List (List ℕ)) (c x e : Token) (ts : List Token) (us : List ℕ) → Right.Sign 58 c → Right.NewName ns x → Right.Sign 59 e → Before ns false (c ∷ (x ∷ (e ∷ ts))) →
      (Before (ns ++ (x.spelling ∷ [])) false ts → Gives (Item 0) ts us) → Gives Colon (c ∷ (x ∷ (e ∷ ts))) us
  unfolding step fitting gives name_step of_sort variable_of
  name-gives ns c x e ts us q n z p f =
      let colon : eqb c.sort 58 ≡ true = rw q refl in
      let a : Before ns true (x ∷ (e ∷ ts)) = rw (append-nil ns, colon) at (next-after p) in
      let plain : eqb x.sort 58 ≡ false = rw n.0 refl in
      let b : Before (ns ++ (x.spelling ∷ [])) false (e ∷ ts) = rw plain at (next-after a) in
      let i : step all Colon c (x ∷ (e ∷ ts)) ≡ passes 0 Name = rw q in
      let m : step all Name x (e ∷ ts) ≡ passes 0 (Semicolon 0) = rw (names-at a, n.1, n.0) in
      let y : step all (Semicolon 0) e ts ≡ passes 0 (Item 0) = rw z in
      quiet Colon c (x ∷ (e ∷ ts)) i (quiet Name x (e ∷ ts) m (quiet (Semicolon 0) e ts y (f (plain-after b 59 z refl))))

  declarations-give : {names : List (List ℕ)} {rest : List Token} {ns : List (List ℕ)} {ws : List ℕ} {ts : List Token} → Right.Declarations names rest ns ws ts → Before ns false ts → (us : List ℕ) →
      (Before names false rest → Gives (Item 0) rest us) → Gives (Item 0) ts (ws ++ us)
  unfolding step fitting gives
  declarations-give Right.no-declaration p us f = f p
  declarations-give (Right.integer-item {names = ns} {v = v} {a = a} {d = d} {b = b} {c = c} {x = x} {e = e} {l = l} {u = u} {ws = ws} {ts = ts} k m s n q w z r) p us f =
      let t4 = c ∷ (x ∷ (e ∷ ts)) in
      let p1 = plain-after p 2 (spelled "var" v k).0 refl in
      let p2 = plain-after p1 1 m.0 refl in
      let p3 = plain-after p2 46 s refl in
      let p4 = plain-after p3 1 n.0 refl in
      let i : step all (Item 0) v (a ∷ (d ∷ (b ∷ t4))) ≡ passes 0 Domain = rw k in
      let j : step all Domain a (d ∷ (b ∷ t4)) ≡ passes l Dots = rw (number-no-bool a l m) (number-passes 1 l a Dots m) in
      let g : step all Dots d (b ∷ t4) ≡ passes 0 Upper = rw s in
      let h : step all Upper b t4 ≡ passes u Colon = number-passes 2 u b Colon n in
      quiet (Item 0) v (a ∷ (d ∷ (b ∷ t4))) i
      (writes Domain a (d ∷ (b ∷ t4)) l 1 j (rw m.2 (kind-number 1 (value_of a.spelling))) (omega arith)
      (quiet Dots d (b ∷ t4) g
      (writes Upper b t4 u 2 h (rw n.2 (kind-number 2 (value_of b.spelling))) (omega arith)
      (name-gives ns c x e ts (ws ++ us) q w z p4 (λ y. declarations-give r y us f)))))
  declarations-give (Right.boolean-item {names = ns} {v = v} {a = a} {c = c} {x = x} {e = e} {ws = ws} {ts = ts} k m q w z r) p us f =
      let t4 = c ∷ (x ∷ (e ∷ ts)) in
      let p1 = plain-after p 2 (spelled "var" v k).0 refl in
      let p2 = plain-after p1 2 (spelled "bool" a m).0 refl in
      let i : step all (Item 0) v (a ∷ t4) ≡ passes 0 Domain = rw k in
      let j : step all Domain a t4 ≡ passes (word 3 0) Colon = rw m in
      quiet (Item 0) v (a ∷ t4) i
      (writes Domain a t4 (word 3 0) 3 j (kind-word 3 0) (omega arith)
      (name-gives ns c x e ts (ws ++ us) q w z p2 (λ y. declarations-give r y us f)))

  -- ---- the end

  over : Gives (Item 2) [] []
  unfolding step fitting gives is_word fault_from words_from
  over = record { fault = refl; words = refl }

  end-gives : (s : ℕ) (a b e : Token) → leb s 1 ≡ true → Right.Keyword "solve" a → Right.Keyword "satisfy" b → Right.Sign 59 e → Gives (Item s) (a ∷ (b ∷ (e ∷ []))) (word 7 0 ∷ [])
  unfolding step fitting gives
  end-gives s a b e l k m q =
      let i : step all (Item s) a (b ∷ (e ∷ [])) ≡ passes 0 Satisfy = rw (solve-no-var a k, solve-no-constraint a k, k, l) in
      let j : step all Satisfy b (e ∷ []) ≡ passes 0 (Semicolon 2) = rw m in
      let h : step all (Semicolon 2) e [] ≡ passes (word 7 0) (Item 2) = rw q in
      quiet (Item s) a (b ∷ (e ∷ [])) i (quiet Satisfy b (e ∷ []) j (writes (Semicolon 2) e [] (word 7 0) 7 h (kind-word 7 0) (omega arith) over))

  text-gives : {ws : List ℕ} {ts : List Token} → Right.RightText ws ts → Before [] false ts → Gives (Item 0) ts ws
  text-gives (Right.right-text {names = names} {cs = cs} {a = a} {b = b} {e = e} d c k m q) p =
      declarations-give d p (cs ++ (word 7 0 ∷ [])) (λ x. constraints-give names c 0 refl x (word 7 0 ∷ []) (λ s l y. end-gives s a b e l k m q))

-- THE LAW: a right text has no fault, and its words are its items'
pub right-read : (bs ws : List ℕ) → Right.RightText ws (tokens bs) → (tokens_fault (tokens bs) (length bs) ≡ accepted) × (tokens_words (tokens bs) ≡ ws)
unfolding tokens_fault tokens_words tokens
right-read bs ws r =
    let all = tokens bs in
    let a : Before all (length bs) [] false all = record { from = 0; ordered = ordered-tokens 0 0 bs; past = λ q l. refl } in
    let g = text-gives all (length bs) r a in
    (g.fault, g.words)
