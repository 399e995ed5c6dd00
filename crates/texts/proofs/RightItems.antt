-- THE LAW OF RIGHT TEXTS, its first half: a text that is read without a fault is a right one, and its words are those that were read.
use Rattle.std.proofs.Common.{◌≡◌, refl, sym, ap, ◌∙◌, subst, Bool, true, false, List, [], ◌∷◌, ◌++◌, append-nil, append_assoc, ℕ, zero, suc, ◌<◌, ◌≤◌, arith, eqb, leb, ltb, length, eqb-true, ltb-true, le-leb}
use Prim.Native.String.{String}
use Rattle.integers.proofs.Tests.{false-true}
use Rattle.integers.proofs.Booleans.{both_true}
use Rattle.integers.specs.Choice.{◌if◌else◌}
use Rattle.words.specs.Word.{word}
use Rattle.words.specs.Refusal.{accepted}
use Rattle.words.proofs.Reading.{passed}
use Rattle.words.proofs.ReadBack.{kind-word}
use Rattle.models.specs.Table.{Sort}
use Rattle.tokens.specs.Token.{Token, tokens, end_of}
use Rattle.tokens.specs.Byte.{bytes}
use Rattle.names.specs.Name.{same, is_word, code_of, look_up, declared_from, variable_of}
use Rattle.grammar.specs.Grammar.{Due, Item, Domain, Dots, Upper, Colon, Name, Semicolon, Builtin, Opening, Argument, Satisfy, gives, fitting, of_sort, name_step, number_step, step}
use Rattle.texts.specs.Text.{fault_from, words_from, tokens_fault, tokens_words}
use Rattle.texts.specs.RightText as Right
use Rattle.texts.proofs.Aligned.{Left, left-all, sorts_from}
use Rattle.texts.proofs.TokenSteps.{passes, fits, name-passes}
use Rattle.texts.proofs.Tokens.{ordered-tokens, At, names-here, sort-here, no-fault-here, go-on, plain-on, silent, one-word, a-number, a-name}
use Rattle.texts.proofs.RightLists.{arguments, none-met}

-- a keyword is a name, and no colon
word-sort : (w : String) (t : Token) → is_word w t ≡ true → t.sort ≡ 2
unfolding is_word
word-sort w t e = go (eqb t.sort 2) refl e
  where
    go : (b : Bool) → eqb t.sort 2 ≡ b → (same t.spelling (bytes w) if b else false) ≡ true → t.sort ≡ 2
    go true q e = eqb-true t.sort 2 q
    go false q e = false-true e

module _ (all : List Token) (end : ℕ) where
  -- where this is due, the text does not end
  at-end : (g : Due) {ns : List (List ℕ)} {b : Bool} → At all end g ns b [] → (step all g (end_of end) []).fault ≡ 0
  unfolding fault_from
  at-end g a = (passed (step all g (end_of end) []).fault end accepted a.accepts).0

  -- a token that is due, and what follows it
  record Token-read (g : Due) (ns : List (List ℕ)) (ts : List Token) (next : Due) (X : Token → Type 0) : Type 0 where
    t : Token
    rest : List Token
    is : ts ≡ t ∷ rest
    right : X t
    at : At all end next ns false rest
    words : words_from all g ts ≡ words_from all next rest

  sign : (g next : Due) (ns : List (List ℕ)) (s : ℕ) → eqb s 58 ≡ false → eqb 257 s ≡ false → ((t : Token) (ts : List Token) → step all g t ts ≡ fitting (eqb t.sort s) 0 next) →
      (ts : List Token) → At all end g ns false ts → Token-read g ns ts next (Right.Sign s)
  unfolding fitting gives
  sign g next ns s colon last f [] a = absurd (let e = at-end g a in let z = rw (f (end_of end) [], last) at e in omega arith)
  sign g next ns s colon last f (t ∷ ts) a =
      let z = fits (eqb t.sort s) 0 next (rw (f t ts) at (no-fault-here all end a)) in
      let q : t.sort ≡ s = eqb-true t.sort s z.0 in
      record { t = t; rest = ts; is = refl; right = q; at = plain-on all end a (f t ts ∙ z.1) (rw q colon); words = silent all end g t ts (f t ts ∙ z.1) }

  -- ---- declarations

  -- ":", a new name, ";"
  record Named (ns : List (List ℕ)) (ts : List Token) : Type 0 where
    c : Token
    x : Token
    e : Token
    rest : List Token
    is : ts ≡ c ∷ (x ∷ (e ∷ rest))
    colon : Right.Sign 58 c
    new : Right.NewName ns x
    semicolon : Right.Sign 59 e
    at : At all end (Item 0) (ns ++ (x.spelling ∷ [])) false rest
    words : words_from all Colon ts ≡ words_from all (Item 0) rest

  new-name : (ns : List (List ℕ)) (x : Token) (ts : List Token) → At all end Name ns true (x ∷ ts) → Right.NewName ns x × (step all Name x ts ≡ passes 0 (Semicolon 0))
  unfolding step variable_of
  new-name ns x ts a =
      let e = no-fault-here all end a in
      let p = name-passes x.sort (eqb (variable_of all x) 0) 0 (Semicolon 0) e in
      let v : look_up x.spelling 0 (declared_from false x.place all) ≡ 0 = eqb-true _ 0 p.0 in
      ((a-name x.sort (eqb (variable_of all x) 0) 0 (Semicolon 0) e, rw (names-here all end a) at v), p.1)

  named : (ns : List (List ℕ)) (ts : List Token) → At all end Colon ns false ts → Named ns ts
  unfolding step fitting gives of_sort name_step
  named ns [] a = absurd (let e = at-end Colon a in omega arith)
  named ns (c ∷ ts) a = go ts b (silent all end Colon c ts q.1) refl
    where
      q : (eqb c.sort 58 ≡ true) × (step all Colon c ts ≡ passes 0 Name)
      q = fits (eqb c.sort 58) 0 Name (no-fault-here all end a)

      b : At all end Name ns true ts
      b = rw (append-nil ns, q.0) at (go-on all end a q.1)

      go : (us : List Token) → At all end Name ns true us → words_from all Colon (c ∷ ts) ≡ words_from all Name us → ts ≡ us → Named ns (c ∷ ts)
      go [] d w i = absurd (let e = at-end Name d in omega arith)
      go (x ∷ us) d w i =
          let n = new-name ns x us d in
          let f : At all end (Semicolon 0) (ns ++ (x.spelling ∷ [])) false us = rw (n.0.0) at (go-on all end d n.1) in
          let s = sign (Semicolon 0) (Item 0) (ns ++ (x.spelling ∷ [])) 59 refl refl (λ t ts. refl) us f in
          record {
            c = c;
            x = x;
            e = s.t;
            rest = s.rest;
            is = ap (λ (l : List Token). c ∷ l) (i ∙ ap (λ (l : List Token). x ∷ l) s.is);
            colon = eqb-true c.sort 58 q.0;
            new = n.0;
            semicolon = s.right;
            at = s.at;
            words = w ∙ silent all end Name x us n.1 ∙ s.words;
          }

  record Declared (ns : List (List ℕ)) (v : Token) (ts : List Token) : Type 0 where
    x : Token
    rest : List Token
    ws : List ℕ
    at : At all end (Item 0) (ns ++ (x.spelling ∷ [])) false rest
    words : words_from all Domain ts ≡ ws ++ words_from all (Item 0) rest
    shorter : length rest < length ts
    extends : (names : List (List ℕ)) (last : List Token) (vs : List ℕ) → Right.Declarations names last (ns ++ (x.spelling ∷ [])) vs rest → Right.Declarations names last ns (ws ++ vs) (v ∷ ts)

  -- after a token whose words are ws
  boolean-item : (ns : List (List ℕ)) (v a : Token) (ts : List Token) → Right.Keyword "var" v → Right.Keyword "bool" a → Named ns ts → words_from all Domain (a ∷ ts) ≡ word 3 0 ∷ words_from all Colon ts → Declared ns v (a ∷ ts)
  boolean-item ns v a ts k b n w = record {
    x = n.x;
    rest = n.rest;
    ws = word 3 0 ∷ [];
    at = n.at;
    words = w ∙ ap (λ (l : List ℕ). word 3 0 ∷ l) n.words;
    shorter = omega (arith, ap length n.is);
    extends = λ names last vs d. subst (λ (l : List Token). Right.Declarations names last ns (word 3 0 ∷ vs) (v ∷ (a ∷ l))) (sym n.is) (Right.boolean-item k b n.colon n.new n.semicolon d);
  }

  integer-item : (ns : List (List ℕ)) (v a d b : Token) (l u : ℕ) (ts : List Token) → Right.Keyword "var" v → Right.Number 1 l a → Right.Sign 46 d → Right.Number 2 u b → Named ns ts →
      words_from all Domain (a ∷ (d ∷ (b ∷ ts))) ≡ l ∷ (u ∷ words_from all Colon ts) → Declared ns v (a ∷ (d ∷ (b ∷ ts)))
  integer-item ns v a d b l u ts k x y z n w = record {
    x = n.x;
    rest = n.rest;
    ws = l ∷ (u ∷ []);
    at = n.at;
    words = w ∙ ap (λ (m : List ℕ). l ∷ (u ∷ m)) n.words;
    shorter = omega (arith, ap length n.is);
    extends = λ names last vs e. subst (λ (m : List Token). Right.Declarations names last ns (l ∷ (u ∷ vs)) (v ∷ (a ∷ (d ∷ (b ∷ m))))) (sym n.is) (Right.integer-item k x y z n.colon n.new n.semicolon e);
  }

  not-colon : (s n : ℕ) → s ≡ n → eqb n 58 ≡ false → eqb s 58 ≡ false
  not-colon s n e f = rw e f

  declared : (ns : List (List ℕ)) (v : Token) (ts : List Token) → Right.Keyword "var" v → At all end Domain ns false ts → Declared ns v ts
  unfolding step fitting gives of_sort number_step is_word
  declared ns v [] k a = absurd (let e = at-end Domain a in omega arith)
  declared ns v (t ∷ ts) k a = go (is_word "bool" t) refl
    where
      upper : (d : Token) (us : List Token) → (l : ℕ) → Right.Number 1 l t → words_from all Domain (t ∷ ts) ≡ l ∷ words_from all Dots ts → words_from all Dots ts ≡ words_from all Upper us → ts ≡ d ∷ us → Right.Sign 46 d → At all end Upper ns false us → Declared ns v (t ∷ ts)
      upper d [] l n w w' i s b = absurd (let e = at-end Upper b in omega arith)
      upper d (h ∷ us) l n w w' i s b =
          let y = a-number 2 h Colon (no-fault-here all end b) in
          let c = plain-on all end b y.1.0 (not-colon h.sort 1 y.1.1.1.0 refl) in
          subst (λ (m : List Token). Declared ns v (t ∷ m)) (sym i)
          (integer-item ns v t d h l y.0 us k n s y.1.1.1 (named ns us c)
          (subst (λ (m : List Token). words_from all Domain (t ∷ m) ≡ l ∷ (y.0 ∷ words_from all Colon us)) i (w ∙ ap (λ (m : List ℕ). l ∷ m) (w' ∙ one-word all end Upper h us y.1.0 y.1.1.0 (omega arith)))))

      go : (b : Bool) → is_word "bool" t ≡ b → Declared ns v (t ∷ ts)
      go true q =
          let s : step all Domain t ts ≡ passes (word 3 0) Colon = rw q in
          let c = plain-on all end a s (not-colon t.sort 2 (word-sort "bool" t q) refl) in
          boolean-item ns v t ts k q (named ns ts c) (one-word all end Domain t ts s (kind-word 3 0) (omega arith))
      go false q =
          let y = a-number 1 t Dots (rw q at (no-fault-here all end a)) in
          let s : step all Domain t ts ≡ passes y.0 Dots = rw q y.1.0 in
          let b = plain-on all end a s (not-colon t.sort 1 y.1.1.1.0 refl) in
          let d = sign Dots Upper ns 46 refl refl (λ t ts. refl) ts b in
          upper d.t d.rest y.0 y.1.1.1 (one-word all end Domain t ts s y.1.1.0 (omega arith)) d.words d.is d.right d.at

  -- ---- constraints

  record Constrained (ns : List (List ℕ)) (ts : List Token) : Type 0 where
    rest : List Token
    ws : List ℕ
    at : At all end (Item 1) ns false rest
    words : words_from all Builtin ts ≡ ws ++ words_from all (Item 1) rest
    shorter : length rest < length ts
    extends : (last : List Token) (k : Token) (vs : List ℕ) → Right.Keyword "constraint" k → Right.Constraints ns last vs rest → Right.Constraints ns last (ws ++ vs) (k ∷ ts)

  constrained : (ns : List (List ℕ)) (ts : List Token) → At all end Builtin ns false ts → Constrained ns ts
  unfolding step fitting gives of_sort name_step
  constrained ns [] a = absurd (let e = at-end Builtin a in omega arith)
  constrained ns (b ∷ ts) a = go (sorts_from c) refl (left-all c) o.at
    where
      c : ℕ
      c = code_of b

      p : (ltb 0 c ≡ true) × (step all Builtin b ts ≡ passes (word 4 c) (Opening c))
      p = name-passes b.sort (ltb 0 c) (word 4 c) (Opening c) (no-fault-here all end a)

      n : b.sort ≡ 2
      n = a-name b.sort (ltb 0 c) (word 4 c) (Opening c) (no-fault-here all end a)

      o : Token-read (Opening c) ns ts (Argument c 0 0) (Right.Sign 40)
      o = sign (Opening c) (Argument c 0 0) ns 40 refl refl (λ t ts. refl) ts (plain-on all end a p.1 (not-colon b.sort 2 n refl))

      built : Right.Builtin c b
      built = (n, refl, omega (arith, ltb-true 0 c p.0))

      go : (ss : List Sort) → sorts_from c ≡ ss → Left c 0 0 ss → At all end (Argument c 0 0) ns false o.rest → Constrained ns (b ∷ ts)
      go [] e l d = absurd (none-met all end c ns 0 0 0 l o.rest d)
      go (s ∷ ss) e l d =
          let r = arguments all end c ns ss s 0 0 0 l o.rest d in
          let f = sign (Semicolon 1) (Item 1) ns 59 refl refl (λ t ts. refl) r.rest r.at in
          record {
            rest = f.rest;
            ws = word 4 c ∷ r.ws;
            at = f.at;
            words = one-word all end Builtin b ts p.1 (kind-word 4 c) (omega arith) ∙ ap (λ (m : List ℕ). word 4 c ∷ m) (o.words ∙ r.words ∙ ap (λ (m : List ℕ). r.ws ++ m) f.words);
            shorter = omega (arith, r.shorter, ap length o.is, ap length f.is);
            extends = λ last k vs w rest.
                subst (λ (m : List Token). Right.Constraints ns last (word 4 c ∷ (r.ws ++ vs)) (k ∷ (b ∷ m))) (sym o.is)
                (Right.constraint w built o.right
                (subst (λ (m : List Sort). Right.Arguments ns (f.t ∷ f.rest) m r.ws o.rest) (sym e) (subst (λ (m : List Token). Right.Arguments ns m (s ∷ ss) r.ws o.rest) f.is r.is))
                f.right rest);
          }

  -- ---- items

  data ItemIs (s : ℕ) (ns : List (List ℕ)) (ts : List Token) : Type 0 where
    a-declaration : (t : Token) (us : List Token) → ts ≡ t ∷ us → Right.Keyword "var" t → s ≡ 0 → At all end Domain ns false us → words_from all (Item s) ts ≡ words_from all Domain us → ItemIs s ns ts
    a-constraint : (t : Token) (us : List Token) → ts ≡ t ∷ us → Right.Keyword "constraint" t → At all end Builtin ns false us → words_from all (Item s) ts ≡ words_from all Builtin us → ItemIs s ns ts
    the-end : (t : Token) (us : List Token) → ts ≡ t ∷ us → Right.Keyword "solve" t → At all end Satisfy ns false us → words_from all (Item s) ts ≡ words_from all Satisfy us → ItemIs s ns ts

  item-is : (s : ℕ) → s ≤ 1 → (ns : List (List ℕ)) (ts : List Token) → At all end (Item s) ns false ts → ItemIs s ns ts
  unfolding step fitting gives is_word
  item-is s l ns [] a = absurd (no-item s l (at-end (Item s) a))
    where
      no-item : (s : ℕ) → s ≤ 1 → (step all (Item s) (end_of end) []).fault ≡ 0 → ⊥
      no-item zero l e = omega arith
      no-item (suc zero) l e = omega arith
      no-item (suc (suc s)) l e = omega (arith, l)
  item-is s l ns (t ∷ us) a = go (is_word "var" t) (is_word "constraint" t) (is_word "solve" t) refl refl refl
    where
      two : leb s 1 ≡ true
      two = le-leb s 1 l

      go : (x y z : Bool) → is_word "var" t ≡ x → is_word "constraint" t ≡ y → is_word "solve" t ≡ z → ItemIs s ns (t ∷ us)
      go true y z f g h =
          let p = fits (eqb s 0) 0 Domain (rw f at (no-fault-here all end a)) in
          let q : step all (Item s) t us ≡ passes 0 Domain = rw f p.1 in
          a-declaration t us refl f (eqb-true s 0 p.0) (plain-on all end a q (not-colon t.sort 2 (word-sort "var" t f) refl)) (silent all end (Item s) t us q)
      go false true z f g h =
          let q : step all (Item s) t us ≡ passes 0 Builtin = rw (f, g, two) in
          a-constraint t us refl g (plain-on all end a q (not-colon t.sort 2 (word-sort "constraint" t g) refl)) (silent all end (Item s) t us q)
      go false false true f g h =
          let q : step all (Item s) t us ≡ passes 0 Satisfy = rw (f, g, h, two) in
          the-end t us refl h (plain-on all end a q (not-colon t.sort 2 (word-sort "solve" t h) refl)) (silent all end (Item s) t us q)
      go false false false f g h = absurd (no-more s l (both_true (eqb t.sort 257) (eqb s 2) (fits _ 0 (Item 2) (rw (f, g, h) at (no-fault-here all end a))).0).1)
        where
          no-more : (s : ℕ) → s ≤ 1 → eqb s 2 ≡ true → ⊥
          no-more s l e = omega (arith, eqb-true s 2 e)

  -- ---- the end

  -- no token follows the last item
  nothing : (ns : List (List ℕ)) (ts : List Token) → At all end (Item 2) ns false ts → ts ≡ []
  unfolding step fitting gives
  nothing ns [] a = refl
  nothing ns (t ∷ ts) a = absurd (go (is_word "var" t) (is_word "constraint" t) (is_word "solve" t) refl refl refl)
    where
      go : (x y z : Bool) → is_word "var" t ≡ x → is_word "constraint" t ≡ y → is_word "solve" t ≡ z → ⊥
      go true y z f g h = let e = rw f at (no-fault-here all end a) in omega arith
      go false true z f g h = let e = rw (f, g) at (no-fault-here all end a) in omega arith
      go false false true f g h = let e = rw (f, g, h) at (no-fault-here all end a) in omega arith
      go false false false f g h = omega (arith, sort-here all end a, eqb-true t.sort 257 (both_true (eqb t.sort 257) true (fits _ 0 (Item 2) (rw (f, g, h) at (no-fault-here all end a))).0).0)

  none-read : (ts : List Token) → ts ≡ [] → words_from all (Item 2) ts ≡ []
  unfolding words_from
  none-read ts e = rw e

  record Ended (ns : List (List ℕ)) (t : Token) (ts : List Token) : Type 0 where
    b : Token
    e : Token
    is : ts ≡ b ∷ (e ∷ [])
    satisfy : Right.Keyword "satisfy" b
    semicolon : Right.Sign 59 e
    words : words_from all Satisfy ts ≡ word 7 0 ∷ []

  the-last : (ns : List (List ℕ)) (t : Token) (ts : List Token) → At all end Satisfy ns false ts → Ended ns t ts
  unfolding step fitting gives is_word
  the-last ns t [] a = absurd (let e = at-end Satisfy a in omega arith)
  the-last ns t (b ∷ []) a =
      let p = fits (is_word "satisfy" b) 0 (Semicolon 2) (no-fault-here all end a) in
      absurd (let e = at-end (Semicolon 2) (plain-on all end a p.1 (not-colon b.sort 2 (word-sort "satisfy" b p.0) refl)) in omega arith)
  the-last ns t (b ∷ (e ∷ ts)) a =
      let p = fits (is_word "satisfy" b) 0 (Semicolon 2) (no-fault-here all end a) in
      let c = plain-on all end a p.1 (not-colon b.sort 2 (word-sort "satisfy" b p.0) refl) in
      let q = fits (eqb e.sort 59) (word 7 0) (Item 2) (no-fault-here all end c) in
      let h : e.sort ≡ 59 = eqb-true e.sort 59 q.0 in
      let d = plain-on all end c q.1 (not-colon e.sort 59 h refl) in
      let n = nothing ns ts d in
      record {
        b = b;
        e = e;
        is = ap (λ (l : List Token). b ∷ (e ∷ l)) n;
        satisfy = p.0;
        semicolon = h;
        words = silent all end Satisfy b (e ∷ ts) p.1 ∙ one-word all end (Semicolon 2) e ts q.1 (kind-word 7 0) (omega arith) ∙ ap (λ (l : List ℕ). word 7 0 ∷ l) (none-read ts n);
      }

  -- ---- constraints and the end

  record Finish (s : ℕ) (ns : List (List ℕ)) (ts : List Token) : Type 0 where
    cs : List ℕ
    a : Token
    b : Token
    e : Token
    is : Right.Constraints ns (a ∷ (b ∷ (e ∷ []))) cs ts
    solve : Right.Keyword "solve" a
    satisfy : Right.Keyword "satisfy" b
    semicolon : Right.Sign 59 e
    words : words_from all (Item s) ts ≡ cs ++ (word 7 0 ∷ [])

  end-finish : (s : ℕ) (ns : List (List ℕ)) (ts : List Token) (t : Token) (us : List Token) → ts ≡ t ∷ us → Right.Keyword "solve" t → At all end Satisfy ns false us → words_from all (Item s) ts ≡ words_from all Satisfy us → Finish s ns ts
  end-finish s ns ts t us i k a w =
      let f = the-last ns t us a in
      let j : ts ≡ t ∷ (f.b ∷ (f.e ∷ [])) = i ∙ ap (λ (l : List Token). t ∷ l) f.is in
      record {
        cs = [];
        a = t;
        b = f.b;
        e = f.e;
        is = subst (λ (l : List Token). Right.Constraints ns (t ∷ (f.b ∷ (f.e ∷ []))) [] l) (sym j) Right.no-constraint;
        solve = k;
        satisfy = f.satisfy;
        semicolon = f.semicolon;
        words = w ∙ f.words;
      }

  constraint-finish : (s : ℕ) (ns : List (List ℕ)) (ts : List Token) (t : Token) (us : List Token) → ts ≡ t ∷ us → Right.Keyword "constraint" t → words_from all (Item s) ts ≡ words_from all Builtin us → (r : Constrained ns us) → Finish 1 ns r.rest → Finish s ns ts
  constraint-finish s ns ts t us i k w r f = record {
    cs = r.ws ++ f.cs;
    a = f.a;
    b = f.b;
    e = f.e;
    is = subst (λ (l : List Token). Right.Constraints ns (f.a ∷ (f.b ∷ (f.e ∷ []))) (r.ws ++ f.cs) l) (sym i) (r.extends _ t f.cs k f.is);
    solve = f.solve;
    satisfy = f.satisfy;
    semicolon = f.semicolon;
    words = w ∙ r.words ∙ ap (λ (l : List ℕ). r.ws ++ l) f.words ∙ sym (append_assoc r.ws f.cs _);
  }

  finish : (m : ℕ) (ns : List (List ℕ)) (ts : List Token) → length ts ≤ m → At all end (Item 1) ns false ts → Finish 1 ns ts
  finish zero ns ts l a = go (item-is 1 (omega arith) ns ts a)
    where
      go : ItemIs 1 ns ts → Finish 1 ns ts
      go (a-declaration t us i k z b w) = absurd (omega (arith, z))
      go (the-end t us i k b w) = absurd (omega (arith, ap length i))
      go (a-constraint t us i k b w) = absurd (omega (arith, ap length i))
  finish (suc m) ns ts l a = go (item-is 1 (omega arith) ns ts a) (finish m ns)
    where
      go : ItemIs 1 ns ts → ((us : List Token) → length us ≤ m → At all end (Item 1) ns false us → Finish 1 ns us) → Finish 1 ns ts
      go (a-declaration t us i k z b w) rest = absurd (omega (arith, z))
      go (the-end t us i k b w) rest = end-finish 1 ns ts t us i k b w
      go (a-constraint t us i k b w) rest = let r = constrained ns us b in constraint-finish 1 ns ts t us i k w r (rest r.rest (omega (arith, ap length i, r.shorter)) r.at)

  -- ---- the whole

  record Whole (ns : List (List ℕ)) (ts : List Token) : Type 0 where
    names : List (List ℕ)
    us : List Token
    ds : List ℕ
    cs : List ℕ
    a : Token
    b : Token
    e : Token
    declarations : Right.Declarations names us ns ds ts
    constraints : Right.Constraints names (a ∷ (b ∷ (e ∷ []))) cs us
    solve : Right.Keyword "solve" a
    satisfy : Right.Keyword "satisfy" b
    semicolon : Right.Sign 59 e
    words : words_from all (Item 0) ts ≡ ds ++ (cs ++ (word 7 0 ∷ []))

  no-declarations : (ns : List (List ℕ)) (ts : List Token) → Finish 0 ns ts → Whole ns ts
  no-declarations ns ts f = record {
    names = ns;
    us = ts;
    ds = [];
    cs = f.cs;
    a = f.a;
    b = f.b;
    e = f.e;
    declarations = Right.no-declaration;
    constraints = f.is;
    solve = f.solve;
    satisfy = f.satisfy;
    semicolon = f.semicolon;
    words = f.words;
  }

  whole : (m : ℕ) (ns : List (List ℕ)) (ts : List Token) → length ts ≤ m → At all end (Item 0) ns false ts → Whole ns ts
  whole zero ns ts l a = go (item-is 0 (omega arith) ns ts a)
    where
      go : ItemIs 0 ns ts → Whole ns ts
      go (a-declaration t us i k z b w) = absurd (omega (arith, ap length i))
      go (the-end t us i k b w) = absurd (omega (arith, ap length i))
      go (a-constraint t us i k b w) = absurd (omega (arith, ap length i))
  whole (suc m) ns ts l a = go (item-is 0 (omega arith) ns ts a) (whole m)
    where
      go : ItemIs 0 ns ts → ((names : List (List ℕ)) (us : List Token) → length us ≤ m → At all end (Item 0) names false us → Whole names us) → Whole ns ts
      go (the-end t us i k b w) rest = no-declarations ns ts (end-finish 0 ns ts t us i k b w)
      go (a-constraint t us i k b w) rest = let r = constrained ns us b in no-declarations ns ts (constraint-finish 0 ns ts t us i k w r (finish (length r.rest) ns r.rest (omega arith) r.at))
      go (a-declaration t us i k z b w) rest =
          let r = declared ns t us k b in
          let f = rest (ns ++ (r.x.spelling ∷ [])) r.rest (omega (arith, ap length i, r.shorter)) r.at in
          record {
            names = f.names;
            us = f.us;
            ds = r.ws ++ f.ds;
            cs = f.cs;
            a = f.a;
            b = f.b;
            e = f.e;
            declarations = subst (λ (l : List Token). Right.Declarations f.names f.us ns (r.ws ++ f.ds) l) (sym i) (r.extends f.names f.us f.ds f.declarations);
            constraints = f.constraints;
            solve = f.solve;
            satisfy = f.satisfy;
            semicolon = f.semicolon;
            words = w ∙ r.words ∙ ap (λ (l : List ℕ). r.ws ++ l) f.words ∙ sym (append_assoc r.ws f.ds _);
          }

-- THE LAW: a text without a fault is a right text, and its words are its items'
pub right-text : (bs : List ℕ) → tokens_fault (tokens bs) (length bs) ≡ accepted → Right.RightText (tokens_words (tokens bs)) (tokens bs)
unfolding tokens_fault tokens_words tokens
right-text bs e =
    let all = tokens bs in
    let a : At all (length bs) (Item 0) [] false all = record { accepts = e; from = 0; ordered = ordered-tokens 0 0 bs; past = λ q l. refl } in
    let f = whole all (length bs) (length all) [] all (omega arith) a in
    subst (λ (ws : List ℕ). Right.RightText ws all) (sym f.words) (Right.right-text f.declarations f.constraints f.solve f.satisfy f.semicolon)
