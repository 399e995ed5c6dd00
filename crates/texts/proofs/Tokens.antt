-- Reading on from a token of a text without a fault: the names declared so far, the words that are left, and what a token is.
use Rattle.std.proofs.Common.{take, ◌≡◌, refl, sym, ap, subst, ◌∙◌, Bool, true, false, not, ◌&&◌, ◌||◌, List, [], ◌∷◌, ◌++◌, append-nil, append_assoc, ℕ, zero, suc, ◌+◌, ◌-◌, ◌<◌, ◌≤◌, arith, eqb, ltb, leb, eqb-true, ltb-true, ne_eqb, eq-eqb, lt-ltb, le-ltb}
use borrow.Author.Tests.{not-true}
use Rattle.integers.specs.Choice.{◌if◌else◌}
use Rattle.integers.proofs.Tests.{false-true}
use Rattle.integers.proofs.Booleans.{both_true}
use Rattle.words.specs.Word.{kind, word, number_word}
use Rattle.words.specs.Refusal.{accepted}
use Rattle.words.proofs.Reading.{passed}
use Rattle.words.proofs.ReadBack.{kind-word, kind-number}
use Rattle.integers.specs.Lists.{all, any, list_of}
use Rattle.tokens.specs.Byte.{bytes, is_gap, is_sign, is_letter}
use Rattle.tokens.specs.Token.{Token, tokens_from, token_length, starts_number, starts_dots, sort_of}
use Rattle.names.specs.Name.{look_up, declared_from, variable_of}
use Rattle.grammar.specs.Value.{value_of}
use Rattle.grammar.specs.Brackets.{fits_inside}
use Rattle.grammar.specs.Grammar.{Due, Next, Inside, gives, fitting, of_sort, name_step, number_step, single_step, step}
use Rattle.texts.specs.Text.{fault_from, words_from}
use Rattle.texts.specs.RightText.{Number, Variable}
use Rattle.texts.proofs.TokenSteps.{passes, number-passes, name-passes, left_in}

-- ---- places

-- and have the sorts of tokens, none that of the end
abbrev pub Ordered : ℕ → List Token → Type 0
Ordered p [] = Unit {0}
Ordered p (t ∷ ts) = (p ≤ t.place) × ((t.sort < 257) × Ordered (t.place + 1) ts)

earlier : (p q : ℕ) (ts : List Token) → q ≤ p → Ordered p ts → Ordered q ts
earlier p q [] l o = tt
earlier p q (t ∷ ts) l o = (omega (arith, o.0), o.1)

one-below : (b : ℕ) (xs : List ℕ) → all (λ x. ltb x 257) xs ≡ true → any (eqb b) xs ≡ true → b < 257
unfolding all any
one-below b [] h e = false-true e
one-below b (x ∷ xs) h e = go (eqb b x) refl e (both_true (ltb x 257) _ h) (one-below b xs)
  where
    go : (d : Bool) → eqb b x ≡ d → (d || any (eqb b) xs) ≡ true → (ltb x 257 ≡ true) × (all (λ x. ltb x 257) xs ≡ true) → (all (λ x. ltb x 257) xs ≡ true → any (eqb b) xs ≡ true → b < 257) → b < 257
    go true q e k f = omega (arith, eqb-true b x q, ltb-true x 257 k.0)
    go false q e k f = f k.1 e

signs-below : all (λ x. ltb x 257) (bytes ":;,()[]{}") ≡ true
unfolding all bytes list_of
signs-below = refl

sort-below : (b : ℕ) (bs : List ℕ) → sort_of b bs < 257
unfolding sort_of is_sign
sort-below b bs = go (is_letter b) (leb (token_length b bs) 32) (starts_number b bs) (starts_dots b bs) (any (eqb b) (bytes ":;,()[]{}")) refl
  where
    go : (l k n d g : Bool) → any (eqb b) (bytes ":;,()[]{}") ≡ g → ((2 if k else 0) if l else 1 if n else 46 if d else b if g else 0) < 257
    go true true n d g e = omega arith
    go true false n d g e = omega arith
    go false k true d g e = omega arith
    go false k false true g e = omega arith
    go false k false false true e = one-below b (bytes ":;,()[]{}") signs-below e
    go false k false false false e = omega arith

pub ordered-tokens : (left p : ℕ) (bs : List ℕ) → Ordered p (tokens_from left p bs)
unfolding tokens_from
ordered-tokens left p [] = tt
ordered-tokens (suc left) p (b ∷ bs) = earlier (p + 1) p _ (omega arith) (ordered-tokens left (p + 1) bs)
ordered-tokens zero p (b ∷ bs) = go (is_gap b) (ordered-tokens (token_length b bs - 1) (p + 1) bs)
  where
    go : (g : Bool) → Ordered (p + 1) (tokens_from (token_length b bs - 1) (p + 1) bs) →
        Ordered p (tokens_from (token_length b bs - 1) (p + 1) bs if g else (let t : Token = record { sort = sort_of b bs; place = p; spelling = take (token_length b bs) (b ∷ bs) } in t ∷ tokens_from (token_length b bs - 1) (p + 1) bs))
    go true o = earlier (p + 1) p _ (omega arith) o
    go false o = (omega arith, (sort-below b bs, o))

-- ---- what a token of a sort is

sort-is : (sort s : ℕ) (right : Bool) (number w : ℕ) (next : Due) → (of_sort sort s right number w next).fault ≡ 0 → s ≡ sort
unfolding of_sort gives
sort-is sort s right number w next e = go (eqb s sort) refl e
  where
    go : (a : Bool) → eqb s sort ≡ a → ((0 if right else number) if a else 19) ≡ 0 → s ≡ sort
    go true q e = eqb-true s sort q
    go false q e = absurd (omega arith)

pub a-number : (k : ℕ) (t : Token) (next : Due) → (number_step k t next).fault ≡ 0 → (w : ℕ) × ((number_step k t next ≡ passes w next) × ((kind w ≡ k) × Number k w t))
unfolding number_step
a-number k t next e =
    let p = number-passes k t next e in
    (number_word k (value_of t.spelling), (p.1, (kind-number k (value_of t.spelling), (sort-is 1 t.sort _ 21 _ next e, p.0, refl))))

pub a-name : (s : ℕ) (right : Bool) (w : ℕ) (next : Due) → (name_step s right w next).fault ≡ 0 → s ≡ 2
unfolding name_step
a-name s right w next e = sort-is 2 s right 20 w next e

-- an element's sort, a closing bracket; elements that are numbers or variables
pub record Listing (el cl : ℕ) : Type 0 where
  pub apart : eqb el cl ≡ false
  pub closing-apart : eqb cl el ≡ false
  pub comma-apart : eqb 44 el ≡ false
  pub element-comma : eqb el 44 ≡ false
  pub closing-comma : eqb cl 44 ≡ false
  pub comma-closing : eqb 44 cl ≡ false
  pub element-colon : eqb el 58 ≡ false
  pub closing-colon : eqb cl 58 ≡ false

module _ (all : List Token) (end : ℕ) where
  -- ---- reading goes on without a fault, after the names ns; b says whether a colon stands before
  pub record At (g : Due) (ns : List (List ℕ)) (b : Bool) (ts : List Token) : Type 0 where
    pub accepts : fault_from all end g ts ≡ accepted
    pub from : ℕ
    pub ordered : Ordered from ts
    pub past : (q : ℕ) → from ≤ q → declared_from false q all ≡ ns ++ declared_from b q ts

  module _ {g : Due} {ns : List (List ℕ)} {b : Bool} {t : Token} {ts : List Token} (a : At g ns b (t ∷ ts)) where
    pub names-here : declared_from false t.place all ≡ ns
    unfolding declared_from
    names-here = a.past t.place a.ordered.0 ∙ rw (le-ltb t.place t.place (omega arith)) (append-nil ns)

    pub sort-here : t.sort < 257
    sort-here = a.ordered.1.0

    pub no-fault-here : (step all g t ts).fault ≡ 0
    unfolding fault_from
    no-fault-here = (passed (step all g t ts).fault t.place _ a.accepts).0

    pub go-on : {w : ℕ} {next : Due} → step all g t ts ≡ passes w next → At next (ns ++ (t.spelling ∷ [] if b else [])) (eqb t.sort 58) ts
    unfolding fault_from declared_from
    go-on {w} {next} s = record {
      accepts = rw s at (passed (step all g t ts).fault t.place _ a.accepts).1;
      from = t.place + 1;
      ordered = a.ordered.1.1;
      past = λ q l. a.past q (omega (arith, a.ordered.0, l)) ∙ rw (lt-ltb t.place q (omega (arith, l))) (go b q);
    }
      where
        go : (b : Bool) (q : ℕ) → ns ++ (t.spelling ∷ declared_from (eqb t.sort 58) q ts if b else declared_from (eqb t.sort 58) q ts) ≡ (ns ++ (t.spelling ∷ [] if b else [])) ++ declared_from (eqb t.sort 58) q ts
        go true q = sym (append_assoc ns (t.spelling ∷ []) _)
        go false q = sym (append_assoc ns [] _)

  -- a token that is no colon, where none stands before it
  pub plain-on : {g next : Due} {ns : List (List ℕ)} {t : Token} {ts : List Token} {w : ℕ} → At g ns false (t ∷ ts) → step all g t ts ≡ passes w next → eqb t.sort 58 ≡ false → At next ns false ts
  plain-on {ns = ns} a s f = rw (append-nil ns, f) at (go-on a s)

  -- ---- the words of a token

  pub silent : (g : Due) (t : Token) (ts : List Token) {next : Due} → step all g t ts ≡ passes 0 next → words_from all g (t ∷ ts) ≡ words_from all next ts
  unfolding words_from
  silent g t ts s = rw s refl

  pub one-word : (g : Due) (t : Token) (ts : List Token) {next : Due} {w k : ℕ} → step all g t ts ≡ passes w next → kind w ≡ k → 1 ≤ k → words_from all g (t ∷ ts) ≡ w ∷ words_from all next ts
  unfolding words_from kind
  one-word g t ts {w = w} s q l = rw (s, ne_eqb w 0 (λ z. omega (arith, z, q)))

  -- the name of a variable, where the names ns are declared
  pub a-variable : (ns : List (List ℕ)) (t : Token) (next : Due) → declared_from false t.place all ≡ ns → (single_step all 2 t next).fault ≡ 0 →
      (w : ℕ) × ((single_step all 2 t next ≡ passes w next) × ((kind w ≡ 5) × Variable ns w t))
  unfolding single_step variable_of
  a-variable ns t next h e =
      let v = look_up t.spelling 0 (declared_from false t.place all) in
      let p = name-passes t.sort (ltb 0 v) (word 5 (v - 1)) next e in
      let l : look_up t.spelling 0 (declared_from false t.place all) ≡ suc (v - 1) = omega (arith, ltb-true 0 v p.0) in
      (word 5 (v - 1), (p.1, (kind-word 5 (v - 1), (a-name t.sort (ltb 0 v) (word 5 (v - 1)) next e, (v - 1, (subst (λ (d : List (List ℕ)). look_up t.spelling 0 d ≡ suc (v - 1)) h l, refl))))))

  -- ---- in brackets

  module _ (c j n : ℕ) {el cl : ℕ} (l : Listing el cl) where
    pub data Met (before : ℕ) (t : Token) (ts : List Token) : Type 0 where
      one : t.sort ≡ el → eqb before el ≡ false → (single_step all el t (Inside c j n el cl el)).fault ≡ 0 → step all (Inside c j n el cl before) t ts ≡ single_step all el t (Inside c j n el cl el) →
          left_in el cl before (t ∷ ts) ≡ suc (left_in el cl el ts) → Met before t ts
      comma : t.sort ≡ 44 → eqb before el ≡ true → step all (Inside c j n el cl before) t ts ≡ passes 0 (Inside c j n el cl 44) → left_in el cl before (t ∷ ts) ≡ left_in el cl 44 ts → Met before t ts
      shut : t.sort ≡ cl → (eqb before el ≡ false → eqb before 44 ≡ false) → step all (Inside c j n el cl before) t ts ≡ passes 0 (Next c j n) → left_in el cl before (t ∷ ts) ≡ 0 → Met before t ts

    pub met : (before : ℕ) (t : Token) (ts : List Token) → (step all (Inside c j n el cl before) t ts).fault ≡ 0 → Met before t ts
    unfolding step left_in fitting gives fits_inside
    met before t ts e = go (fits_inside el cl before t.sort) (eqb t.sort el) (eqb t.sort cl) refl refl refl e
      where
        fit : (b : Bool) → eqb before el ≡ b → fits_inside el cl before t.sort ≡ true → ((eqb t.sort 44 || eqb t.sort cl) if b else (eqb t.sort el || (eqb t.sort cl && not (eqb before 44)))) ≡ true
        fit b q f = rw q at f

        none-before : (b : Bool) → eqb before el ≡ b → t.sort ≡ el → fits_inside el cl before t.sort ≡ true → b ≡ false
        none-before true q s f = false-true (rw (s, l.element-comma, l.apart) at (fit true q f))
        none-before false q s f = refl

        is-comma : (b : Bool) → eqb before el ≡ b → eqb t.sort el ≡ false → eqb t.sort cl ≡ false → fits_inside el cl before t.sort ≡ true → (t.sort ≡ 44) × (b ≡ true)
        is-comma true q g h f = (by (eqb t.sort 44) refl (rw h at (fit true q f)), refl)
          where
            by : (d : Bool) → eqb t.sort 44 ≡ d → (d || false) ≡ true → t.sort ≡ 44
            by true z y = eqb-true t.sort 44 z
            by false z y = false-true y
        is-comma false q g h f = false-true (rw (g, h) at (fit false q f))

        no-comma-before : t.sort ≡ cl → fits_inside el cl before t.sort ≡ true → eqb before el ≡ false → eqb before 44 ≡ false
        no-comma-before s f q = not-true _ (rw (s, l.closing-apart, eq-eqb cl cl refl) at (fit false q f))

        go : (a b d : Bool) → fits_inside el cl before t.sort ≡ a → eqb t.sort el ≡ b → eqb t.sort cl ≡ d →
            (single_step all el t (Inside c j n el cl el) if a && b else fitting a 0 (Next c j n if d else Inside c j n el cl t.sort)).fault ≡ 0 → Met before t ts
        go false b d f g h e = absurd (omega arith)
        go true true d f g h e =
            let q : t.sort ≡ el = eqb-true t.sort el g in
            let k : eqb t.sort cl ≡ false = rw q l.apart in
            one q (none-before (eqb before el) refl q f) e (rw (f, g)) (rw (f, k, g, q) (omega arith))
        go true false true f g h e = let q : t.sort ≡ cl = eqb-true t.sort cl h in shut q (no-comma-before q f) (rw (f, g, h)) (rw (f, h))
        go true false false f g h e =
            let x = is-comma (eqb before el) refl g h f in
            let s : step all (Inside c j n el cl before) t ts ≡ passes 0 (Inside c j n el cl t.sort) = rw (f, g, h) in
            let m : left_in el cl before (t ∷ ts) ≡ left_in el cl t.sort ts = rw (f, h, g) (omega arith) in
            comma x.0 x.1 (s ∙ ap (λ (b : ℕ). passes 0 (Inside c j n el cl b)) x.0) (m ∙ ap (λ (b : ℕ). left_in el cl b ts) x.0)
