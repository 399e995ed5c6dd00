-- What is read is spelled so: each reader takes from the front the tokens of what it answers.
use Rattle.std.proofs.Common.{◌≡◌, refl, sym, ap, ◌∙◌, subst, Bool, true, false, List, [], ◌∷◌, ◌++◌, ℕ, zero, suc, ℤ, length, take, drop, Option, Some, None, append_assoc, ◌<◌, arith}
use Rattle.std.specs.Prelude.{option_map, Result, Ok, Err, IfOk}
use Rattle.std.specs.Str.{bytes_eq}
use Rattle.std.specs.List.{prefix_len}
use Rattle.std.proofs.lemmas.Bool.{eqb-true}
use Rattle.std.proofs.lemmas.List.{append-nil, take-append-drop}
use Rattle.std.proofs.lemmas.Slice.Eq.{bytes_eq-Decides}
use Rattle.integers.specs.Choice.{◌if◌else◌}
use Rattle.words.specs.Bytes.{bytes}
use Rattle.flatzinc.specs.declared.trouble.Trouble.{Trouble}
use Rattle.flatzinc.specs.Answer.{Gives}
use Rattle.flattokens.specs.Token.{Token}
use Rattle.flattokens.specs.Token as t
use Rattle.flatstatements.specs.declared.Statement.{Statement as Statement'}
use Rattle.flatstatements.specs.Statement.{Literal, Element, Goal, Statement, statement_of}
use Rattle.flatstatements.specs.Statement as S
use Rattle.flatstatements.specs.Front.{◌>>=◌, is_sign, is_word, is_dots, name_of, number_of, begins, sign_at, name_at, number_at, ended}
use Rattle.flatstatements.specs.Reading.{literal_named, literal_from, literal_at, number_in, separator_at, items_at, some_at, list_at, members_at, range_from, element_at, elements_at, expression_at, arguments_at, notes_length, notes_at, predicate_read, bounds_at, domain_at, given_read, variable_read, constraint_read, goal_read, solve_read, begins_kind, in_kind, parameter_read, statement_read}
use Rattle.flatstatements.specs.Printing.{literal_token, followed, listed, number_tokens, members_tokens, element_tokens, expression_tokens, range_tokens, given_tokens, goal_tokens, tokens_of}
use Rattle.flatstatements.specs.declared.notes.Place.TheVariants.{Between, BehindColons}

-- ---- steps that answer

bind_some : {A B : Type 0} (r : Option A) (f : A → Option B) (y : B) → (r >>= f) ≡ Some y → (x : A) × (r ≡ Some x) × (f x ≡ Some y)
bind_some (Some x) f y e = (x, refl, e)
bind_some None f y e = absurd cc

map_some : {A B : Type 0} (f : A → B) (r : Option A) (y : B) → option_map f r ≡ Some y → (x : A) × (r ≡ Some x) × (f x ≡ y)
map_some f (Some x) y e = (x, refl, cc)
map_some f None y e = absurd cc

chosen : {A : Type 0} (b : Bool) (x y : Option A) (z : A) (P : Type 0) → (x if b else y) ≡ Some z → (b ≡ true → x ≡ Some z → P) → (b ≡ false → y ≡ Some z → P) → P
chosen true x y z P e f g = f refl e
chosen false x y z P e f g = g refl e

guard : {A : Type 0} (b : Bool) (x z : A) → (Some x if b else None) ≡ Some z → (b ≡ true) × (x ≡ z)
guard true x z e = (refl, cc)
guard false x z e = absurd cc

-- ---- a front

-- the tokens of what was read, and the rest
abbrev Takes : {A : Type 0} → (A → List Token) → List Token → A × List Token → Type 0
Takes tokens ts x = ts ≡ tokens x.0 ++ x.1

abbrev Reader : {A : Type 0} → (A → List Token) → (List Token → Option (A × List Token)) → Type 0
Reader {A} tokens read = (ts : List Token) (x : A × List Token) → read ts ≡ Some x → Takes tokens ts x

abbrev singly : {A : Type 0} → (A → Token) → A → List Token
singly f x = f x ∷ []

begun_sign : (c : ℕ) (ts : List Token) → begins (is_sign c) ts ≡ true → ts ≡ t.sign c ∷ drop 1 ts
unfolding begins is_sign
begun_sign c [] e = absurd cc
begun_sign c (t.sign b ∷ ts) e = ap (λ (n : ℕ). t.sign n ∷ ts) (eqb-true b c e)
begun_sign c (t.name bs ∷ ts) e = absurd cc
begun_sign c (t.number n ∷ ts) e = absurd cc
begun_sign c (t.float bs ∷ ts) e = absurd cc
begun_sign c (t.text bs ∷ ts) e = absurd cc
begun_sign c (t.dots ∷ ts) e = absurd cc
begun_sign c (t.colons ∷ ts) e = absurd cc

begun_word : (w : List ℕ) (ts : List Token) → begins (is_word w) ts ≡ true → ts ≡ t.name w ∷ drop 1 ts
unfolding begins is_word
begun_word w [] e = absurd cc
begun_word w (t.name bs ∷ ts) e = ap (λ (n : List ℕ). t.name n ∷ ts) ((bytes_eq-Decides bs w).0 e)
begun_word w (t.sign b ∷ ts) e = absurd cc
begun_word w (t.number n ∷ ts) e = absurd cc
begun_word w (t.float bs ∷ ts) e = absurd cc
begun_word w (t.text bs ∷ ts) e = absurd cc
begun_word w (t.dots ∷ ts) e = absurd cc
begun_word w (t.colons ∷ ts) e = absurd cc

begun_dots : (ts : List Token) → begins is_dots ts ≡ true → ts ≡ t.dots ∷ drop 1 ts
unfolding begins is_dots
begun_dots [] e = absurd cc
begun_dots (t.dots ∷ ts) e = refl
begun_dots (t.name bs ∷ ts) e = absurd cc
begun_dots (t.sign b ∷ ts) e = absurd cc
begun_dots (t.number n ∷ ts) e = absurd cc
begun_dots (t.float bs ∷ ts) e = absurd cc
begun_dots (t.text bs ∷ ts) e = absurd cc
begun_dots (t.colons ∷ ts) e = absurd cc

sign_taken : (c : ℕ) (ts rest : List Token) → sign_at c ts ≡ Some rest → ts ≡ t.sign c ∷ rest
unfolding sign_at
sign_taken c ts rest e = let g = guard (begins (is_sign c) ts) (drop 1 ts) rest e in begun_sign c ts g.0 ∙ ap (λ (r : List Token). t.sign c ∷ r) g.1

name_is : (u : Token) (bs : List ℕ) → name_of u ≡ Some bs → u ≡ t.name bs
unfolding name_of
name_is (t.name x) bs e = let h : x ≡ bs = cc in ap t.name h
name_is (t.number n) bs e = absurd cc
name_is (t.float x) bs e = absurd cc
name_is (t.text x) bs e = absurd cc
name_is t.dots bs e = absurd cc
name_is t.colons bs e = absurd cc
name_is (t.sign b) bs e = absurd cc

number_is : (u : Token) (n : ℤ) → number_of u ≡ Some n → u ≡ t.number n
unfolding number_of
number_is (t.number x) n e = let h : x ≡ n = cc in ap t.number h
number_is (t.name x) n e = absurd cc
number_is (t.float x) n e = absurd cc
number_is (t.text x) n e = absurd cc
number_is t.dots n e = absurd cc
number_is t.colons n e = absurd cc
number_is (t.sign b) n e = absurd cc

name_taken : Reader (singly t.name) name_at
unfolding name_at
name_taken [] x e = absurd cc
name_taken (u ∷ ts) x e =
    let m = map_some (λ bs. (bs, ts)) (name_of u) x e in
    subst (λ (y : List ℕ × List Token). Takes (singly t.name) (u ∷ ts) y) m.2 (ap (λ (v : Token). v ∷ ts) (name_is u m.0 m.1))

number_taken : Reader number_tokens number_at
unfolding number_at
number_taken [] x e = absurd cc
number_taken (u ∷ ts) x e =
    let m = map_some (λ n. (n, ts)) (number_of u) x e in
    subst (λ (y : ℤ × List Token). Takes number_tokens (u ∷ ts) y) m.2 (ap (λ (v : Token). v ∷ ts) (number_is u m.0 m.1))

end_is : (ts : List Token) (u : Unit {0}) → ended ts ≡ Some u → ts ≡ []
unfolding ended
end_is [] u e = refl
end_is (t ∷ ts) u e = absurd cc

some_is : {A : Type 0} (x y : A) → ◌≡◌ {A = Option A} (Some x) (Some y) → x ≡ y
some_is x y e = cc

-- ---- literals

named_is : (bs : List ℕ) → literal_token (literal_named bs) ≡ t.name bs
unfolding literal_token literal_named
named_is bs = go (bytes_eq bs (bytes "true")) (bytes_eq bs (bytes "false")) refl refl
  where
    go : (b c : Bool) → bytes_eq bs (bytes "true") ≡ b → bytes_eq bs (bytes "false") ≡ c → literal_token (S.truth true if b else S.truth false if c else S.name bs) ≡ t.name bs
    go true c e f = ap t.name (sym ((bytes_eq-Decides bs (bytes "true")).0 e))
    go false true e f = ap t.name (sym ((bytes_eq-Decides bs (bytes "false")).0 f))
    go false false e f = refl

literal_is : (u : Token) (l : Literal) → literal_from u ≡ Some l → u ≡ literal_token l
unfolding literal_from literal_token
literal_is (t.name bs) l e = sym (named_is bs) ∙ ap literal_token (some_is (literal_named bs) l e)
literal_is (t.number n) l e = ap literal_token (some_is (S.number n) l e)
literal_is (t.float bs) l e = ap literal_token (some_is (S.float bs) l e)
literal_is (t.text bs) l e = absurd cc
literal_is t.dots l e = absurd cc
literal_is t.colons l e = absurd cc
literal_is (t.sign b) l e = absurd cc

literal_taken : Reader (singly literal_token) literal_at
unfolding literal_at
literal_taken [] x e = absurd cc
literal_taken (u ∷ ts) x e =
    let m = map_some (λ l. (l, ts)) (literal_from u) x e in
    subst (λ (y : Literal × List Token). Takes (singly literal_token) (u ∷ ts) y) m.2 (ap (λ (v : Token). v ∷ ts) (literal_is u m.0 m.1))

number_in_is : (l : Literal) (n : ℤ) → number_in l ≡ Some n → literal_token l ≡ t.number n
unfolding number_in literal_token
number_in_is (S.number m) n e = ap t.number (some_is m n e)
number_in_is (S.truth b) n e = absurd cc
number_in_is (S.name bs) n e = absurd cc
number_in_is (S.float bs) n e = absurd cc

-- ---- lists

separated : (close : ℕ) (ts : List Token) (s : Bool × List Token) → separator_at close ts ≡ Some s → ts ≡ (t.sign 44 if s.0 else t.sign close) ∷ s.1
unfolding separator_at
separated close ts s e =
    let P : Bool × List Token → Type 0 = λ y. ts ≡ (t.sign 44 if y.0 else t.sign close) ∷ y.1 in
    chosen (begins (is_sign 44) ts) (Some (true, drop 1 ts)) (Some (false, drop 1 ts) if begins (is_sign close) ts else None) s (P s) e
    (λ h k. subst P (some_is (true, drop 1 ts) s k) (begun_sign 44 ts h))
    (λ h k. let g = guard (begins (is_sign close) ts) (false, drop 1 ts) s k in subst P g.1 (begun_sign close ts g.0))

joined : (ts xs ys zs rest : List Token) → ts ≡ xs ++ ys → ys ≡ zs ++ rest → ts ≡ (xs ++ zs) ++ rest
joined ts xs ys zs rest p q = p ∙ ap (λ (r : List Token). xs ++ r) q ∙ sym (append_assoc xs zs rest)

module _ {A : Type 0} (tokens : A → List Token) (item : List Token → Option (A × List Token)) (takes : Reader tokens item) (close : ℕ) where
  followed_some : (xs : List A) → 0 < length xs → followed tokens close xs ≡ t.sign 44 ∷ listed tokens close xs
  unfolding followed listed
  followed_some [] h = absurd (omega arith)
  followed_some (x ∷ xs) h = refl

  -- some items and the bracket
  abbrev Listed : List Token → List A × List Token → Type 0
  Listed ts z = (0 < length z.0) × (ts ≡ listed tokens close z.0 ++ z.1)

  abbrev on : A → ℕ → Bool × List Token → Option (List A × List Token)
  on x n s = (items_at item close n s.1 >>= λ more. Some (x ∷ more.0, more.1)) if s.0 else Some (x ∷ [], s.1)

  items_taken : (n : ℕ) (ts : List Token) (z : List A × List Token) → items_at item close n ts ≡ Some z → Listed ts z
  unfolding items_at listed followed
  items_taken zero ts z e = absurd cc
  items_taken (suc n) ts z e =
      let a = bind_some (item ts) (λ x. separator_at close x.1 >>= on x.0 n) z e in
      let b = bind_some (separator_at close a.0.1) (on a.0.0 n) z a.2 in
      let p = takes ts a.0 a.1 in
      let q = separated close a.0.1 b.0 b.1 in
      let head : Bool → Token = λ c. t.sign 44 if c else t.sign close in
      chosen b.0.0 (items_at item close n b.0.1 >>= λ more. Some (a.0.0 ∷ more.0, more.1)) (Some (a.0.0 ∷ [], b.0.1)) z (Listed ts z) b.2
      (λ h k.
      let m = bind_some (items_at item close n b.0.1) (λ more. Some (a.0.0 ∷ more.0, more.1)) z k in
      let ih = items_taken n b.0.1 m.0 m.1 in
      let r : a.0.1 ≡ followed tokens close m.0.0 ++ m.0.1 =
      q ∙ ap (λ (c : Bool). head c ∷ b.0.1) h ∙ ap (λ (r : List Token). t.sign 44 ∷ r) ih.1 ∙ ap (λ (r : List Token). r ++ m.0.1) (sym (followed_some m.0.0 ih.0)) in
      subst (Listed ts) (some_is (a.0.0 ∷ m.0.0, m.0.1) z m.2) (omega arith, joined ts (tokens a.0.0) a.0.1 (followed tokens close m.0.0) m.0.1 p r))
      (λ h k.
      subst (Listed ts) (some_is (a.0.0 ∷ [], b.0.1) z k) (omega arith, joined ts (tokens a.0.0) a.0.1 (t.sign close ∷ []) b.0.1 p (q ∙ ap (λ (c : Bool). head c ∷ b.0.1) h)))

  list_taken : Reader (listed tokens close) (list_at item close)
  unfolding list_at some_at listed
  list_taken ts z e =
      chosen (begins (is_sign close) ts) (Some ([], drop 1 ts)) (items_at item close (length ts) ts) z (Takes (listed tokens close) ts z) e
      (λ h k. subst (Takes (listed tokens close) ts) (some_is ([], drop 1 ts) z k) (begun_sign close ts h))
      (λ h k. (items_taken (length ts) ts z k).1)

members_taken : Reader (listed number_tokens 125) members_at
unfolding members_at
members_taken = list_taken number_tokens number_at number_taken 125

behind_sign : (c : ℕ) (ts xs rest : List Token) → begins (is_sign c) ts ≡ true → drop 1 ts ≡ xs ++ rest → ts ≡ (t.sign c ∷ xs) ++ rest
behind_sign c ts xs rest h e = begun_sign c ts h ∙ ap (λ (r : List Token). t.sign c ∷ r) e

-- ---- elements and expressions

range_taken : (l : Literal) (r : List Token) (z : Element × List Token) → range_from l r ≡ Some z → literal_token l ∷ (t.dots ∷ r) ≡ element_tokens z.0 ++ z.1
unfolding range_from element_tokens
range_taken l r z e =
    let a = bind_some (number_in l) (λ lo. number_at r >>= λ hi. Some (S.range lo hi.0, hi.1)) z e in
    let b = bind_some (number_at r) (λ hi. Some (S.range a.0 hi.0, hi.1)) z a.2 in
    subst (λ (y : Element × List Token). literal_token l ∷ (t.dots ∷ r) ≡ element_tokens y.0 ++ y.1) (some_is (S.range a.0 b.0.0, b.0.1) z b.2)
    (ap (λ (u : Token). u ∷ (t.dots ∷ r)) (number_in_is l a.0 a.1) ∙ ap (λ (xs : List Token). t.number a.0 ∷ (t.dots ∷ xs)) (number_taken r b.0 b.1))

element_taken : Reader element_tokens element_at
unfolding element_at element_tokens members_tokens
element_taken ts z e =
    let P = Takes element_tokens ts in
    chosen (begins (is_sign 123) ts) (members_at (drop 1 ts) >>= λ x. Some (S.members x.0, x.1)) (literal_at ts >>= λ l. range_from l.0 (drop 1 l.1) if begins is_dots l.1 else Some (S.literal l.0, l.1)) z (P z) e
    (λ h k.
    let m = bind_some (members_at (drop 1 ts)) (λ x. Some (S.members x.0, x.1)) z k in
    subst P (some_is (S.members m.0.0, m.0.1) z m.2) (behind_sign 123 ts (listed number_tokens 125 m.0.0) m.0.1 h (members_taken (drop 1 ts) m.0 m.1)))
    (λ h k.
    let l = bind_some (literal_at ts) (λ l. range_from l.0 (drop 1 l.1) if begins is_dots l.1 else Some (S.literal l.0, l.1)) z k in
    let p = literal_taken ts l.0 l.1 in
    chosen (begins is_dots l.0.1) (range_from l.0.0 (drop 1 l.0.1)) (Some (S.literal l.0.0, l.0.1)) z (P z) l.2
    (λ d r. p ∙ ap (λ (xs : List Token). literal_token l.0.0 ∷ xs) (begun_dots l.0.1 d) ∙ range_taken l.0.0 (drop 1 l.0.1) z r)
    (λ d r. subst P (some_is (S.literal l.0.0, l.0.1) z r) p))

elements_taken : Reader (listed element_tokens 93) elements_at
unfolding elements_at
elements_taken = list_taken element_tokens element_at element_taken 93

expression_taken : Reader expression_tokens expression_at
unfolding expression_at expression_tokens
expression_taken ts z e =
    let P = Takes expression_tokens ts in
    chosen (begins (is_sign 91) ts) (elements_at (drop 1 ts) >>= λ x. Some (S.many x.0, x.1)) (element_at ts >>= λ x. Some (S.one x.0, x.1)) z (P z) e
    (λ h k.
    let m = bind_some (elements_at (drop 1 ts)) (λ x. Some (S.many x.0, x.1)) z k in
    subst P (some_is (S.many m.0.0, m.0.1) z m.2) (behind_sign 91 ts (listed element_tokens 93 m.0.0) m.0.1 h (elements_taken (drop 1 ts) m.0 m.1)))
    (λ h k.
    let m = bind_some (element_at ts) (λ x. Some (S.one x.0, x.1)) z k in
    subst P (some_is (S.one m.0.0, m.0.1) z m.2) (element_taken ts m.0 m.1))

arguments_taken : Reader (listed expression_tokens 41) arguments_at
unfolding arguments_at
arguments_taken = list_taken expression_tokens expression_at expression_taken 41

abbrev themselves : List Token → List Token
themselves ts = ts

notes_taken : Reader themselves notes_at
unfolding notes_at
notes_taken ts z e =
    let a = bind_some (notes_length Between ts) (λ n. Some (take n ts, drop n ts)) z e in
    subst (Takes themselves ts) (some_is (take a.0 ts, drop a.0 ts) z a.2) (sym (take-append-drop a.0 ts))

-- ---- statements

ended_taken : (xs rest : List Token) (u : Unit {0}) → ended rest ≡ Some u → xs ++ rest ≡ xs
ended_taken xs rest u e = ap (λ (r : List Token). xs ++ r) (end_is rest u e) ∙ append-nil xs

bounds_taken : Reader range_tokens bounds_at
unfolding bounds_at range_tokens
bounds_taken ts z e =
    let lo = bind_some (number_at ts) (λ lo. (number_at (drop 1 lo.1) >>= λ hi. Some (S.between lo.0 hi.0, hi.1)) if begins is_dots lo.1 else None) z e in
    let P = Takes range_tokens ts in
    chosen (begins is_dots lo.0.1) (number_at (drop 1 lo.0.1) >>= λ hi. Some (S.between lo.0.0 hi.0, hi.1)) None z (P z) lo.2
    (λ d k.
    let hi = bind_some (number_at (drop 1 lo.0.1)) (λ hi. Some (S.between lo.0.0 hi.0, hi.1)) z k in
    subst P (some_is (S.between lo.0.0 hi.0.0, hi.0.1) z hi.2)
    (number_taken ts lo.0 lo.1 ∙ ap (λ (xs : List Token). t.number lo.0.0 ∷ xs) (begun_dots lo.0.1 d) ∙ ap (λ (xs : List Token). t.number lo.0.0 ∷ (t.dots ∷ xs)) (number_taken (drop 1 lo.0.1) hi.0 hi.1)))
    (λ d k. absurd cc)

domain_taken : Reader range_tokens domain_at
unfolding domain_at range_tokens members_tokens
domain_taken ts z e =
    let P = Takes range_tokens ts in
    chosen (begins (is_word (bytes "bool")) ts) (Some (S.bools, drop 1 ts)) ((members_at (drop 1 ts) >>= λ x. Some (S.among x.0, x.1)) if begins (is_sign 123) ts else bounds_at ts) z (P z) e
    (λ h k. subst P (some_is (S.bools, drop 1 ts) z k) (begun_word (bytes "bool") ts h))
    (λ n f. chosen (begins (is_sign 123) ts) (members_at (drop 1 ts) >>= λ x. Some (S.among x.0, x.1)) (bounds_at ts) z (P z) f
    (λ h k.
    let m = bind_some (members_at (drop 1 ts)) (λ x. Some (S.among x.0, x.1)) z k in
    subst P (some_is (S.among m.0.0, m.0.1) z m.2) (behind_sign 123 ts (listed number_tokens 125 m.0.0) m.0.1 h (members_taken (drop 1 ts) m.0 m.1)))
    (λ h k. bounds_taken ts z k))

-- a literal up to the end
last_literal : (ts : List Token) (z : Literal × List Token) (u : Unit {0}) → literal_at ts ≡ Some z → ended z.1 ≡ Some u → ts ≡ literal_token z.0 ∷ []
last_literal ts z u e f = literal_taken ts z e ∙ ap (λ (r : List Token). literal_token z.0 ∷ r) (end_is z.1 u f)

given_taken : (ts : List Token) (o : Option Literal) → given_read ts ≡ Some o → ts ≡ given_tokens o
unfolding given_read given_tokens
given_taken ts o e =
    let P : Option Literal → Type 0 = λ o. ts ≡ given_tokens o in
    chosen (begins (is_sign 61) ts) (literal_at (drop 1 ts) >>= λ l. ended l.1 >>= λ u. Some (Some l.0)) (ended ts >>= λ u. Some None) o (P o) e
    (λ h k.
    let l = bind_some (literal_at (drop 1 ts)) (λ l. ended l.1 >>= λ u. Some (Some l.0)) o k in
    let u = bind_some (ended l.0.1) (λ u. Some (Some l.0.0)) o l.2 in
    subst P (some_is (Some l.0.0) o u.2) (begun_sign 61 ts h ∙ ap (λ (r : List Token). t.sign 61 ∷ r) (last_literal (drop 1 ts) l.0 u.0 l.1 u.1)))
    (λ h k. let u = bind_some (ended ts) (λ u. Some None) o k in subst P (some_is None o u.2) (end_is ts u.0 u.1))

goal_taken : (ts : List Token) (g : Goal) → goal_read ts ≡ Some g → ts ≡ goal_tokens g
unfolding goal_read goal_tokens
goal_taken ts g e =
    let P : Goal → Type 0 = λ g. ts ≡ goal_tokens g in
    let low = literal_at (drop 1 ts) >>= λ l. ended l.1 >>= λ u. Some (S.minimize l.0) in
    let high = literal_at (drop 1 ts) >>= λ l. ended l.1 >>= λ u. Some (S.maximize l.0) in
    chosen (begins (is_word (bytes "satisfy")) ts) (ended (drop 1 ts) >>= λ u. Some S.satisfy) (low if begins (is_word (bytes "minimize")) ts else high if begins (is_word (bytes "maximize")) ts else None) g (P g) e
    (λ h k.
    let u = bind_some (ended (drop 1 ts)) (λ u. Some S.satisfy) g k in
    subst P (some_is S.satisfy g u.2) (begun_word (bytes "satisfy") ts h ∙ ap (λ (r : List Token). t.name (bytes "satisfy") ∷ r) (end_is (drop 1 ts) u.0 u.1)))
    (λ n f. chosen (begins (is_word (bytes "minimize")) ts) low (high if begins (is_word (bytes "maximize")) ts else None) g (P g) f
    (λ h k.
    let l = bind_some (literal_at (drop 1 ts)) (λ l. ended l.1 >>= λ u. Some (S.minimize l.0)) g k in
    let u = bind_some (ended l.0.1) (λ u. Some (S.minimize l.0.0)) g l.2 in
    subst P (some_is (S.minimize l.0.0) g u.2) (begun_word (bytes "minimize") ts h ∙ ap (λ (r : List Token). t.name (bytes "minimize") ∷ r) (last_literal (drop 1 ts) l.0 u.0 l.1 u.1)))
    (λ n f. chosen (begins (is_word (bytes "maximize")) ts) high None g (P g) f
    (λ h k.
    let l = bind_some (literal_at (drop 1 ts)) (λ l. ended l.1 >>= λ u. Some (S.maximize l.0)) g k in
    let u = bind_some (ended l.0.1) (λ u. Some (S.maximize l.0.0)) g l.2 in
    subst P (some_is (S.maximize l.0.0) g u.2) (begun_word (bytes "maximize") ts h ∙ ap (λ (r : List Token). t.name (bytes "maximize") ∷ r) (last_literal (drop 1 ts) l.0 u.0 l.1 u.1)))
    (λ h k. absurd cc)))

abbrev Whole : Token → List Token → Statement → Type 0
Whole first ts s = first ∷ ts ≡ tokens_of s

predicate_taken : (ts : List Token) (s : Statement) → predicate_read ts ≡ Some s → Whole (t.name (bytes "predicate")) ts s
unfolding predicate_read tokens_of
predicate_taken ts s e =
    let a = bind_some (notes_length BehindColons ts) (λ n. ended (drop n ts) >>= λ u. Some (S.predicate (take n ts))) s e in
    let u = bind_some (ended (drop a.0 ts)) (λ u. Some (S.predicate (take a.0 ts))) s a.2 in
    subst (Whole (t.name (bytes "predicate")) ts) (some_is (S.predicate (take a.0 ts)) s u.2)
    (ap (λ (r : List Token). t.name (bytes "predicate") ∷ r) (sym (take-append-drop a.0 ts) ∙ ended_taken (take a.0 ts) (drop a.0 ts) u.0 u.1))

variable_taken : (ts : List Token) (s : Statement) → variable_read ts ≡ Some s → Whole (t.name (bytes "var")) ts s
unfolding variable_read tokens_of
variable_taken ts s e =
    let d = bind_some (domain_at ts) (λ d. sign_at 58 d.1 >>= λ r. name_at r >>= λ n. notes_at n.1 >>= λ o. given_read o.1 >>= λ g. Some (S.variable d.0 n.0 o.0 g)) s e in
    let r = bind_some (sign_at 58 d.0.1) (λ r. name_at r >>= λ n. notes_at n.1 >>= λ o. given_read o.1 >>= λ g. Some (S.variable d.0.0 n.0 o.0 g)) s d.2 in
    let n = bind_some (name_at r.0) (λ n. notes_at n.1 >>= λ o. given_read o.1 >>= λ g. Some (S.variable d.0.0 n.0 o.0 g)) s r.2 in
    let o = bind_some (notes_at n.0.1) (λ o. given_read o.1 >>= λ g. Some (S.variable d.0.0 n.0.0 o.0 g)) s n.2 in
    let g = bind_some (given_read o.0.1) (λ g. Some (S.variable d.0.0 n.0.0 o.0.0 g)) s o.2 in
    let behind : n.0.1 ≡ o.0.0 ++ given_tokens g.0 = notes_taken n.0.1 o.0 o.1 ∙ ap (λ (x : List Token). o.0.0 ++ x) (given_taken o.0.1 g.0 g.1) in
    let named : d.0.1 ≡ t.sign 58 ∷ (t.name n.0.0 ∷ (o.0.0 ++ given_tokens g.0)) =
    sign_taken 58 d.0.1 r.0 r.1 ∙ ap (λ (x : List Token). t.sign 58 ∷ x) (name_taken r.0 n.0 n.1 ∙ ap (λ (x : List Token). t.name n.0.0 ∷ x) behind) in
    subst (Whole (t.name (bytes "var")) ts) (some_is (S.variable d.0.0 n.0.0 o.0.0 g.0) s g.2)
    (ap (λ (x : List Token). t.name (bytes "var") ∷ x) (domain_taken ts d.0 d.1 ∙ ap (λ (x : List Token). range_tokens d.0.0 ++ x) named))

constraint_taken : (ts : List Token) (s : Statement) → constraint_read ts ≡ Some s → Whole (t.name (bytes "constraint")) ts s
unfolding constraint_read tokens_of
constraint_taken ts s e =
    let n = bind_some (name_at ts) (λ n. sign_at 40 n.1 >>= λ r. arguments_at r >>= λ v. notes_at v.1 >>= λ o. ended o.1 >>= λ u. Some (S.constraint n.0 v.0 o.0)) s e in
    let r = bind_some (sign_at 40 n.0.1) (λ r. arguments_at r >>= λ v. notes_at v.1 >>= λ o. ended o.1 >>= λ u. Some (S.constraint n.0.0 v.0 o.0)) s n.2 in
    let v = bind_some (arguments_at r.0) (λ v. notes_at v.1 >>= λ o. ended o.1 >>= λ u. Some (S.constraint n.0.0 v.0 o.0)) s r.2 in
    let o = bind_some (notes_at v.0.1) (λ o. ended o.1 >>= λ u. Some (S.constraint n.0.0 v.0.0 o.0)) s v.2 in
    let u = bind_some (ended o.0.1) (λ u. Some (S.constraint n.0.0 v.0.0 o.0.0)) s o.2 in
    let behind : v.0.1 ≡ o.0.0 = notes_taken v.0.1 o.0 o.1 ∙ ended_taken o.0.0 o.0.1 u.0 u.1 in
    let given : r.0 ≡ listed expression_tokens 41 v.0.0 ++ o.0.0 = arguments_taken r.0 v.0 v.1 ∙ ap (λ (x : List Token). listed expression_tokens 41 v.0.0 ++ x) behind in
    subst (Whole (t.name (bytes "constraint")) ts) (some_is (S.constraint n.0.0 v.0.0 o.0.0) s u.2)
    (ap (λ (x : List Token). t.name (bytes "constraint") ∷ x) (name_taken ts n.0 n.1 ∙ ap (λ (x : List Token). t.name n.0.0 ∷ x) (sign_taken 40 n.0.1 r.0 r.1 ∙ ap (λ (x : List Token). t.sign 40 ∷ x) given)))

solve_taken : (ts : List Token) (s : Statement) → solve_read ts ≡ Some s → Whole (t.name (bytes "solve")) ts s
unfolding solve_read tokens_of
solve_taken ts s e =
    let o = bind_some (notes_at ts) (λ o. goal_read o.1 >>= λ g. Some (S.solve o.0 g)) s e in
    let g = bind_some (goal_read o.0.1) (λ g. Some (S.solve o.0.0 g)) s o.2 in
    subst (Whole (t.name (bytes "solve")) ts) (some_is (S.solve o.0.0 g.0) s g.2)
    (ap (λ (x : List Token). t.name (bytes "solve") ∷ x) (notes_taken ts o.0 o.1 ∙ ap (λ (x : List Token). o.0.0 ++ x) (goal_taken o.0.1 g.0 g.1)))

parameter_taken : (ts : List Token) (s : Statement) → parameter_read ts ≡ Some s → ts ≡ tokens_of s
unfolding parameter_read tokens_of
parameter_taken ts s e =
    let k = prefix_len in_kind ts in
    let kind = take k ts in
    let r = bind_some (sign_at 58 (drop k ts)) (λ r. name_at r >>= λ n. notes_at n.1 >>= λ o. sign_at 61 o.1 >>= λ e. expression_at e >>= λ v. ended v.1 >>= λ u. Some (S.parameter kind n.0 o.0 v.0)) s e in
    let n = bind_some (name_at r.0) (λ n. notes_at n.1 >>= λ o. sign_at 61 o.1 >>= λ e. expression_at e >>= λ v. ended v.1 >>= λ u. Some (S.parameter kind n.0 o.0 v.0)) s r.2 in
    let o = bind_some (notes_at n.0.1) (λ o. sign_at 61 o.1 >>= λ e. expression_at e >>= λ v. ended v.1 >>= λ u. Some (S.parameter kind n.0.0 o.0 v.0)) s n.2 in
    let q = bind_some (sign_at 61 o.0.1) (λ e. expression_at e >>= λ v. ended v.1 >>= λ u. Some (S.parameter kind n.0.0 o.0.0 v.0)) s o.2 in
    let v = bind_some (expression_at q.0) (λ v. ended v.1 >>= λ u. Some (S.parameter kind n.0.0 o.0.0 v.0)) s q.2 in
    let u = bind_some (ended v.0.1) (λ u. Some (S.parameter kind n.0.0 o.0.0 v.0.0)) s v.2 in
    let value : q.0 ≡ expression_tokens v.0.0 = expression_taken q.0 v.0 v.1 ∙ ended_taken (expression_tokens v.0.0) v.0.1 u.0 u.1 in
    let behind : n.0.1 ≡ o.0.0 ++ (t.sign 61 ∷ expression_tokens v.0.0) =
    notes_taken n.0.1 o.0 o.1 ∙ ap (λ (x : List Token). o.0.0 ++ x) (sign_taken 61 o.0.1 q.0 q.1 ∙ ap (λ (x : List Token). t.sign 61 ∷ x) value) in
    let named : drop k ts ≡ t.sign 58 ∷ (t.name n.0.0 ∷ (o.0.0 ++ (t.sign 61 ∷ expression_tokens v.0.0))) =
    sign_taken 58 (drop k ts) r.0 r.1 ∙ ap (λ (x : List Token). t.sign 58 ∷ x) (name_taken r.0 n.0 n.1 ∙ ap (λ (x : List Token). t.name n.0.0 ∷ x) behind) in
    subst (λ (s : Statement). ts ≡ tokens_of s) (some_is (S.parameter kind n.0.0 o.0.0 v.0.0) s u.2)
    (sym (take-append-drop k ts) ∙ ap (λ (x : List Token). kind ++ x) named)

-- what is read is spelled so
pub spelled_so : (ts : List Token) (s : Statement) → statement_read ts ≡ Some s → tokens_of s ≡ ts
unfolding statement_read
spelled_so ts s e =
    let read : (w : List ℕ) → begins (is_word w) ts ≡ true → t.name w ∷ drop 1 ts ≡ tokens_of s → tokens_of s ≡ ts = λ w h p. sym (begun_word w ts h ∙ p) in
    let solved = solve_read (drop 1 ts) if begins (is_word (bytes "solve")) ts else None in
    let told = predicate_read (drop 1 ts) if begins (is_word (bytes "predicate")) ts else solved in
    let given = parameter_read ts if begins begins_kind ts else told in
    chosen (begins (is_word (bytes "constraint")) ts) (constraint_read (drop 1 ts)) (variable_read (drop 1 ts) if begins (is_word (bytes "var")) ts else given) s (tokens_of s ≡ ts) e
    (λ h k. read (bytes "constraint") h (constraint_taken (drop 1 ts) s k))
    (λ n f. chosen (begins (is_word (bytes "var")) ts) (variable_read (drop 1 ts)) given s (tokens_of s ≡ ts) f
    (λ h k. read (bytes "var") h (variable_taken (drop 1 ts) s k))
    (λ n f. chosen (begins begins_kind ts) (parameter_read ts) told s (tokens_of s ≡ ts) f
    (λ h k. sym (parameter_taken ts s k))
    (λ n f. chosen (begins (is_word (bytes "predicate")) ts) (predicate_read (drop 1 ts)) solved s (tokens_of s ≡ ts) f
    (λ h k. read (bytes "predicate") h (predicate_taken (drop 1 ts) s k))
    (λ n f. chosen (begins (is_word (bytes "solve")) ts) (solve_read (drop 1 ts)) None s (tokens_of s ≡ ts) f
    (λ h k. read (bytes "solve") h (solve_taken (drop 1 ts) s k))
    (λ h k. absurd cc)))))

pub is_spelled : (r : Result Statement' Trouble) (ts : List Token) → Gives statement_of r (statement_read ts) → IfOk r (λ s. tokens_of (statement_of s) ≡ ts)
is_spelled (Ok s) ts h = spelled_so ts (statement_of s) h
is_spelled (Err e) ts h = tt
