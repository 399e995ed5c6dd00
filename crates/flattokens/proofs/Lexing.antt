-- What is read lexes so.
use Rattle.std.proofs.Common.{◌≡◌, refl, sym, ap, ◌∙◌, subst, Bool, true, false, ◌&&◌, List, [], ◌∷◌, ◌++◌, ℕ, zero, suc, ◌+◌, ◌-◌, ◌<◌, eqb, arith, length, take, drop, Option, Some, None}
use Rattle.std.specs.Prelude.{option_map, map, Result, Ok, Err, IfOk, IfSome}
use Rattle.std.specs.Borrow.{Bor}
use Rattle.std.specs.Global.{Vec}
use Rattle.std.proofs.lemmas.Bool.{eqb-true}
use Rattle.std.proofs.lemmas.List.{take-append-drop}
use Rattle.integers.specs.Choice.{◌if◌else◌}
use Rattle.integers.specs.Lists.{all}
use Rattle.tokens.specs.Byte.{front, run, in_comment, in_name, is_digit}
use Rattle.flattokens.specs.Byte.{is_gap, is_sign, begins_name, begins_number}
use Rattle.flatzinc.specs.declared.trouble.Trouble.{Trouble}
use Rattle.flatzinc.specs.Answer.{Gives}
use Rattle.flattokens.specs.declared.Token.{Token as Token'}
use Rattle.flattokens.specs.Token.{Token, token}
use Rattle.flattokens.specs.Token as t
use Rattle.flattokens.specs.Reading.{decimals, text_length, number_value, name_at, number_at, text_at, sign_at, token_at, gap_length, before, then_more, statement_from, next_statement}
use Rattle.flattokens.specs.Lexes.{Spells, Lexes}
use Rattle.flattokens.specs.Lexes as L

map_some : {A B : Type 0} (f : A → B) (r : Option A) (y : B) → option_map f r ≡ Some y → (x : A) × (r ≡ Some x) × (f x ≡ y)
map_some f (Some x) y e = (x, refl, cc)
map_some f None y e = absurd cc

some_is : {A : Type 0} (x y : A) → ◌≡◌ {A = Option A} (Some x) (Some y) → x ≡ y
some_is x y e = cc

chosen : {A : Type 0} (b : Bool) (x y : Option A) (z : A) (P : Type 0) → (x if b else y) ≡ Some z → (b ≡ true → x ≡ Some z → P) → (b ≡ false → y ≡ Some z → P) → P
chosen true x y z P e f g = f refl e
chosen false x y z P e f g = g refl e

both : (b c : Bool) → (b && c) ≡ true → (b ≡ true) × (c ≡ true)
both true c e = (refl, e)
both false c e = absurd cc

-- ---- a run

step_true : (p : ℕ → Bool) (x : ℕ) (xs : List ℕ) → p x ≡ true → run p (x ∷ xs) ≡ suc (run p xs)
step_true p x xs e = rw e (omega arith)

step_false : (p : ℕ → Bool) (x : ℕ) (xs : List ℕ) → p x ≡ false → run p (x ∷ xs) ≡ 0
step_false p x xs e = rw e refl

run_all : (p : ℕ → Bool) (xs : List ℕ) → all p (take (run p xs) xs) ≡ true
unfolding all
run_all p [] = refl
run_all p (x ∷ xs) = go (p x) refl (run_all p xs)
  where
    go : (b : Bool) → p x ≡ b → all p (take (run p xs) xs) ≡ true → all p (take (run p (x ∷ xs)) (x ∷ xs)) ≡ true
    go true e h = let P : ℕ → Type 0 = λ n. all p (take n (x ∷ xs)) ≡ true in subst P (sym (step_true p x xs e)) (rw e h)
    go false e h = let P : ℕ → Type 0 = λ n. all p (take n (x ∷ xs)) ≡ true in subst P (sym (step_false p x xs e)) refl

run_over : (p : ℕ → Bool) (xs : List ℕ) → run p (drop (run p xs) xs) ≡ 0
run_over p [] = refl
run_over p (x ∷ xs) = go (p x) refl (run_over p xs)
  where
    go : (b : Bool) → p x ≡ b → run p (drop (run p xs) xs) ≡ 0 → run p (drop (run p (x ∷ xs)) (x ∷ xs)) ≡ 0
    go true e h = let P : ℕ → Type 0 = λ n. run p (drop n (x ∷ xs)) ≡ 0 in subst P (sym (step_true p x xs e)) h
    go false e h = let P : ℕ → Type 0 = λ n. run p (drop n (x ∷ xs)) ≡ 0 in subst P (sym (step_false p x xs e)) (step_false p x xs e)

-- ---- tokens

-- the token has the bytes in front
abbrev Front : List ℕ → Token × ℕ → Type 0
Front bs x = Spells x.0 (take x.1 bs) × (0 < x.1)

twice : (c : ℕ) (bs : List ℕ) → 0 < c → (eqb (front bs) c && eqb (front (drop 1 bs)) c) ≡ true → take 2 bs ≡ c ∷ (c ∷ [])
unfolding front
twice c [] l e = let h = eqb-true 0 c (both (eqb 0 c) (eqb 0 c) e).0 in absurd (omega arith)
twice c (a ∷ []) l e = let h = eqb-true 0 c (both (eqb a c) (eqb 0 c) e).1 in absurd (omega arith)
twice c (a ∷ b ∷ bs) l e =
    let h = both (eqb a c) (eqb b c) e in
    ap (λ (x : ℕ). x ∷ (b ∷ [])) (eqb-true a c h.0) ∙ ap (λ (x : ℕ). c ∷ (x ∷ [])) (eqb-true b c h.1)

once : (bs : List ℕ) → 0 < length bs → take 1 bs ≡ front bs ∷ []
unfolding front
once [] l = absurd (omega arith)
once (b ∷ bs) l = refl

sign_spelled : (bs : List ℕ) (x : Token × ℕ) → 0 < length bs → sign_at bs ≡ Some x → Front bs x
unfolding sign_at
sign_spelled bs x l e =
    let P = Front bs in
    let S : Token → List ℕ → Type 0 = λ u y. Spells u y in
    chosen (eqb (front bs) 46 && eqb (front (drop 1 bs)) 46) (Some (t.dots, 2)) (Some (t.colons, 2) if eqb (front bs) 58 && eqb (front (drop 1 bs)) 58 else Some (t.sign (front bs), 1) if is_sign (front bs) else None) x (P x) e
    (λ h k. subst P (some_is (t.dots, 2) x k) (subst (S t.dots) (sym (twice 46 bs (omega arith) h)) L.dots, omega arith))
    (λ n f. chosen (eqb (front bs) 58 && eqb (front (drop 1 bs)) 58) (Some (t.colons, 2)) (Some (t.sign (front bs), 1) if is_sign (front bs) else None) x (P x) f
    (λ h k. subst P (some_is (t.colons, 2) x k) (subst (S t.colons) (sym (twice 58 bs (omega arith) h)) L.colons, omega arith))
    (λ n f. chosen (is_sign (front bs)) (Some (t.sign (front bs), 1)) None x (P x) f
    (λ h k. subst P (some_is (t.sign (front bs), 1) x k) (subst (S (t.sign (front bs))) (sym (once bs l)) (L.sign (front bs)), omega arith))
    (λ h k. absurd cc)))

text_spelled : (bs : List ℕ) (x : Token × ℕ) → text_at bs ≡ Some x → Front bs x
unfolding text_at
text_spelled bs x e =
    let m = map_some (λ n. (t.text (take (1 + n) bs), 1 + n)) (text_length false (drop 1 bs)) x e in
    subst (Front bs) m.2 (L.text (take (1 + m.0) bs), omega arith)

name_spelled : (bs : List ℕ) (x : Token × ℕ) → name_at bs ≡ Some x → Front bs x
unfolding name_at
name_spelled bs x e =
    let n = 1 + run in_name (drop 1 bs) in
    subst (Front bs) (some_is (t.name (take n bs), n) x e) (L.name (take n bs), omega arith)

number_spelled : (bs : List ℕ) (x : Token × ℕ) → number_at bs ≡ Some x → Front bs x
unfolding number_at
number_spelled bs x e =
    let n = 1 + run is_digit (drop 1 bs) in
    let more = decimals (drop n bs) in
    chosen (eqb more 0) (option_map (λ z. (t.number z, n)) (number_value (take n bs))) (Some (t.float (take (n + more) bs), n + more)) x (Front bs x) e
    (λ h k. let m = map_some (λ z. (t.number z, n)) (number_value (take n bs)) x k in subst (Front bs) m.2 (L.number m.0 (take n bs) m.1, omega arith))
    (λ h k. subst (Front bs) (some_is (t.float (take (n + more) bs), n + more) x k) (L.float (take (n + more) bs), omega arith))

token_spelled : (bs : List ℕ) (x : Token × ℕ) → 0 < length bs → token_at bs ≡ Some x → Front bs x
unfolding token_at
token_spelled bs x l e =
    chosen (begins_name (front bs)) (name_at bs) (number_at bs if begins_number (front bs) (drop 1 bs) else text_at bs if eqb (front bs) 34 else sign_at bs) x (Front bs x) e
    (λ h k. name_spelled bs x k)
    (λ h f. chosen (begins_number (front bs) (drop 1 bs)) (number_at bs) (text_at bs if eqb (front bs) 34 else sign_at bs) x (Front bs x) f
    (λ h k. number_spelled bs x k)
    (λ h f. chosen (eqb (front bs) 34) (text_at bs) (sign_at bs) x (Front bs x) f (λ h k. text_spelled bs x k) (λ h k. sign_spelled bs x l k)))

-- ---- statements

behind : (n : ℕ) (b : ℕ) (bs : List ℕ) → 0 < n → take n (b ∷ bs) ++ drop (n - 1) bs ≡ b ∷ bs
behind zero b bs l = absurd (omega arith)
behind (suc n) b bs l = let k : suc n - 1 ≡ n = omega arith in rw k (ap (λ (x : List ℕ). b ∷ x) (take-append-drop n bs))

before_is : (u : Token) (r : Option (Option (List Token × List ℕ))) (ts : List Token) (rest : List ℕ) → before u r ≡ Some (Some (ts, rest))
    → (us : List Token) × (r ≡ Some (Some (us, rest))) × (u ∷ us ≡ ts)
before_is u (Some (Some x)) ts rest e = let h : (u ∷ x.0, x.1) ≡ (ts, rest) = cc in (x.0, ap (λ (y : List Token × List ℕ). Some (Some (x.0, y.1))) h, ap (λ (y : List Token × List ℕ). y.0) h)
before_is u (Some None) ts rest e = absurd cc
before_is u None ts rest e = absurd cc

more_is : (f : ℕ → Option (Option (List Token × List ℕ))) (r : Option (Token × ℕ)) (z : Option (List Token × List ℕ)) → then_more f r ≡ Some z → (x : Token × ℕ) × (r ≡ Some x) × (before x.0 (f x.1) ≡ Some z)
more_is f (Some x) z e = (x, refl, e)
more_is f None z e = absurd cc

gap_lexes : (b : ℕ) (bs rest : List ℕ) (ts : List Token) → is_gap b ≡ true → Lexes (drop (gap_length (b ∷ bs) - 1) bs) ts rest → Lexes (b ∷ bs) ts rest
unfolding gap_length front
gap_lexes b bs rest ts g = go (eqb b 37) refl
  where
    go : (c : Bool) → eqb b 37 ≡ c → Lexes (drop ((1 + run in_comment bs if c else 1) - 1) bs) ts rest → Lexes (b ∷ bs) ts rest
    go true e l =
        let r = run in_comment bs in
        let k : 1 + r - 1 ≡ r = omega arith in
        let h : Lexes (drop r bs) ts rest = subst (λ (n : ℕ). Lexes (drop n bs) ts rest) k l in
        let made = L.comment (take r bs) (drop r bs) rest ts (run_all in_comment bs) (run_over in_comment bs) h in
        let P : List ℕ → Type 0 = λ xs. Lexes xs ts rest in
        subst P (ap (λ (xs : List ℕ). 37 ∷ xs) (take-append-drop r bs) ∙ ap (λ (n : ℕ). n ∷ bs) (sym (eqb-true b 37 e))) made
    go false e l = L.blank b bs rest ts g e l

lexes : (bs : List ℕ) (n : ℕ) (ts : List Token) (rest : List ℕ) → statement_from n bs ≡ Some (Some (ts, rest)) → Lexes (drop n bs) ts rest
unfolding statement_from
lexes [] n ts rest e = absurd cc
lexes (b ∷ bs) (suc n) ts rest e = lexes bs n ts rest e
lexes (b ∷ bs) zero ts rest e =
    let goal : Type 0 = Lexes (b ∷ bs) ts rest in
    let on : ℕ → Option (Option (List Token × List ℕ)) = λ n. statement_from (n - 1) bs in
    chosen (is_gap b) (statement_from (gap_length (b ∷ bs) - 1) bs) (Some (Some ([], bs)) if eqb b 59 else then_more on (token_at (b ∷ bs))) (Some (ts, rest)) goal e
    (λ h k. gap_lexes b bs rest ts h (lexes bs (gap_length (b ∷ bs) - 1) ts rest k))
    (λ h f. chosen (eqb b 59) (Some (Some ([], bs))) (then_more on (token_at (b ∷ bs))) (Some (ts, rest)) goal f
    (λ h k.
    let same : ([], bs) ≡ (ts, rest) = cc in
    let P : List Token × List ℕ → Type 0 = λ y. Lexes (b ∷ bs) y.0 y.1 in
    let Q : ℕ → Type 0 = λ c. Lexes (c ∷ bs) [] bs in
    subst P same (subst Q (sym (eqb-true b 59 h)) (L.semicolon bs)))
    (λ h k.
    let m = more_is on (token_at (b ∷ bs)) (Some (ts, rest)) k in
    let us = before_is m.0.0 (on m.0.1) ts rest m.2 in
    let s = token_spelled (b ∷ bs) m.0 (omega arith) m.1 in
    let made = L.token m.0.0 (take m.0.1 (b ∷ bs)) (drop (m.0.1 - 1) bs) rest us.0 s.0 (lexes bs (m.0.1 - 1) us.0 rest us.1) in
    let P : List ℕ → Type 0 = λ xs. Lexes xs ts rest in
    let Q : List Token → Type 0 = λ vs. Lexes (take m.0.1 (b ∷ bs) ++ drop (m.0.1 - 1) bs) vs rest in
    subst P (behind m.0.1 b bs s.1) (subst Q us.2 made)))

-- what the code answers
pub is_lexed : (r : Result (Option (Vec Token' × Bor (List ℕ))) Trouble) (bs : List ℕ) → Gives (option_map (λ x. (map token x.0.items, x.1.now))) r (next_statement bs)
    → IfOk r (λ o. IfSome o (λ x. Lexes bs (map token x.0.items) x.1.now))
unfolding next_statement
is_lexed (Ok None) bs h = tt
is_lexed (Ok (Some x)) bs h = lexes bs 0 (map token x.0.items) x.1.now h
is_lexed (Err e) bs h = tt
