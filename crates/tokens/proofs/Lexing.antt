-- THE LAW of `Lexes`: every text has its tokens, and they are those that `tokens` counts off.
use Rattle.std.proofs.Common.{◌≡◌, refl, sym, ap, subst, ◌∙◌, ◌⊎◌, inl, inr, ◌↔◌, Bool, true, false, not, ◌&&◌, ◌||◌, List, [], ◌∷◌, ◌++◌, append-nil, ℕ, zero, suc, ◌+◌, ◌-◌, ◌<◌, ◌≤◌, arith, eqb, leb, length, length-append, drop_at, take_at, eqb-true, leb-true, le-leb}
use Rattle.integers.specs.Choice.{◌if◌else◌}
use Rattle.integers.specs.Lists.{all, any, list_of}
use Rattle.integers.proofs.Tests.{false-true}
use Rattle.integers.proofs.Booleans.{both_true}
use Rattle.tokens.specs.Byte.{bytes, between, front, run, is_letter, in_name, is_digit, in_comment, is_gap, is_sign}
use Rattle.tokens.specs.Token.{Token, token_length, starts_number, starts_dots, sort_of, tokens_from, tokens}
use Rattle.tokens.specs.Lexes as Lexes
use Rattle.tokens.specs.Lexes.{Spells, Longest, Lexes}
use Rattle.tokens.proofs.Places.{later, sign_length, comment_length}
use Rattle.tokens.proofs.Spellings.{one-no-none, letter-no-gap, digit-no-gap, digit-no-letter, alone, Stops, run-over, all-then, split, some-name, longest-stops, stops-longest, after-letter, after-digit, after-hyphen, dots-longest, alone-longest}

-- ---- what `tokens_from` does at a gap, at a token

passed-over : (x rest : List ℕ) (p : ℕ) → tokens_from (length x) p (x ++ rest) ≡ tokens_from 0 (p + length x) rest
passed-over x rest p = later (length x) p (x ++ rest) ∙ ap (tokens_from 0 (p + length x)) (drop_at x rest (length x) refl)

at-gap : (b p n : ℕ) (bs : List ℕ) → is_gap b ≡ true → token_length b bs ≡ suc n → tokens_from 0 p (b ∷ bs) ≡ tokens_from n (p + 1) bs
unfolding tokens_from
at-gap b p n bs g e = let k : suc n - 1 ≡ n = omega arith in rw (g, e, k) refl

-- what stands at the front of a text is a token of a sort
abbrev Front : ℕ → List ℕ → List ℕ → Type 0
Front s [] rest = ⊥
Front s (b ∷ x) rest = (is_gap b ≡ false) × (token_length b (x ++ rest) ≡ suc (length x)) × (sort_of b (x ++ rest) ≡ s)

at-token : (s : ℕ) (x rest : List ℕ) (p : ℕ) → Front s x rest → tokens_from 0 p (x ++ rest) ≡ record { sort = s; place = p; spelling = x } ∷ tokens_from 0 (p + length x) rest
unfolding tokens_from
at-token s [] rest p f = absurd f
at-token s (b ∷ x) rest p f =
    let k : suc (length x) - 1 ≡ length x = omega arith in
    let q : p + 1 + length x ≡ p + suc (length x) = omega arith in
    rw (f.0, f.1, f.2, k, take_at x rest (length x) refl, passed-over x rest (p + 1), q) refl

letter-length : (b : ℕ) (bs : List ℕ) → is_letter b ≡ true → token_length b bs ≡ 1 + run in_name bs
unfolding token_length
letter-length b bs l = rw l refl

number-length : (b : ℕ) (bs : List ℕ) → is_letter b ≡ false → starts_number b bs ≡ true → token_length b bs ≡ 1 + run is_digit bs
unfolding token_length
number-length b bs l n = rw (l, n) refl

letter-sort : (b : ℕ) (bs : List ℕ) → is_letter b ≡ true → sort_of b bs ≡ (2 if leb (token_length b bs) 32 else 0)
unfolding sort_of
letter-sort b bs l = rw l refl

number-sort : (b : ℕ) (bs : List ℕ) → is_letter b ≡ false → starts_number b bs ≡ true → sort_of b bs ≡ 1
unfolding sort_of
number-sort b bs l n = rw (l, n) refl

alone-sort : (b : ℕ) (bs : List ℕ) → is_letter b ≡ false → starts_number b bs ≡ false → starts_dots b bs ≡ false → sort_of b bs ≡ (b if is_sign b else 0)
unfolding sort_of
alone-sort b bs l n d = rw (l, n, d) refl

no-hyphen : (b : ℕ) (bs : List ℕ) → is_digit b ≡ false → eqb b 45 ≡ false → starts_number b bs ≡ false
unfolding starts_number
no-hyphen b bs d h = rw (d, h) refl

no-dot : (b : ℕ) (bs : List ℕ) → eqb b 46 ≡ false → starts_dots b bs ≡ false
unfolding starts_dots
no-dot b bs h = rw h refl

lone-hyphen : (b : ℕ) (rest : List ℕ) → is_digit b ≡ false → Longest (b ∷ []) rest → starts_number b rest ≡ false
unfolding starts_number front is_digit between all
lone-hyphen b [] d h = rw d (lone (eqb b 45))
  where
    lone : (e : Bool) → (e && false) ≡ false
    lone true = refl
    lone false = refl
lone-hyphen b (c ∷ cs) d h = rw d (go (eqb b 45) refl (is_digit c) refl)
  where
    go : (e : Bool) → eqb b 45 ≡ e → (f : Bool) → is_digit c ≡ f → (e && f) ≡ false
    go true q true r = absurd (one-no-none c (h (c ∷ []) cs 1 refl (rw (eqb-true b 45 q) (Lexes.negative {b = c} {bs = []} (rw r refl)))))
    go true q false r = refl
    go false q f r = refl

lone-dot : (b : ℕ) (rest : List ℕ) → Longest (b ∷ []) rest → starts_dots b rest ≡ false
unfolding starts_dots front
lone-dot b [] h = lone (eqb b 46)
  where
    lone : (e : Bool) → (e && false) ≡ false
    lone true = refl
    lone false = refl
lone-dot b (c ∷ cs) h = go (eqb b 46) refl (eqb c 46) refl
  where
    go : (e : Bool) → eqb b 46 ≡ e → (f : Bool) → eqb c 46 ≡ f → (e && f) ≡ false
    go true q true r = absurd (one-no-none c (h (c ∷ []) cs 46 refl (rw (eqb-true b 46 q, eqb-true c 46 r) Lexes.dots)))
    go true q false r = refl
    go false q f r = refl

letter-front : (b : ℕ) (x rest : List ℕ) (s : ℕ) → is_letter b ≡ true → all in_name x ≡ true → Longest (b ∷ x) rest → (2 if leb (suc (length x)) 32 else 0) ≡ s → Front s (b ∷ x) rest
letter-front b x rest s l h w q =
    let stops = longest-stops in_name (b ∷ x) rest w (λ c e. some-name b (x ++ (c ∷ [])) l (all-then in_name x c h e)) in
    let n : token_length b (x ++ rest) ≡ suc (length x) = letter-length b (x ++ rest) l ∙ (let r = run-over in_name x rest h stops in omega (arith, r)) in
    (letter-no-gap b l, n, letter-sort b (x ++ rest) l ∙ (rw n q))

digits-stop : (b : ℕ) (x rest : List ℕ) → all is_digit (b ∷ x) ≡ true → Longest (b ∷ x) rest → Stops is_digit rest
digits-stop b x rest h w = longest-stops is_digit (b ∷ x) rest w (λ c e. (1, Lexes.number (all-then is_digit (b ∷ x) c h e)))

hyphen-stops : (b : ℕ) (x rest : List ℕ) → all is_digit (b ∷ x) ≡ true → Longest (45 ∷ (b ∷ x)) rest → Stops is_digit rest
hyphen-stops b x rest h w = longest-stops is_digit (45 ∷ (b ∷ x)) rest w (λ c e. (1, Lexes.negative (all-then is_digit (b ∷ x) c h e)))

number-front : (b : ℕ) (x rest : List ℕ) → is_gap b ≡ false → is_letter b ≡ false → starts_number b (x ++ rest) ≡ true → all is_digit x ≡ true → Stops is_digit rest → Front 1 (b ∷ x) rest
number-front b x rest g l n h stops =
    (g, number-length b (x ++ rest) l n ∙ (let r = run-over is_digit x rest h stops in omega (arith, r)), number-sort b (x ++ rest) l n)

alone-front : (b : ℕ) (rest : List ℕ) (s : ℕ) → is_gap b ≡ false → is_letter b ≡ false → starts_number b rest ≡ false → starts_dots b rest ≡ false → (b if is_sign b else 0) ≡ s → Front s (b ∷ []) rest
alone-front b rest s g l n d q = (g, sign_length b rest g l n d, alone-sort b rest l n d ∙ q)

digit-starts : (b : ℕ) (bs : List ℕ) → is_digit b ≡ true → starts_number b bs ≡ true
unfolding starts_number
digit-starts b bs e = rw e refl

hyphen-starts : (b : ℕ) (bs : List ℕ) → is_digit b ≡ true → starts_number 45 (b ∷ bs) ≡ true
unfolding starts_number front is_digit between
hyphen-starts b bs e = e

hyphen-apart : (is_gap 45 ≡ false) × (is_letter 45 ≡ false)
unfolding is_gap any bytes list_of is_letter between
hyphen-apart = (refl, refl)

dots-front : (rest : List ℕ) → Front 46 (46 ∷ (46 ∷ [])) rest
unfolding token_length sort_of is_gap any bytes list_of is_letter is_digit between starts_number starts_dots front
dots-front rest = (refl, refl, refl)

-- a longest spelling is the token there
pub front-is : {s : ℕ} {x : List ℕ} → Spells s x → (rest : List ℕ) → Longest x rest → Front s x rest
unfolding all
front-is (Lexes.name {b = b} {bs = x} l h m) rest w = letter-front b x rest 2 l h w (rw (le-leb _ 32 m) refl)
front-is (Lexes.long-name {b = b} {bs = x} l h m) rest w = letter-front b x rest 0 l h w (rw (lt-leb (length (b ∷ x)) m) refl)
  where
    lt-leb : (n : ℕ) → 32 < n → leb n 32 ≡ false
    lt-leb n m = go (leb n 32) refl
      where
        go : (d : Bool) → leb n 32 ≡ d → d ≡ false
        go true q = absurd (omega (arith, leb-true n 32 q))
        go false q = refl
front-is (Lexes.number {b = b} {bs = x} h) rest w =
    let d = both_true (is_digit b) _ h in
    number-front b x rest (digit-no-gap b d.0) (digit-no-letter b d.0) (digit-starts b (x ++ rest) d.0) d.1 (digits-stop b x rest h w)
front-is (Lexes.negative {b = b} {bs = x} h) rest w =
    number-front 45 (b ∷ x) rest hyphen-apart.0 hyphen-apart.1 (hyphen-starts b (x ++ rest) (both_true (is_digit b) _ h).0) h (hyphen-stops b x rest h w)
front-is Lexes.dots rest w = dots-front rest
front-is (Lexes.sign {b = b} g) rest w =
    let a = alone b g in
    alone-front b rest b a.no-gap a.no-letter (no-hyphen b rest a.no-digit a.no-hyphen) (no-dot b rest a.no-dot) (rw g refl)
front-is (Lexes.other {b = b} g l d n) rest w = alone-front b rest 0 g l (lone-hyphen b rest d w) (lone-dot b rest w) (rw n refl)

-- ---- every text has its tokens

-- the first token of a text that begins with no gap
record First (bs : List ℕ) : Type 0 where
  pub s : ℕ
  pub x : List ℕ
  pub rest : List ℕ
  pub is : bs ≡ x ++ rest
  pub some : 1 ≤ length x
  pub spells : Spells s x
  pub longest : Longest x rest

letter-first : (b : ℕ) (bs : List ℕ) → is_letter b ≡ true → First (b ∷ bs)
letter-first b bs l =
    let p = split in_name bs in
    let n = some-name b p.x l p.passes in
    record { s = n.0; x = b ∷ p.x; rest = p.rest; is = ap (λ (xs : List ℕ). b ∷ xs) p.is; some = omega arith; spells = n.1; longest = stops-longest is_letter in_name b p.x p.rest l (λ s w. after-letter) p.stops }

digit-first : (b : ℕ) (bs : List ℕ) → is_digit b ≡ true → First (b ∷ bs)
unfolding all
digit-first b bs d =
    let p = split is_digit bs in
    record { s = 1; x = b ∷ p.x; rest = p.rest; is = ap (λ (xs : List ℕ). b ∷ xs) p.is; some = omega arith; spells = Lexes.number (rw (d, p.passes) refl); longest = stops-longest is_digit is_digit b p.x p.rest d (λ s w. after-digit) p.stops }

hyphen-first : (b : ℕ) (bs : List ℕ) → is_digit b ≡ true → First (45 ∷ (b ∷ bs))
unfolding all
hyphen-first b bs d =
    let p = split is_digit bs in
    record { s = 1; x = 45 ∷ (b ∷ p.x); rest = p.rest; is = ap (λ (xs : List ℕ). 45 ∷ (b ∷ xs)) p.is; some = omega arith; spells = Lexes.negative (rw (d, p.passes) refl); longest = stops-longest (λ c. eqb c 45) is_digit 45 (b ∷ p.x) p.rest refl (λ s w. after-hyphen) p.stops }

dots-first : (bs : List ℕ) → First (46 ∷ (46 ∷ bs))
dots-first bs = record { s = 46; x = 46 ∷ (46 ∷ []); rest = bs; is = refl; some = omega arith; spells = Lexes.dots; longest = dots-longest bs }

alone-first : (b : ℕ) (bs : List ℕ) → is_gap b ≡ false → is_letter b ≡ false → starts_number b bs ≡ false → starts_dots b bs ≡ false → First (b ∷ bs)
unfolding starts_number
alone-first b bs g l n d = go (is_sign b) refl
  where
    no-digit : (e f : Bool) → (e || f) ≡ false → e ≡ false
    no-digit true f q = false-true (sym q)
    no-digit false f q = refl

    go : (e : Bool) → is_sign b ≡ e → First (b ∷ bs)
    go true q = record { s = b; x = b ∷ []; rest = bs; is = refl; some = omega arith; spells = Lexes.sign q; longest = alone-longest b bs l n d }
    go false q = record { s = 0; x = b ∷ []; rest = bs; is = refl; some = omega arith; spells = Lexes.other g l (no-digit (is_digit b) _ n) q; longest = alone-longest b bs l n d }

number-first : (b : ℕ) (bs : List ℕ) → starts_number b bs ≡ true → First (b ∷ bs)
unfolding starts_number front is_digit between
number-first b [] n = go (is_digit b) refl
  where
    lone : (e : Bool) → (e && false) ≡ true → ⊥
    lone true q = false-true q
    lone false q = false-true q

    go : (d : Bool) → is_digit b ≡ d → First (b ∷ [])
    go true q = digit-first b [] q
    go false q = absurd (lone (eqb b 45) (rw q at n))
number-first b (c ∷ cs) n = go (is_digit b) refl
  where
    go : (d : Bool) → is_digit b ≡ d → First (b ∷ (c ∷ cs))
    go true q = digit-first b (c ∷ cs) q
    go false q = let p = both_true (eqb b 45) _ (rw q at n) in subst (λ a. First (a ∷ (c ∷ cs))) (sym (eqb-true b 45 p.0)) (hyphen-first c cs p.1)

two-dots : (b : ℕ) (bs : List ℕ) → starts_dots b bs ≡ true → First (b ∷ bs)
unfolding starts_dots front
two-dots b [] d = let p = both_true (eqb b 46) _ d in false-true p.1
two-dots b (c ∷ cs) d = let p = both_true (eqb b 46) _ d in rw (eqb-true b 46 p.0, eqb-true c 46 p.1) (dots-first cs)

first : (b : ℕ) (bs : List ℕ) → is_gap b ≡ false → First (b ∷ bs)
first b bs g = go (is_letter b) refl (starts_number b bs) refl (starts_dots b bs) refl
  where
    go : (l : Bool) → is_letter b ≡ l → (n : Bool) → starts_number b bs ≡ n → (d : Bool) → starts_dots b bs ≡ d → First (b ∷ bs)
    go true l n m d e = letter-first b bs l
    go false l true m d e = number-first b bs m
    go false l false m true e = two-dots b bs e
    go false l false m false e = alone-first b bs g l m e

-- blanks, line feeds, comments
gap-is : (b : ℕ) → is_gap b ≡ true → (b ≡ 32) ⊎ ((b ≡ 10) ⊎ (b ≡ 37))
unfolding is_gap any bytes list_of
gap-is b e = go (eqb b 32) refl (eqb b 10) refl (eqb b 37) refl e
  where
    go : (l : Bool) → eqb b 32 ≡ l → (m : Bool) → eqb b 10 ≡ m → (o : Bool) → eqb b 37 ≡ o → (l || (m || (o || false))) ≡ true → (b ≡ 32) ⊎ ((b ≡ 10) ⊎ (b ≡ 37))
    go true p m q o r e = inl (eqb-true b 32 p)
    go false p true q o r e = inr (inl (eqb-true b 10 q))
    go false p false q true r e = inr (inr (eqb-true b 37 r))
    go false p false q false r e = false-true e

line-end : (c : ℕ) → in_comment c ≡ false → c ≡ 10
unfolding in_comment
line-end c e = go (eqb c 10) refl e
  where
    go : (d : Bool) → eqb c 10 ≡ d → not d ≡ false → c ≡ 10
    go true q h = eqb-true c 10 q
    go false q h = false-true (sym h)

abbrev Lexed : ℕ → List ℕ → Type 0
Lexed p bs = (ts : List Token) × Lexes p bs ts

-- of each text of up to n bytes
abbrev Shorter : ℕ → Type 0
Shorter n = (q : ℕ) (cs : List ℕ) → length cs ≤ n → Lexed q cs

comment-first : (n p : ℕ) (bs : List ℕ) → length bs ≤ n → Shorter n → Lexed p (37 ∷ bs)
comment-first n p bs h f = let s = split in_comment bs in ended s.x s.rest s.is s.passes s.stops
  where
    ended : (x rest : List ℕ) → bs ≡ x ++ rest → all in_comment x ≡ true → Stops in_comment rest → Lexed p (37 ∷ bs)
    ended x [] q a e = ([], subst (λ (cs : List ℕ). Lexes p (37 ∷ cs) []) (sym (q ∙ append-nil x)) (Lexes.last-comment a))
    ended x (c ∷ rest) q a e =
        let k : length bs ≡ length x + suc (length rest) = ap length q ∙ length-append x (c ∷ rest) in
        let r = f (p + 1 + length x) (10 ∷ rest) (omega (arith, h, k)) in
        let d : bs ≡ x ++ (10 ∷ rest) = q ∙ ap (λ (b : ℕ). x ++ (b ∷ rest)) (line-end c e) in
        (r.0, subst (λ (cs : List ℕ). Lexes p (37 ∷ cs) r.0) (sym d) (Lexes.comment x a r.1))

gap-first : (n p b : ℕ) (bs : List ℕ) → length bs ≤ n → Shorter n → (b ≡ 32) ⊎ ((b ≡ 10) ⊎ (b ≡ 37)) → Lexed p (b ∷ bs)
gap-first n p b bs h f (inl q) = let r = f (p + 1) bs h in (r.0, subst (λ (c : ℕ). Lexes p (c ∷ bs) r.0) (sym q) (Lexes.blank r.1))
gap-first n p b bs h f (inr (inl q)) = let r = f (p + 1) bs h in (r.0, subst (λ (c : ℕ). Lexes p (c ∷ bs) r.0) (sym q) (Lexes.line-feed r.1))
gap-first n p b bs h f (inr (inr q)) = let r = comment-first n p bs h f in (r.0, subst (λ (c : ℕ). Lexes p (c ∷ bs) r.0) (sym q) r.1)

token-first : (n p : ℕ) (bs : List ℕ) → length bs ≤ suc n → Shorter n → First bs → Lexed p bs
token-first n p bs h f t =
    let k : length bs ≡ length t.x + length t.rest = ap length t.is ∙ length-append t.x t.rest in
    let r = f (p + length t.x) t.rest (omega (arith, h, k, t.some)) in
    let ts : List Token = record { sort = t.s; place = p; spelling = t.x } ∷ r.0 in
    (ts, subst (λ (cs : List ℕ). Lexes p cs ts) (sym t.is) (Lexes.token t.spells t.longest r.1))

lexed-in : (n : ℕ) → Shorter n
lexed-in n p [] h = ([], Lexes.ending)
lexed-in zero p (b ∷ bs) h = absurd (omega arith)
lexed-in (suc n) p (b ∷ bs) h = go (is_gap b) refl (lexed-in n)
  where
    go : (g : Bool) → is_gap b ≡ g → Shorter n → Lexed p (b ∷ bs)
    go true q f = gap-first n p b bs (omega (arith, h)) f (gap-is b q)
    go false q f = token-first n p (b ∷ bs) h f (first b bs q)

-- ---- THE LAW

blank-gap : (p : ℕ) (bs : List ℕ) → tokens_from 0 p (32 ∷ bs) ≡ tokens_from 0 (p + 1) bs
unfolding is_gap any bytes list_of token_length is_letter is_digit between starts_number starts_dots
blank-gap p bs = at-gap 32 p 0 bs refl refl

feed-gap : (p : ℕ) (bs : List ℕ) → tokens_from 0 p (10 ∷ bs) ≡ tokens_from 0 (p + 1) bs
unfolding is_gap any bytes list_of token_length is_letter is_digit between starts_number starts_dots
feed-gap p bs = at-gap 10 p 0 bs refl refl

comment-gap : (p : ℕ) (x rest : List ℕ) → all in_comment x ≡ true → Stops in_comment rest → tokens_from 0 p (37 ∷ (x ++ rest)) ≡ tokens_from 0 (p + 1 + length x) rest
unfolding is_gap any bytes list_of
comment-gap p x rest h s = at-gap 37 p (length x) (x ++ rest) refl n ∙ passed-over x rest (p + 1)
  where
    n : token_length 37 (x ++ rest) ≡ suc (length x)
    n = comment_length 37 (x ++ rest) refl ∙ (let r = run-over in_comment x rest h s in omega (arith, r))

no-token : (p : ℕ) → tokens_from 0 p [] ≡ []
unfolding tokens_from
no-token p = refl

lexed-are : {p : ℕ} {bs : List ℕ} {ts : List Token} → Lexes p bs ts → ts ≡ tokens_from 0 p bs
unfolding in_comment
lexed-are (Lexes.ending {p = p}) = sym (no-token p)
lexed-are (Lexes.blank {p = p} {rest = rest} l) = lexed-are l ∙ sym (blank-gap p rest)
lexed-are (Lexes.line-feed {p = p} {rest = rest} l) = lexed-are l ∙ sym (feed-gap p rest)
lexed-are (Lexes.comment {p = p} {rest = rest} x h l) = lexed-are l ∙ sym (comment-gap p x (10 ∷ rest) h refl)
lexed-are (Lexes.last-comment {p = p} {x = x} h) = sym (ap (λ (cs : List ℕ). tokens_from 0 p (37 ∷ cs)) (sym (append-nil x)) ∙ comment-gap p x [] h tt ∙ no-token _)
lexed-are (Lexes.token {p = p} {s = s} {x = x} {rest = rest} a w l) = ap (λ (us : List Token). record { sort = s; place = p; spelling = x } ∷ us) (lexed-are l) ∙ sym (at-token s x rest p (front-is a rest w))

pub lexes : (bs : List ℕ) (ts : List Token) → Lexes 0 bs ts ↔ (ts ≡ tokens bs)
unfolding tokens
lexes bs ts = (lexed-are, λ e. let l = lexed-in (length bs) 0 bs (omega arith) in subst (Lexes 0 bs) (lexed-are l.1 ∙ sym e) l.1)
