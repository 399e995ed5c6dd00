-- What the longest spelling at the front of a text is: by its first byte, and by the byte after it.
use Rattle.std.proofs.Common.{◌≡◌, refl, sym, ap, subst, ◌∙◌, ◌⊎◌, inl, inr, Bool, true, false, not, ◌&&◌, ◌||◌, List, [], ◌∷◌, ◌++◌, ℕ, ◌<◌, ◌≤◌, arith, eqb, leb, length, drop, eqb-true, leb-true, le-leb}
use Rattle.integers.specs.Lists.{all, any, list_of}
use Rattle.integers.proofs.Tests.{false-true}
use Rattle.integers.proofs.Booleans.{both_true}
use Rattle.tokens.specs.Byte.{bytes, between, front, run, is_letter, in_name, is_digit, is_gap, is_sign}
use Rattle.tokens.specs.Token.{starts_number, starts_dots}
use Rattle.tokens.specs.Lexes as Lexes
use Rattle.tokens.specs.Lexes.{Spells, Longest}

-- ---- bytes by their use

clash : {G : Type 0} {d : Bool} → d ≡ true → d ≡ false → G
clash e f = false-true (sym f ∙ e)

is_false : (d : Bool) → not d ≡ true → d ≡ false
is_false true e = false-true e
is_false false e = refl

-- a byte that passes a test is none of bytes that do not pass it
none-of : (t : ℕ → Bool) (cs : List ℕ) → all (λ c. not (t c)) cs ≡ true → (b : ℕ) → t b ≡ true → any (eqb b) cs ≡ false
unfolding all any
none-of t [] h b e = refl
none-of t (c ∷ cs) h b e = go (eqb b c) refl (none-of t cs (both_true _ _ h).1 b e)
  where
    go : (d : Bool) → eqb b c ≡ d → any (eqb b) cs ≡ false → (d || any (eqb b) cs) ≡ false
    go true q f = clash (ap t (sym (eqb-true b c q)) ∙ e) (is_false _ (both_true _ _ h).0)
    go false q f = f

-- and one of bytes that all pass a test passes it
one-of : (t : ℕ → Bool) (cs : List ℕ) → all t cs ≡ true → (b : ℕ) → any (eqb b) cs ≡ true → t b ≡ true
unfolding all any
one-of t [] h b e = false-true e
one-of t (c ∷ cs) h b e = go (eqb b c) refl e (one-of t cs (both_true _ _ h).1 b)
  where
    go : (d : Bool) → eqb b c ≡ d → (d || any (eqb b) cs) ≡ true → (any (eqb b) cs ≡ true → t b ≡ true) → t b ≡ true
    go true q k f = ap t (eqb-true b c q) ∙ (both_true _ _ h).0
    go false q k f = f k

pub letter-no-gap : (b : ℕ) → is_letter b ≡ true → is_gap b ≡ false
unfolding is_gap all bytes list_of is_letter between
letter-no-gap b e = none-of is_letter (bytes " \n%") refl b e

pub digit-no-gap : (b : ℕ) → is_digit b ≡ true → is_gap b ≡ false
unfolding is_gap all bytes list_of is_digit between
digit-no-gap b e = none-of is_digit (bytes " \n%") refl b e

-- a sign starts nothing else
Plain : ℕ → Bool
unfolding is_gap
Plain b = not (is_gap b) && (not (is_letter b) && (not (is_digit b) && (not (eqb b 45) && not (eqb b 46))))

pub record Alone (b : ℕ) : Type 0 where
  pub no-gap : is_gap b ≡ false
  pub no-letter : is_letter b ≡ false
  pub no-digit : is_digit b ≡ false
  pub no-hyphen : eqb b 45 ≡ false
  pub no-dot : eqb b 46 ≡ false

signs-plain : all Plain (bytes ":;,()[]{}") ≡ true
unfolding Plain is_gap any all bytes list_of is_letter is_digit between
signs-plain = refl

pub alone : (b : ℕ) → is_sign b ≡ true → Alone b
unfolding is_sign Plain
alone b e =
    let p = both_true _ _ (one-of Plain (bytes ":;,()[]{}") signs-plain b e) in
    let q = both_true _ _ p.1 in
    let r = both_true _ _ q.1 in
    let s = both_true _ _ r.1 in
    record { no-gap = is_false _ p.0; no-letter = is_false _ q.0; no-digit = is_false _ r.0; no-hyphen = is_false _ s.0; no-dot = is_false _ s.1 }

-- a digit is no letter
letter-from : (b : ℕ) → is_letter b ≡ true → 65 ≤ b
unfolding is_letter between
letter-from b e = go (leb 65 b) refl (leb 97 b) refl e
  where
    go : (d : Bool) → leb 65 b ≡ d → (f : Bool) → leb 97 b ≡ f → ((d && leb b 90) || (f && leb b 122)) ≡ true → 65 ≤ b
    go true q f r h = leb-true 65 b q
    go false q true r h = omega (arith, leb-true 97 b r)
    go false q false r h = false-true h

digit-to : (b : ℕ) → is_digit b ≡ true → b ≤ 57
unfolding is_digit between
digit-to b e = leb-true b 57 (both_true _ _ e).1

pub digit-no-letter : (b : ℕ) → is_digit b ≡ true → is_letter b ≡ false
digit-no-letter b e = go (is_letter b) refl
  where
    go : (l : Bool) → is_letter b ≡ l → l ≡ false
    go true q = absurd (omega (arith, letter-from b q, digit-to b e))
    go false q = refl

-- ---- bytes that all pass a test, as many as there are

-- the byte after a run does not pass
abbrev pub Stops : (ℕ → Bool) → List ℕ → Type 0
Stops t [] = Unit {0}
Stops t (c ∷ cs) = t c ≡ false

stopped : (t : ℕ → Bool) (rest : List ℕ) → Stops t rest → run t rest ≡ 0
stopped t [] h = refl
stopped t (c ∷ cs) h = rw h refl

pub run-over : (t : ℕ → Bool) (x rest : List ℕ) → all t x ≡ true → Stops t rest → run t (x ++ rest) ≡ length x
unfolding all
run-over t [] rest h z = stopped t rest z
run-over t (c ∷ x) rest h z = let p = both_true (t c) _ h in let e = run-over t x rest p.1 z in rw p.0 (omega (arith, e))

pub all-then : (t : ℕ → Bool) (x : List ℕ) (c : ℕ) → all t x ≡ true → t c ≡ true → all t (x ++ (c ∷ [])) ≡ true
unfolding all
all-then t [] c h e = rw e refl
all-then t (b ∷ x) c h e = let p = both_true (t b) _ h in rw (p.0, all-then t x c p.1 e) refl

all-mid : (t : ℕ → Bool) (x : List ℕ) (c : ℕ) (y : List ℕ) → all t (x ++ (c ∷ y)) ≡ true → t c ≡ true
unfolding all
all-mid t [] c y h = (both_true (t c) _ h).0
all-mid t (b ∷ x) c y h = all-mid t x c y (both_true (t b) _ h).1

-- the bytes that pass, and what is left
pub record Split (t : ℕ → Bool) (bs : List ℕ) : Type 0 where
  pub x : List ℕ
  pub rest : List ℕ
  pub is : bs ≡ x ++ rest
  pub passes : all t x ≡ true
  pub stops : Stops t rest

pub split : (t : ℕ → Bool) (bs : List ℕ) → Split t bs
unfolding all
split t [] = record { x = []; rest = []; is = refl; passes = refl; stops = tt }
split t (b ∷ bs) = go (t b) refl (split t bs)
  where
    go : (d : Bool) → t b ≡ d → Split t bs → Split t (b ∷ bs)
    go true q s = record { x = b ∷ s.x; rest = s.rest; is = ap (λ (xs : List ℕ). b ∷ xs) s.is; passes = rw (q, s.passes) refl; stops = s.stops }
    go false q s = record { x = []; rest = b ∷ bs; is = refl; passes = refl; stops = q }

-- ---- what a spelling begins with

-- after a first byte of a kind every byte passes a test
abbrev After : (ℕ → Bool) → (ℕ → Bool) → List ℕ → Type 0
After u t [] = Unit {0}
After u t (b ∷ bs) = u b ≡ true → all t bs ≡ true

pub after-letter : {s : ℕ} {x : List ℕ} → Spells s x → After is_letter in_name x
unfolding all is_letter is_digit between
after-letter (Lexes.name l h m) = λ e. h
after-letter (Lexes.long-name l h m) = λ e. h
after-letter (Lexes.number {b = b} h) = λ e. clash e (digit-no-letter b (both_true (is_digit b) _ h).0)
after-letter (Lexes.negative h) = λ e. false-true e
after-letter Lexes.dots = λ e. false-true e
after-letter (Lexes.sign g) = λ e. refl
after-letter (Lexes.other g l d n) = λ e. refl

pub after-digit : {s : ℕ} {x : List ℕ} → Spells s x → After is_digit is_digit x
unfolding all is_digit between
after-digit (Lexes.name {b = b} l h m) = λ e. clash l (digit-no-letter b e)
after-digit (Lexes.long-name {b = b} l h m) = λ e. clash l (digit-no-letter b e)
after-digit (Lexes.number {b = b} h) = λ e. (both_true (is_digit b) _ h).1
after-digit (Lexes.negative h) = λ e. false-true e
after-digit Lexes.dots = λ e. false-true e
after-digit (Lexes.sign g) = λ e. refl
after-digit (Lexes.other g l d n) = λ e. refl

letter-no-hyphen : (b : ℕ) → is_letter b ≡ true → eqb b 45 ≡ true → ⊥
letter-no-hyphen b l e = omega (arith, letter-from b l, eqb-true b 45 e)

digit-no-hyphen : (b : ℕ) → is_digit b ≡ true → eqb b 45 ≡ true → ⊥
unfolding is_digit between
digit-no-hyphen b d e = let h = leb-true 48 b (both_true (leb 48 b) _ d).0 in let q = eqb-true b 45 e in omega (arith, h, q)

pub after-hyphen : {s : ℕ} {x : List ℕ} → Spells s x → After (λ b. eqb b 45) is_digit x
unfolding all
after-hyphen (Lexes.name {b = b} l h m) = λ e. absurd (letter-no-hyphen b l e)
after-hyphen (Lexes.long-name {b = b} l h m) = λ e. absurd (letter-no-hyphen b l e)
after-hyphen (Lexes.number {b = b} h) = λ e. absurd (digit-no-hyphen b (both_true (is_digit b) _ h).0 e)
after-hyphen (Lexes.negative h) = λ e. h
after-hyphen Lexes.dots = λ e. false-true e
after-hyphen (Lexes.sign g) = λ e. refl
after-hyphen (Lexes.other g l d n) = λ e. refl

-- two dots go no further
abbrev AfterDot : List ℕ → Type 0
AfterDot [] = Unit {0}
AfterDot (b ∷ bs) = b ≡ 46 → drop 1 bs ≡ []

after-dot : {s : ℕ} {x : List ℕ} → Spells s x → AfterDot x
unfolding all is_letter is_digit between
after-dot (Lexes.name {b = b} l h m) = λ e. false-true (ap is_letter (sym e) ∙ l)
after-dot (Lexes.long-name {b = b} l h m) = λ e. false-true (ap is_letter (sym e) ∙ l)
after-dot (Lexes.number {b = b} h) = λ e. false-true (ap is_digit (sym e) ∙ (both_true (is_digit b) _ h).0)
after-dot (Lexes.negative h) = λ e. absurd (omega (arith, e))
after-dot Lexes.dots = λ e. refl
after-dot (Lexes.sign g) = λ e. refl
after-dot (Lexes.other g l d n) = λ e. refl

-- a spelling of several bytes begins with a letter, a number's first byte or two dots
abbrev Starts : List ℕ → Type 0
Starts [] = Unit {0}
Starts (b ∷ bs) = (is_letter b ≡ true) ⊎ ((starts_number b bs ≡ true) ⊎ ((starts_dots b bs ≡ true) ⊎ (bs ≡ [])))

starts : {s : ℕ} {x : List ℕ} → Spells s x → Starts x
unfolding starts_number starts_dots front all
starts (Lexes.name l h m) = inl l
starts (Lexes.long-name l h m) = inl l
starts (Lexes.number {b = b} h) = inr (inl (rw (both_true (is_digit b) _ h).0 refl))
starts (Lexes.negative {b = b} h) = inr (inl (number-start (is_digit 45) (is_digit b) (both_true (is_digit b) _ h).0))
  where
    number-start : (d e : Bool) → e ≡ true → (d || e) ≡ true
    number-start true e q = refl
    number-start false e q = q
starts Lexes.dots = inr (inr (inl refl))
starts (Lexes.sign g) = inr (inr (inr refl))
starts (Lexes.other g l d n) = inr (inr (inr refl))

-- ---- a longest spelling: no byte that its run takes comes after it

pub some-name : (b : ℕ) (bs : List ℕ) → is_letter b ≡ true → all in_name bs ≡ true → (s : ℕ) × Spells s (b ∷ bs)
some-name b bs l h = go (leb (length (b ∷ bs)) 32) refl
  where
    go : (d : Bool) → leb (length (b ∷ bs)) 32 ≡ d → (s : ℕ) × Spells s (b ∷ bs)
    go true q = (2, Lexes.name l h (leb-true _ 32 q))
    go false q = (0, Lexes.long-name l h (above (length (b ∷ bs)) q))
      where
        above : (n : ℕ) → leb n 32 ≡ false → 32 < n
        above n q = grind (arith, le-leb n 32)

pub one-no-none : (c : ℕ) → (c ∷ [] ≡ []) → ⊥
one-no-none c e = let h = ap length e in omega (arith, h)

pub longest-stops : (t : ℕ → Bool) (x rest : List ℕ) → Longest x rest → ((c : ℕ) → t c ≡ true → (s : ℕ) × Spells s (x ++ (c ∷ []))) → Stops t rest
longest-stops t x [] h f = tt
longest-stops t x (c ∷ cs) h f = go (t c) refl
  where
    go : (d : Bool) → t c ≡ d → d ≡ false
    go true q = absurd (one-no-none c (h (c ∷ []) cs (f c q).0 refl (f c q).1))
    go false q = refl

pub stops-longest : (u t : ℕ → Bool) (b : ℕ) (x rest : List ℕ) → u b ≡ true → ((s : ℕ) (w : List ℕ) → Spells s w → After u t w) → Stops t rest → Longest (b ∷ x) rest
stops-longest u t b x rest e f stops [] z s q h = refl
stops-longest u t b x rest e f stops (c ∷ y) z s q h = clash (all-mid t x c y (f s _ h e)) (subst (Stops t) q stops)

pub dots-longest : (rest : List ℕ) → Longest (46 ∷ (46 ∷ [])) rest
dots-longest rest y z s q h = after-dot h refl

pub alone-longest : (b : ℕ) (rest : List ℕ) → is_letter b ≡ false → starts_number b rest ≡ false → starts_dots b rest ≡ false → Longest (b ∷ []) rest
unfolding starts_number starts_dots front
alone-longest b rest l n d [] z s q h = refl
alone-longest b rest l n d (c ∷ y) z s q h = go (starts h)
  where
    go : Starts (b ∷ (c ∷ y)) → c ∷ y ≡ []
    go (inl e) = clash e l
    go (inr (inl e)) = clash e (rw q at n)
    go (inr (inr (inl e))) = clash e (rw q at d)
    go (inr (inr (inr e))) = e
