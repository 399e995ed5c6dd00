-- The tokens of a text from a place on. For the functions that find tokens.
use Rattle.std.proofs.Common.{◌≡◌, refl, sym, ap, ◌∙◌, ◌⊎◌, inl, inr, Bool, true, false, ◌&&◌, ◌||◌, eqb-true, List, [], ◌∷◌, ℕ, zero, suc, ◌+◌, ◌-◌, ◌<◌, ◌≤◌, add-zero, arith, eqb, drop-drop, length, get_or, drop, drop_of_length-le}
use Rattle.words.proofs.Reading.{word-then}
use Rattle.integers.specs.Choice.{◌if◌else◌}
use Rattle.integers.specs.Lists.{any, list_of}
use Rattle.integers.proofs.Tests.{false-true}
use Rattle.tokens.specs.Byte.{bytes, between, front, run, is_letter, in_name, is_digit, in_comment, is_gap}
use Rattle.tokens.specs.Token.{Token, token_length, starts_number, starts_dots, sort_of, tokens_from}
use Rattle.tokens.specs.Sorts.{sort_number}
use Rattle.tokens.specs.Unread.{unread, spanned}
use Rattle.tokens.specs.declared.Span.{Span}

-- ---- lists of bytes

pub dots_fit : (b : ℕ) (xs : List ℕ) → starts_dots b xs ≡ true → 1 ≤ length xs
unfolding starts_dots front
dots_fit b [] e = go (eqb b 46) e
  where
    go : (d : Bool) → d && false ≡ true → 1 ≤ 0
    go true q = false-true q
    go false q = false-true q
dots_fit b (x ∷ xs) e = omega arith

-- a token has a first byte
some-length : (b : ℕ) (xs : List ℕ) → 1 ≤ token_length b xs
unfolding token_length
some-length b xs = go (is_letter b) (starts_number b xs) (starts_dots b xs) (eqb b 37)
  where
    go : (l n d c : Bool) → 1 ≤ (1 + run in_name xs if l else 1 + run is_digit xs if n else 2 if d else 1 + run in_comment xs if c else 1)
    go true n d c = omega arith
    go false true d c = omega arith
    go false false true c = omega arith
    go false false false true = omega arith
    go false false false false = omega arith

-- what is left of the token before is passed
pub later : (k p : ℕ) (xs : List ℕ) → tokens_from k p xs ≡ tokens_from 0 (p + k) (drop k xs)
unfolding tokens_from
later zero p xs = ap (λ (q : ℕ). tokens_from 0 q xs) (sym (add-zero p))
later (suc k) p [] = refl
later (suc k) p (x ∷ xs) = let e : p + 1 + k ≡ p + suc k = omega arith in later k (p + 1) xs ∙ ap (λ (q : ℕ). tokens_from 0 q (drop k xs)) e

-- a blank or a line feed is one byte, a comment goes up to the line feed
gap_cases : (b : ℕ) → is_gap b ≡ true → (b ≡ 37 → ⊥) → (b ≡ 32) ⊎ (b ≡ 10)
unfolding is_gap any bytes list_of
gap_cases b e n = go (eqb b 32) refl (eqb b 10) refl (eqb b 37) refl e
  where
    go : (l : Bool) → eqb b 32 ≡ l → (m : Bool) → eqb b 10 ≡ m → (o : Bool) → eqb b 37 ≡ o → l || (m || (o || false)) ≡ true → (b ≡ 32) ⊎ (b ≡ 10)
    go true p m q o r e = inl (eqb-true b 32 p)
    go false p true q o r e = inr (eqb-true b 10 q)
    go false p false q true r e = absurd (n (eqb-true b 37 r))
    go false p false q false r e = absurd (false-true e)

blank : (b : ℕ) (xs : List ℕ) → (b ≡ 32) ⊎ (b ≡ 10) → token_length b xs ≡ 1
unfolding token_length is_letter starts_number starts_dots is_digit between
blank b xs (inl e) = rw e refl
blank b xs (inr e) = rw e refl

pub blank_length : (b : ℕ) (xs : List ℕ) → is_gap b ≡ true → (b ≡ 37 → ⊥) → token_length b xs ≡ 1
blank_length b xs e n = blank b xs (gap_cases b e n)

pub comment_length : (b : ℕ) (xs : List ℕ) → b ≡ 37 → token_length b xs ≡ 1 + run in_comment xs
unfolding token_length is_letter starts_number starts_dots is_digit between
comment_length b xs e = rw e refl

percent : is_gap 37 ≡ true
unfolding is_gap any bytes list_of
percent = refl

-- what is no comment and begins no name, number or dots is one byte
pub sign_length : (b : ℕ) (xs : List ℕ) → is_gap b ≡ false → is_letter b ≡ false → starts_number b xs ≡ false → starts_dots b xs ≡ false → token_length b xs ≡ 1
unfolding token_length
sign_length b xs g l n d = rw (l, n, d) (go (eqb b 37) refl)
  where
    go : (o : Bool) → eqb b 37 ≡ o → (1 + run in_comment xs if o else 1) ≡ 1
    go true q = absurd (false-true (sym g ∙ (rw (eqb-true b 37 q) percent)))
    go false q = refl

-- ---- places

module _ (bs : List ℕ) where
  -- the tokens after the one that begins at a place
  onward : (i n : ℕ) → 1 ≤ n → tokens_from (n - 1) (i + 1) (drop (i + 1) bs) ≡ unread bs (i + n)
  unfolding unread
  onward i n l =
      let e : i + 1 + (n - 1) ≡ i + n = omega arith in
      later (n - 1) (i + 1) (drop (i + 1) bs) ∙ ap (tokens_from 0 (i + 1 + (n - 1))) (drop-drop (n - 1) (i + 1) bs) ∙ ap (λ (q : ℕ). tokens_from 0 q (drop q bs)) e

  -- at a place inside the text: a gap, a token
  module _ (i : ℕ) (l : i < length bs) where
    abbrev len : ℕ
    len = token_length (get_or bs i 0) (drop (i + 1) bs)

    abbrev rest : List Token
    rest = tokens_from (len - 1) (i + 1) (drop (i + 1) bs)

    rest-unread : rest ≡ unread bs (i + len)
    rest-unread = onward i len (some-length (get_or bs i 0) (drop (i + 1) bs))

    gap-opened : is_gap (get_or bs i 0) ≡ true → unread bs i ≡ rest
    unfolding unread tokens_from
    gap-opened e = ap (tokens_from 0 i) (word-then bs i l) ∙ rw e

    pub gap_here : is_gap (get_or bs i 0) ≡ true → unread bs i ≡ unread bs (i + len)
    gap_here e = gap-opened e ∙ rest-unread

    module _ (s : Span) (p : s.place ≡ i) (n : s.stop ≡ i + len) (v : sort_number s.sort ≡ sort_of (get_or bs i 0) (drop (i + 1) bs)) where
      token-opened : is_gap (get_or bs i 0) ≡ false → unread bs i ≡ spanned bs s ∷ rest
      unfolding unread tokens_from spanned
      token-opened e =
          let d : i + len - i ≡ len = omega arith in
          ap (tokens_from 0 i) (word-then bs i l) ∙ rw (p, n, v, d, word-then bs i l, e)

      pub token-here : is_gap (get_or bs i 0) ≡ false → unread bs i ≡ spanned bs s ∷ unread bs s.stop
      token-here e = token-opened e ∙ ap (λ (ts : List Token). spanned bs s ∷ ts) (rest-unread ∙ ap (λ (q : ℕ). unread bs q) (sym n))

  pub none_left : (i : ℕ) → length bs ≤ i → unread bs i ≡ []
  unfolding unread tokens_from
  none_left i l = ap (tokens_from 0 i) (drop_of_length-le bs l)
