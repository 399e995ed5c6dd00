-- The tokens of a statement one after the other: a gap, a semicolon, a token, the end of the text.
use Rattle.std.proofs.Common.{◌≡◌, refl, sym, ap, ◌∙◌, Bool, true, false, List, [], ◌∷◌, ◌++◌, ℕ, zero, suc, ◌+◌, ◌-◌, ◌<◌, arith, eqb, length, get_or, drop, Option, Some, None, ne_eqb}
use Rattle.std.proofs.lemmas.Bool.{eqb-true, eqb-false}
use Rattle.std.proofs.lemmas.List.{nil_from_length}
use Rattle.integers.specs.Choice.{◌if◌else◌}
use Rattle.integers.specs.Lists.{any, list_of}
use Rattle.words.specs.Bytes.{bytes}
use Rattle.tokens.specs.Byte.{front, run, in_comment}
use Rattle.flatzinc.specs.declared.trouble.Trouble.{Trouble}
use Rattle.flatzinc.specs.declared.trouble.Trouble.TheVariants.{Memory, Fault}
use Rattle.flatzinc.specs.Answer.{Fails}
use Rattle.flattokens.specs.Byte.{is_gap}
use Rattle.flattokens.specs.Token.{Token}
use Rattle.flattokens.specs.Reading.{gap_length, token_at, before, then_more, statement_from}

-- bytes that are read already are left out
pub skips : (n : ℕ) (bs : List ℕ) → statement_from n bs ≡ statement_from 0 (drop n bs)
unfolding statement_from
skips zero bs = refl
skips (suc n) [] = refl
skips (suc n) (b ∷ bs) = skips n bs

-- ---- gaps

pub gap_some : (bs : List ℕ) → 0 < gap_length bs
unfolding gap_length
gap_some bs = go (eqb (front bs) 37)
  where
    go : (t : Bool) → 0 < (1 + run in_comment (drop 1 bs) if t else 1)
    go true = omega arith
    go false = omega arith

pub gap_inside : (bs : List ℕ) → is_gap (front bs) ≡ true → 0 < length bs
unfolding is_gap front any bytes list_of
gap_inside [] h = absurd cc
gap_inside (b ∷ bs) h = omega arith

past : (n : ℕ) (b : ℕ) (bs : List ℕ) → 0 < n → drop (n - 1) bs ≡ drop n (b ∷ bs)
past (suc n) b bs h = ap (λ k. drop k bs) (omega arith)
past zero b bs h = absurd (omega arith)

pub gap_on : (bs : List ℕ) → is_gap (front bs) ≡ true → statement_from 0 bs ≡ statement_from 0 (drop (gap_length bs) bs)
unfolding statement_from front
gap_on [] h = absurd (omega (arith, gap_inside [] h))
gap_on (b ∷ bs) h = rw h (skips (gap_length (b ∷ bs) - 1) bs ∙ ap (statement_from 0) (past (gap_length (b ∷ bs)) b bs (gap_some (b ∷ bs))))

-- ---- tokens

-- tokens before those of a statement
abbrev pub ahead : List Token → Option (Option (List Token × List ℕ)) → Option (Option (List Token × List ℕ))
ahead [] r = r
ahead (t ∷ ts) r = before t (ahead ts r)

pub ahead-push : (ts : List Token) (t : Token) (r : Option (Option (List Token × List ℕ))) → ahead (ts ++ (t ∷ [])) r ≡ ahead ts (before t r)
ahead-push [] t r = refl
ahead-push (u ∷ ts) t r = ap (before u) (ahead-push ts t r)

pub ahead-none : (ts : List Token) → ahead ts None ≡ None
ahead-none [] = refl
ahead-none (t ∷ ts) = ap (before t) (ahead-none ts)

pub ahead-ends : (ts : List Token) (rest : List ℕ) → ahead ts (Some (Some ([], rest))) ≡ Some (Some (ts, rest))
ahead-ends [] rest = refl
ahead-ends (t ∷ ts) rest = ap (before t) (ahead-ends ts rest)

pub ahead-nothing : (ts : List Token) → 0 < length ts → ahead ts (Some None) ≡ None
ahead-nothing [] h = absurd (omega arith)
ahead-nothing (t ∷ []) h = refl
ahead-nothing (t ∷ u ∷ ts) h = ap (before t) (ahead-nothing (u ∷ ts) (omega arith))

pub semicolon : (bs : List ℕ) → 0 < length bs → is_gap (front bs) ≡ false → front bs ≡ 59 → statement_from 0 bs ≡ Some (Some ([], drop 1 bs))
unfolding statement_from front
semicolon [] l g e = absurd (omega arith)
semicolon (b ∷ bs) l g e = rw (g, e) refl

abbrev on_from : List ℕ → ℕ → Option (Option (List Token × List ℕ))
on_from bs n = statement_from (n - 1) (drop 1 bs)

token_on : (bs : List ℕ) → 0 < length bs → is_gap (front bs) ≡ false → (front bs ≡ 59 → ⊥) → statement_from 0 bs ≡ then_more (on_from bs) (token_at bs)
unfolding statement_from front
token_on [] l g e = absurd (omega arith)
token_on (b ∷ bs) l g e = rw (g, ne_eqb b 59 e) refl

rest_on : (bs : List ℕ) (n : ℕ) → 0 < length bs → 0 < n → on_from bs n ≡ statement_from 0 (drop n bs)
rest_on [] n l h = absurd (omega arith)
rest_on (b ∷ bs) n l h = skips (n - 1) bs ∙ ap (statement_from 0) (past n b bs h)

module _ (bs : List ℕ) (inside : 0 < length bs) (no_gap : is_gap (front bs) ≡ false) (other : front bs ≡ 59 → ⊥) where
  pub token_read : (t : Token) (n : ℕ) → 0 < n → token_at bs ≡ Some (t, n) → statement_from 0 bs ≡ before t (statement_from 0 (drop n bs))
  token_read t n h e = token_on bs inside no_gap other ∙ ap (then_more (on_from bs)) e ∙ ap (before t) (rest_on bs n inside h)

  pub token_fails : (ts : List Token) (e : Trouble) (whole : Option (Option (List Token × List ℕ))) → Fails e (token_at bs) → ahead ts (statement_from 0 bs) ≡ whole → Fails e whole
  token_fails ts Memory whole h so_far = tt
  token_fails ts (Fault m) whole h so_far = sym so_far ∙ ap (ahead ts) (token_on bs inside no_gap other ∙ ap (then_more (on_from bs)) h) ∙ ahead-none ts

-- ---- the byte at the front, as the code reads it

pub gap_read : (bs : List ℕ) (b : ℕ) (r t : Bool) → b ≡ get_or bs 0 0 → r ≡ is_gap b → r ≡ t → is_gap (front bs) ≡ t
unfolding front
gap_read bs b r t e f h = ap is_gap (sym e) ∙ sym f ∙ h

pub front_read : (bs : List ℕ) (b x : ℕ) → b ≡ get_or bs 0 0 → b ≡ x → front bs ≡ x
unfolding front
front_read bs b x e h = sym e ∙ h

pub other_read : (bs : List ℕ) (b x : ℕ) → b ≡ get_or bs 0 0 → (b ≡ x → ⊥) → front bs ≡ x → ⊥
unfolding front
other_read bs b x e h q = h (e ∙ q)

-- ---- the end of a text

pub not_empty : {A : Type 0} (xs : List A) (r : Bool) → r ≡ eqb (length xs) 0 → r ≡ false → 0 < length xs
not_empty xs r e h = omega (arith, eqb-false _ _ (sym e ∙ h))

pub empty_is : {A : Type 0} (xs : List A) (r : Bool) → r ≡ eqb (length xs) 0 → r ≡ true → xs ≡ []
empty_is xs r e h = nil_from_length xs (eqb-true _ _ (sym e ∙ h))

nothing : statement_from 0 [] ≡ Some None
unfolding statement_from
nothing = refl

module _ (bs : List ℕ) (ts : List Token) (whole : Option (Option (List Token × List ℕ))) (so_far : ahead ts (statement_from 0 bs) ≡ whole) (over : bs ≡ []) where
  pub ends_between : ts ≡ [] → whole ≡ Some None
  ends_between e = sym so_far ∙ ap (λ (us : List Token). ahead us (statement_from 0 bs)) e ∙ ap (statement_from 0) over ∙ nothing

  pub ends_within : 0 < length ts → whole ≡ None
  ends_within l = sym so_far ∙ ap (ahead ts) (ap (statement_from 0) over ∙ nothing) ∙ ahead-nothing ts l
