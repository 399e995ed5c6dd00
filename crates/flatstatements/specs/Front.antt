-- What stands at the front of a list of tokens.
use Rattle.std.specs.Prelude.{◌≡◌, Bool, true, false, List, [], ◌∷◌, ℕ, eqb, ℤ, drop, Option, Some, None, option_map}
use Rattle.std.specs.Str.{bytes_eq}
use Rattle.integers.specs.Choice.{◌if◌else◌}
use Rattle.flattokens.specs.Token.{Token, name, number, dots, colons, sign}

-- a step after one that may answer nothing
infixl 10 ◌>>=◌
abbrev pub ◌>>=◌ : {A B : Type 0} → Option A → (A → Option B) → Option B
(Some x) >>= f = f x
None >>= f = None

-- ---- a token by what it is

unfoldable pub is_sign : ℕ → Token → Bool
is_sign c (sign b) = eqb b c
is_sign c _ = false

unfoldable pub is_word : List ℕ → Token → Bool
is_word w (name bs) = bytes_eq bs w
is_word w _ = false

unfoldable pub is_dots : Token → Bool
is_dots dots = true
is_dots _ = false

unfoldable pub is_colons : Token → Bool
is_colons colons = true
is_colons _ = false

unfoldable pub name_of : Token → Option (List ℕ)
name_of (name bs) = Some bs
name_of _ = None

unfoldable pub number_of : Token → Option ℤ
number_of (number n) = Some n
number_of _ = None

-- ---- the front of a list

unfoldable pub begins : (Token → Bool) → List Token → Bool
begins p [] = false
begins p (t ∷ ts) = p t

-- a sign is taken
unfoldable pub sign_at : ℕ → List Token → Option (List Token)
sign_at c ts = Some (drop 1 ts) if begins (is_sign c) ts else None

unfoldable pub name_at : List Token → Option (List ℕ × List Token)
name_at [] = None
name_at (t ∷ ts) = option_map (λ bs. (bs, ts)) (name_of t)

unfoldable pub number_at : List Token → Option (ℤ × List Token)
number_at [] = None
number_at (t ∷ ts) = option_map (λ n. (n, ts)) (number_of t)

-- nothing is left
unfoldable pub ended : List Token → Option (Unit {0})
ended [] = Some tt
ended (t ∷ ts) = None

-- the token at a place and the place behind it; none past the last one
abbrev pub IsFront : List Token → ℕ → Option (Token × ℕ) → Type 0
IsFront ts at None = drop at ts ≡ []
IsFront ts at (Some x) = drop at ts ≡ x.0 ∷ drop x.1 ts

-- the place behind a token that passes a test, if one stands at a place
abbrev pub Passes : (Token → Bool) → List Token → ℕ → Option ℕ → Type 0
Passes p ts at None = begins p (drop at ts) ≡ false
Passes p ts at (Some next) = (begins p (drop at ts) ≡ true) × (drop next ts ≡ drop 1 (drop at ts))
