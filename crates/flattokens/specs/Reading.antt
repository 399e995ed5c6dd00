-- The tokens of a statement, read from left to right: each runs as far as it can.
use Rattle.std.specs.Prelude.{Bool, false, not, ◌&&◌, ◌||◌, List, [], ◌∷◌, ℕ, zero, suc, ◌+◌, ◌-◌, ◌*◌, eqb, leb, length, take, drop, ℤ, pos, neg_ℤ, Option, Some, None, option_map}
use Prim.Native.Char.{code}
use Rattle.integers.specs.Choice.{◌if◌else◌}
use Rattle.tokens.specs.Byte.{is_digit, in_name, in_comment, front, run}
use Rattle.flattokens.specs.Byte.{is_gap, is_sign, begins_name, begins_digits, begins_number}
use Rattle.flattokens.specs.Token.{Token, name, number, float, text, dots, colons, sign}

-- how many bytes a fraction has at the front: a dot and digits; none is 0
unfoldable pub fraction : List ℕ → ℕ
fraction [] = 0
fraction (b ∷ bs) = 1 + run is_digit bs if eqb b (code ".") && begins_digits bs else 0

-- how many an exponent has: "e" or "E", perhaps a hyphen or a plus, and digits
unfoldable pub hyphen_or_plus : List ℕ → ℕ
hyphen_or_plus bs = 1 if eqb (front bs) (code "-") || eqb (front bs) (code "+") else 0

unfoldable pub exponent : List ℕ → ℕ
exponent [] = 0
exponent (b ∷ bs) =
    let s = hyphen_or_plus bs in
    1 + s + run is_digit (drop s bs) if (eqb b (code "e") || eqb b (code "E")) && begins_digits (drop s bs) else 0

-- how many stand behind the digits of a float
unfoldable pub decimals : List ℕ → ℕ
decimals bs = fraction bs + exponent (drop (fraction bs) bs)

-- a quote that closes a text, and a backslash that escapes the byte behind it: none is escaped itself
unfoldable pub closes : Bool → ℕ → Bool
closes escaped b = eqb b (code "\"") && not escaped

unfoldable pub escapes : Bool → ℕ → Bool
escapes escaped b = eqb b (code "\\") && not escaped

-- how many bytes a text has behind its opening quote, up to the closing one
unfoldable pub text_length : Bool → List ℕ → Option ℕ
text_length escaped [] = None
text_length escaped (b ∷ bs) =
    None if eqb b (code "\n")
    else Some 1 if closes escaped b
    else option_map (λ n. 1 + n) (text_length (escapes escaped b) bs)

-- the number that the digits of n and then these spell
unfoldable pub digits_from : ℕ → List ℕ → ℕ
digits_from n [] = n
digits_from n (b ∷ bs) = digits_from (n * 10 + (b - code "0")) bs

-- the number of at most 17 digits
unfoldable pub digits_value : List ℕ → Option ℕ
digits_value ds = Some (digits_from 0 ds) if leb (length ds) 17 else None

-- the number that a token spells, perhaps with a hyphen
unfoldable pub number_value : List ℕ → Option ℤ
number_value [] = None
number_value (b ∷ bs) =
    option_map (λ n. neg_ℤ (pos n)) (digits_value bs) if eqb b (code "-")
    else option_map (λ n. pos n) (digits_value (b ∷ bs))

-- the token at the front, and how many bytes it has: a name, a number or a float, a text, dots, colons or a sign
unfoldable pub name_at : List ℕ → Option (Token × ℕ)
name_at bs = let n = 1 + run in_name (drop 1 bs) in Some (name (take n bs), n)

unfoldable pub number_at : List ℕ → Option (Token × ℕ)
number_at bs =
    let n = 1 + run is_digit (drop 1 bs) in
    let more = decimals (drop n bs) in
    option_map (λ z. (number z, n)) (number_value (take n bs)) if eqb more 0
    else Some (float (take (n + more) bs), n + more)

unfoldable pub text_at : List ℕ → Option (Token × ℕ)
text_at bs = option_map (λ n. (text (take (1 + n) bs), 1 + n)) (text_length false (drop 1 bs))

unfoldable pub sign_at : List ℕ → Option (Token × ℕ)
sign_at bs =
    Some (dots, 2) if eqb (front bs) (code ".") && eqb (front (drop 1 bs)) (code ".")
    else Some (colons, 2) if eqb (front bs) (code ":") && eqb (front (drop 1 bs)) (code ":")
    else Some (sign (front bs), 1) if is_sign (front bs)
    else None

unfoldable pub token_at : List ℕ → Option (Token × ℕ)
token_at bs =
    name_at bs if begins_name (front bs)
    else number_at bs if begins_number (front bs) (drop 1 bs)
    else text_at bs if eqb (front bs) (code "\"")
    else sign_at bs

-- how many bytes a gap has: a comment up to the line feed, or one
unfoldable pub gap_length : List ℕ → ℕ
gap_length bs = 1 + run in_comment (drop 1 bs) if eqb (front bs) (code "%") else 1

-- a token before those of a statement; a text ends within no statement
abbrev pub before : Token → Option (Option (List Token × List ℕ)) → Option (Option (List Token × List ℕ))
before t (Some (Some x)) = Some (Some (t ∷ x.0, x.1))
before t (Some None) = None
before t None = None

abbrev pub then_more : (ℕ → Option (Option (List Token × List ℕ))) → Option (Token × ℕ) → Option (Option (List Token × List ℕ))
then_more more None = None
then_more more (Some x) = before x.0 (more x.1)

-- the tokens up to the next semicolon and the bytes behind it, after so many bytes that are read already; or that nothing but gaps is left
unfoldable pub statement_from : ℕ → List ℕ → Option (Option (List Token × List ℕ))
statement_from read [] = Some None
statement_from (suc read) (b ∷ bs) = statement_from read bs
statement_from zero (b ∷ bs) =
    statement_from (gap_length (b ∷ bs) - 1) bs if is_gap b
    else Some (Some ([], bs)) if eqb b (code ";")
    else then_more (λ n. statement_from (n - 1) bs) (token_at (b ∷ bs))

unfoldable pub next_statement : List ℕ → Option (Option (List Token × List ℕ))
next_statement = statement_from 0
