-- Bytes of a file or a name in an answer: in a string of JSON, and on a terminal.
use Rattle.std.specs.Prelude.{◌||◌, List, [], ◌∷◌, ◌++◌, ℕ, eqb, ltb, leb, take, drop, length, codes}
use Rattle.std.specs.List.{flat_map}
use Prim.Native.Char.{code}
use Rattle.integers.specs.Choice.{◌if◌else◌}
use Rattle.hexadecimal.specs.Digits.{digits}

-- a quote or a backslash after a backslash; what is not printed, and every byte above 126, by its number in four hexadecimal digits
abbrev pub json_byte : ℕ → List ℕ
json_byte b =
    code "\\" ∷ b ∷ [] if eqb b (code "\"") || eqb b (code "\\")
    else codes "\\u" ++ drop 4 (digits b) if ltb b 32 || leb 127 b
    else b ∷ []

abbrev pub json_text : List ℕ → List ℕ
json_text bs = codes "\"" ++ (flat_map json_byte bs ++ codes "\"")

-- of a name, which is UTF-8: a byte above 127 as it is
abbrev pub name_byte : ℕ → List ℕ
name_byte b = b ∷ [] if ltb 127 b else json_byte b

abbrev pub name_text : List ℕ → List ℕ
name_text bs = codes "\"" ++ (flat_map name_byte bs ++ codes "\"")

-- on a terminal: what it does not print by its number in two hexadecimal digits
abbrev pub shown_byte : ℕ → List ℕ
shown_byte b = codes "\\x" ++ drop 6 (digits b) if ltb b 32 || ltb 126 b else b ∷ []

-- a token in a message: at most 40 bytes of it; none is the end of the text
abbrev pub shown_token : List ℕ → List ℕ
shown_token bs =
    codes ", the end of the text" if eqb (length bs) 0
    else codes ", '" ++ (flat_map shown_byte (take 40 bs) ++ codes "..'") if ltb 40 (length bs)
    else codes ", '" ++ (flat_map shown_byte bs ++ codes "'")
