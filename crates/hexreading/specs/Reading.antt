-- Reading words in hexadecimal, byte by byte.
use Rattle.std.specs.Prelude.{Bool, false, not, ◌&&◌, ◌||◌, ℕ, ◌+◌, ◌-◌, ◌*◌, ◌%◌, ◌^◌, eqb, leb, min, Option, None, Some, Result, Ok, Err}
use Prim.Native.Char.{code}
use Rattle.integers.specs.Choice.{◌if◌else◌}
use Rattle.hexreading.specs.declared.Begun.{Begun}
use Rattle.hexreading.specs.declared.Step.{Step}
use Rattle.hexreading.specs.declared.Wrong.{Wrong}
use Rattle.hexreading.specs.declared.Wrong.TheVariants.{Digits, Byte}

-- the number that a digit says, in capital or small letters
abbrev pub digit_of : ℕ → Option ℕ
digit_of b =
    Some (b - code "0") if leb (code "0") b && leb b (code "9")
    else Some (b - code "A" + 10) if leb (code "A") b && leb b (code "F")
    else Some (b - code "a" + 10) if leb (code "a") b && leb b (code "f")
    else None

-- blanks, tabs, carriage returns and line feeds
abbrev pub is_blank : ℕ → Bool
is_blank b = eqb b (code " ") || eqb b (code "\t") || eqb b (code "\r") || eqb b (code "\n")

-- the word that ends at a place: eight digits, or none stand before it
abbrev pub ended : Begun → ℕ → Result (Option ℕ) Wrong
ended s place =
    Ok None if eqb s.digits 0
    else Ok (Some s.word) if eqb s.digits 8
    else Err (Digits (place - s.digits) s.digits)

abbrev pub with_word : Bool → Result (Option ℕ) Wrong → Result Step Wrong
with_word comment (Ok word) = Ok (record { word = word; begun = record { comment = comment; digits = 0; word = 0 } })
with_word comment (Err wrong) = Err wrong

-- a byte that is no digit: a blank or the start of a comment ends a word, every other one is wrong
abbrev pub at_end_of_word : Begun → ℕ → ℕ → Result Step Wrong
at_end_of_word s place b = with_word (eqb b (code "#")) (ended s place) if eqb b (code "#") || is_blank b else Err (Byte place)

abbrev pub with_digit : Begun → ℕ → ℕ → Option ℕ → Result Step Wrong
with_digit s place b None = at_end_of_word s place b
with_digit s place b (Some d) = Ok (record { word = None; begun = record { comment = false; digits = min (s.digits + 1) (2 ^ 64 - 1); word = s.word % 2 ^ 28 * 16 + d } })

-- the next byte: a comment goes on to the end of the line
abbrev pub next : Begun → ℕ → ℕ → Result Step Wrong
next s place b =
    Ok (record { word = None; begun = record { comment = not (eqb b (code "\n")); digits = 0; word = 0 } }) if s.comment
    else with_digit s place b (digit_of b)
