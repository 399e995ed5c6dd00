-- 01, the program "rows": the lines that it prints, in bytes of ASCII. The other programs print theirs alike.
use Rattle.std.specs.Prelude.{List, [], ◌∷◌, ◌++◌, ℕ, eqb, take, Result, Ok, Err}
use Prim.Native.Char.{code}
use Rattle.integers.specs.Choice.{◌if◌else◌}
use Rattle.words.specs.Bytes.{bytes}
use Rattle.words.specs.Fault as Fault
use Rattle.words.specs.Faults.{fault_number}
use Rattle.words.specs.Refusals.{Refusal}
use Rattle.words.specs.declared.fault.Refusal as error
use Rattle.decimals.specs.Decimal.{decimal}
use Rattle.hexadecimal.specs.Digits.{digits}

-- "Above 16,384 row words it prints refusal 16."; sheet and bits say 16 above as many words that they read
abbrev pub program_words : ℕ
program_words = 16384

-- "prints one word a line, eight capital hexadecimal digits"
unfoldable pub word_line : ℕ → List ℕ
word_line w = digits w ++ (code "\n" ∷ [])

unfoldable pub word_lines : List ℕ → List ℕ
word_lines [] = []
word_lines (w ∷ ws) = word_line w ++ word_lines ws

-- "refused" and a blank
abbrev pub refused_word : List ℕ
refused_word = bytes "refused "

-- "A refusal prints one line: "refused", number, place, both decimal, one blank between."
unfoldable pub refusal_line : ℕ → ℕ → List ℕ
refusal_line number place = refused_word ++ (decimal number ++ (code " " ∷ (decimal place ++ (code "\n" ∷ []))))

-- what a program prints: the refusal's line, or where there is none the text
infixr 1 ◌else_print◌
unfoldable pub ◌else_print◌ : Refusal → List ℕ → List ℕ
r else_print text = text if eqb r.number Fault.none else refusal_line r.number r.place

-- the same of what a call answers that writes words to the front of a list
unfoldable pub answer_lines : Result ℕ error.Refusal → List ℕ → List ℕ
answer_lines (Ok n) list = word_lines (take n list)
answer_lines (Err r) list = refusal_line (fault_number r.fault) r.place
