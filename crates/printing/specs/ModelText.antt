-- The FlatZinc text of a model's words: a line an item, as 02, wish 8, reads them. What the reader of models has due at a word, and the word, give its text.
use Rattle.std.specs.Prelude.{Bool, List, [], ◌∷◌, ◌++◌, map, ℕ, ◌+◌, ◌-◌, ltb, leb, eqb, length, get_or}
use Prim.Native.Char.{code as byte}
use Rattle.integers.specs.Choice.{◌if◌else◌}
use Rattle.integers.specs.Lists.{any}
use Rattle.words.specs.Word.{kind, payload, signed}
use Rattle.words.specs.Kind as Kind
use Rattle.decimals.specs.Decimal.{decimal, numeral}
use Rattle.models.specs.Shape as Shape
use Rattle.models.specs.Shape.{argument}
use Rattle.models.specs.Reading.{State, after, begin}
use Rattle.models.specs.declared.Due.{Due}
use Rattle.models.specs.declared.Due.TheVariants.{Start, Upper, Arguments, Ended}
use Rattle.tokens.specs.Byte.{bytes}
use Rattle.names.specs.Name.{builtin_names}
use Rattle.grammar.specs.Form.{argument_forms, Form, Missing, One, Many}

-- variable i is called x and i in decimal
unfoldable pub variable_name : ℕ → List ℕ
variable_name i = byte "x" ∷ decimal i

-- by code
unfoldable pub builtin_name : ℕ → List ℕ
builtin_name code = get_or ([] ∷ map bytes builtin_names) code []

-- the end of an item
abbrev pub line : List ℕ
line = byte ";" ∷ byte "\n" ∷ []

-- the byte that opens an argument in brackets, 0 for another
unfoldable pub bracket : Form → ℕ
bracket Missing = 0
bracket (One sort) = 0
bracket (Many opening element closing second) = opening

-- "lists in square brackets, sets in braces": whether the numbers of a code are a set
unfoldable pub takes_set : ℕ → Bool
takes_set code = any (λ form. eqb (bracket form) (byte "{")) (argument_forms code)

unfoldable pub opened : ℕ → List ℕ
opened code = (byte "{" if takes_set code else byte "[") ∷ []

unfoldable pub closed : ℕ → List ℕ
closed code = (byte "}" if takes_set code else byte "]") ∷ []

-- after an argument of a code, before its k-th
unfoldable pub argument_end : ℕ → ℕ → List ℕ
argument_end code k = byte ")" ∷ line if eqb (argument code k) Shape.none else byte "," ∷ []

-- after the last of an argument's numbers, so many variables before the k-th argument; after the last of its variables
unfoldable pub numbers_end : ℕ → ℕ → ℕ → List ℕ
numbers_end code k variables = closed code ++ (byte "," ∷ byte "[" ∷ [] if ltb 0 variables else argument_end code k)

unfoldable pub variables_end : ℕ → ℕ → List ℕ
variables_end code k = byte "]" ∷ argument_end code k

-- the word at an argument of a shape, before the k-th argument; a list without elements is closed at its length
unfoldable pub argument_text : ℕ → ℕ → ℕ → ℕ → List ℕ
argument_text shape code k w =
    variable_name (payload w) ++ argument_end code k if ltb shape Shape.number
    else numeral (signed w) ++ argument_end code k if leb shape Shape.exponent
    else opened code ++ ([] if ltb 0 (payload w) else numbers_end code k 0) if eqb shape Shape.numbers
    else byte "[" ∷ ([] if ltb 0 (payload w) else byte "]" ∷ byte "," ∷ byte "[" ∷ variables_end code k) if eqb shape Shape.parallel
    else byte "[" ∷ ([] if ltb 0 (payload w) else variables_end code k)

-- a constraint's head, or the end
unfoldable pub head_text : ℕ → List ℕ
head_text w = bytes "constraint " ++ (builtin_name (payload w) ++ (byte "(" ∷ [])) if eqb (kind w) Kind.constraint else bytes "solve satisfy" ++ line

-- the text of a word where this is due, after so many variables
unfoldable pub word_text : Due → ℕ → ℕ → List ℕ
word_text Start v w =
    bytes "var " ++ (numeral (signed w) ++ bytes "..") if eqb (kind w) Kind.lower
    else bytes "var bool: " ++ (variable_name v ++ line) if eqb (kind w) Kind.boolean
    else head_text w
word_text (Upper lower) v w = numeral (signed w) ++ (bytes ": " ++ (variable_name (v - 1) ++ line))
word_text (Arguments numbers variables type code k) v w =
    numeral (signed w) ++ (byte "," ∷ [] if ltb 1 numbers else numbers_end code k variables) if ltb 0 numbers
    else variable_name (payload w) ++ (byte "," ∷ [] if ltb 1 variables else variables_end code k) if ltb 0 variables
    else head_text w if eqb (argument code k) Shape.none
    else argument_text (argument code k) code (k + 1) w
word_text Ended v w = []

unfoldable pub text_from : State → List ℕ → List ℕ
text_from s [] = []
text_from s (w ∷ ws) = word_text s.due (length s.types) w ++ text_from (after s w) ws

unfoldable pub model_text : List ℕ → List ℕ
model_text ws = text_from begin ws
