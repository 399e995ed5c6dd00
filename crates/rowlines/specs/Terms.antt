-- The terms of a row for reading: "2*x - y + 1", and in JSON [2,0].
use Rattle.std.specs.Prelude.{Bool, true, false, List, [], ◌++◌, ℕ, suc, ℤ, pos, negsuc, eqb, codes, decimal, get_or, unsigned_abs}
use Rattle.std.specs.Int.Signed.{lt_z}
use Rattle.std.specs.Fmt.{signed_decimal}
use Rattle.integers.specs.Choice.{◌if◌else◌}
use Rattle.answers.specs.Named.{variable_text}
use Rattle.answers.specs.declared.named.Variable.{Variable}
use Rattle.rowlines.specs.declared.Names.{Names}

-- a variable by its number
abbrev pub variable_in : Names → ℕ → Variable
variable_in names number = record { number = number; name = get_or names.given.now number names.other }

abbrev pub named_text : Names → ℕ → List ℕ
named_text names number = variable_text (variable_in names number)

-- the sign before a coefficient, whether it is the first
abbrev pub sign_text : Bool → Bool → List ℕ
sign_text true true = codes "-"
sign_text true false = []
sign_text false true = codes " - "
sign_text false false = codes " + "

-- the size of a coefficient, where it is not 1
abbrev pub size_text : ℕ → List ℕ
size_text size = [] if eqb size 1 else decimal size ++ codes "*"

abbrev pub term_text : Names → Bool → ℤ → ℕ → List ℕ
term_text names first c x = sign_text first (lt_z c (pos 0)) ++ (size_text (unsigned_abs c) ++ named_text names x)

unfoldable pub term_pair : ℤ → ℕ → List ℕ
term_pair c x = codes "[" ++ (signed_decimal c ++ (codes "," ++ (decimal x ++ codes "]")))

-- the constant: by itself where there are no terms, else with its sign where it is not 0
abbrev pub constant_text : Bool → ℤ → List ℕ
constant_text true k = signed_decimal k
constant_text false (pos k) = [] if eqb k 0 else codes " + " ++ decimal k
constant_text false (negsuc k) = codes " - " ++ decimal (suc k)
