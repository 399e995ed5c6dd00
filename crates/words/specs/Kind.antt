-- 01, Words: the kinds of a model's words and of a row system's words.
use Rattle.std.specs.Prelude.{ℕ}

-- "1 lower bound of an integer variable (signed), always followed by 2, its upper bound; 3 a Boolean variable"
abbrev pub lower : ℕ
lower = 1

abbrev pub upper : ℕ
upper = 2

abbrev pub boolean : ℕ
boolean = 3

-- "4 a constraint, payload its code; 5 a variable argument, payload its number from 0; 6 a number argument (signed); 7 the end"
abbrev pub constraint : ℕ
constraint = 4

abbrev pub variable : ℕ
variable = 5

abbrev pub number : ℕ
number = 6

abbrev pub model_end : ℕ
model_end = 7

-- "8 and 9 lower and upper bound of an auxiliary; A a row "sum ≤ 0" and B "sum = 0", payload the number of terms, ..; C a product, ..; F the end"
abbrev pub auxiliary_lower : ℕ
auxiliary_lower = 8

abbrev pub auxiliary_upper : ℕ
auxiliary_upper = 9

abbrev pub at_most : ℕ
at_most = 10

abbrev pub equal : ℕ
equal = 11

abbrev pub product : ℕ
product = 12

abbrev pub rows_end : ℕ
rows_end = 15
