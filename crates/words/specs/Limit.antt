-- The limits of 01 and 02, each named once.
use Rattle.std.specs.Prelude.{ℕ, ℤ, pos, negsuc}
use Rattle.integers.specs.Bounds.{◌to◌}
use Rattle.integers.specs.declared.Bounds.{Bounds}

-- 02, wish 2: "The range becomes −134,217,727 to 134,217,727, for models, rows and rule 13."
abbrev pub lowest : ℤ
lowest = negsuc 134217726

abbrev pub highest : ℤ
highest = pos 134217727

abbrev pub range : Bounds
range = lowest to highest

-- 01, Words: "the top 4 are its kind, the low 28 its payload": how many payloads there are, and the last of them
abbrev pub payloads : ℕ
payloads = 268435456

abbrev pub last_payload : ℕ
last_payload = 268435455

-- 01, Words: "Signed payloads are two's complement": from 2^27 on a payload is a negative number, first of all the lowest 28-bit one
abbrev pub half : ℕ
half = 134217728

-- 01, Numbered faults, 1: "More than 8,192 model words, or 131,072 row words"; 02, wish 10: "the limit on row words rises to 262,144"
abbrev pub model_words : ℕ
model_words = 8192

abbrev pub row_words : ℕ
row_words = 262144

-- 01, Numbered faults, 6: "A 257th variable starts in a model."; 7: "A 257th constraint starts."
abbrev pub variables : ℕ
variables = 256

abbrev pub constraints : ℕ
constraints = 256

-- 01, Numbered faults, 9: "A list length is outside 0 to 32, or a term number above 66."
abbrev pub list_length : ℕ
list_length = 32

abbrev pub terms : ℕ
terms = 66

-- 02, wish 13: "k a number from 0 to 27", "A k outside its limits is fault 9."
abbrev pub exponent : ℕ
exponent = 27

-- 01, Numbered faults, 12: "A code 28 needs more than 64 auxiliaries."; 02, wish 7: "also comes when a shared list needs more than 64 auxiliaries"
abbrev pub set_bits : ℕ
set_bits = 64

-- 01, Numbered faults, 14: "Variables and auxiliaries pass 4,096"
abbrev pub in_all : ℕ
in_all = 4096

-- 02, wish 8: "Names have 1 to 32 ASCII letters, digits or _"
abbrev pub name_bytes : ℕ
name_bytes = 32

-- 02, wish 11: "a model with at most 8 variables and at most 65,536 value lists in its bounds"
abbrev pub listed_variables : ℕ
listed_variables = 8

abbrev pub listed_lists : ℕ
listed_lists = 65536

-- 02, wish 14, 23: "more than 1,024 bits"; 24: "a coefficient or constant beyond plus or minus 16,384"
abbrev pub bits : ℕ
bits = 1024

abbrev pub bit_numbers : ℕ
bit_numbers = 16384
