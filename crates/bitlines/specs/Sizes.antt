-- Sizes that nothing passes on the way, so that no machine number overflows.
use Rattle.std.specs.Prelude.{ℕ}

-- ---- how many bits

-- the weights of any width below 2^62, of a variable or a slack; of a row's own, those of a product; of all variables, counted as 64 for each of 4,096
abbrev pub most_weights : ℕ
most_weights = 62

abbrev pub own_bits : ℕ
own_bits = 3844

abbrev pub all_variable_bits : ℕ
all_variable_bits = 262144

-- numbers of bits, and places of an output: 2^39
abbrev pub farthest : ℕ
farthest = 549755813888

-- ---- how large numbers are

-- the width of a variable: 2^28
abbrev pub widest : ℕ
widest = 268435456

-- a product of two numbers as near to 0 as signed payloads are: 2^54
abbrev pub largest_product : ℕ
largest_product = 18014398509481984

-- what a term of a row adds to a number: a coefficient of 2^27 times a width
abbrev pub largest_term : ℕ
largest_term = 36028797018963968

-- an entry of the square of a row over bits that fits: 3 × 16,384²
abbrev pub largest_entry : ℕ
largest_entry = 805306368

-- what a row adds to a number of a line: 2^40
abbrev pub largest_row : ℕ
largest_row = 1099511627776

-- numbers of a row or line, before the terms of one row more are added: 2^60, an eighth of what a signed machine number holds
abbrev pub sums : ℕ
sums = 1152921504606846976
