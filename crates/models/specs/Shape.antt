-- The arguments of each code as numbers: what the reader expects after a constraint's head word.
use Rattle.std.specs.Prelude.{Bool, List, [], ◌∷◌, map, ℕ, ltb, leb, get_or}
use Rattle.models.specs.Table as Table
use Rattle.models.specs.Table.{Sort, Code, codes}

-- one argument: none is left, a variable of a type, a number, an exponent, a list or a set with its length word.
-- The first three are also the types of a variable that a number names: not declared, integer, Boolean.
abbrev pub none : ℕ
none = 0

abbrev pub integer : ℕ
integer = 1

abbrev pub boolean : ℕ
boolean = 2

abbrev pub number : ℕ
number = 3

abbrev pub exponent : ℕ
exponent = 4

abbrev pub numbers : ℕ
numbers = 5

abbrev pub integers : ℕ
integers = 6

abbrev pub booleans : ℕ
booleans = 7

-- 01, Words: "Parallel lists share one length word: all numbers, then all variables."
abbrev pub parallel : ℕ
parallel = 8

-- of an argument that is not none: whether it is a variable; whether it is one word, with no list after it
abbrev pub is_variable : ℕ → Bool
is_variable arg = ltb arg number

abbrev pub is_one_word : ℕ → Bool
is_one_word arg = leb arg exponent

abbrev pub shape_of : Sort → ℕ
shape_of Table.integer = integer
shape_of Table.boolean = boolean
shape_of Table.number = number
shape_of Table.exponent = exponent
shape_of Table.numbers = numbers
shape_of Table.set = numbers
shape_of Table.integers = integers
shape_of Table.booleans = booleans
shape_of Table.parallel = parallel

-- by code; none for 0, which is no code
unfoldable pub shapes : List (List ℕ)
shapes = [] ∷ map (λ (c : Code). map shape_of c.sorts) codes

-- the k-th argument of a code, counted from 0
unfoldable pub argument : ℕ → ℕ → ℕ
argument code k = get_or (get_or shapes code []) k none
