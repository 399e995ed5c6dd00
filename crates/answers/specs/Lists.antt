-- Words, values, solutions and a sheet, as the answers print them.
use Rattle.std.specs.Prelude.{List, [], ◌∷◌, ◌++◌, ℕ, zero, suc, ◌/◌, ◌%◌, ℤ, codes, take, drop}
use Rattle.std.specs.List.{flat_map}
use Rattle.std.specs.Fmt.{signed_decimal}
use Rattle.hexadecimal.specs.Digits.{digits}
use Rattle.answers.specs.declared.Style.{Style}
use Rattle.answers.specs.declared.Style.TheVariants.{Text, Json}
use Rattle.answers.specs.Escaped.{json_text}
use Rattle.answers.specs.Said.{Said, printed_said}

-- parts with a separator between them
abbrev pub separated : {A : Type 0} → List ℕ → (A → List ℕ) → List A → List ℕ
separated between part [] = []
separated between part (x ∷ xs) = part x ++ flat_map (λ y. between ++ part y) xs

-- ---- words

-- in eight hexadecimal digits, on a line; in quotes; as four bytes, the lowest first
abbrev pub word_line : ℕ → List ℕ
word_line w = digits w ++ codes "\n"

abbrev pub quoted_word : ℕ → List ℕ
quoted_word w = codes "\"" ++ (digits w ++ codes "\"")

abbrev pub word_bytes : ℕ → List ℕ
word_bytes w = w % 256 ∷ w / 256 % 256 ∷ w / 65536 % 256 ∷ w / 16777216 ∷ []

abbrev pub words_said : Style → List ℕ → Said
words_said Text ws = printed_said (flat_map word_line ws) 0
words_said Json ws = printed_said (codes "{\"answer\":\"done\",\"words\":[" ++ (separated (codes ",") quoted_word ws ++ codes "]}\n")) 0

abbrev pub bytes_said : List ℕ → Said
bytes_said ws = printed_said (flat_map word_bytes ws) 0

-- ---- values

abbrev pub values_said : Style → List ℤ → Said
values_said Text vs = printed_said (separated (codes " ") signed_decimal vs ++ codes "\n") 0
values_said Json vs = printed_said (codes "{\"answer\":\"holds\",\"values\":[" ++ (separated (codes ",") signed_decimal vs ++ codes "]}\n")) 0

-- so many lists of n values, one after another
abbrev pub lists_of : ℕ → ℕ → List ℤ → List (List ℤ)
lists_of zero n vs = []
lists_of (suc count) n vs = take n vs ∷ lists_of count n (drop n vs)

-- a list of values between its marks
abbrev pub list_text : List ℕ → List ℕ → List ℕ → List ℤ → List ℕ
list_text before between after vs = before ++ (separated between signed_decimal vs ++ after)

abbrev pub solutions_said : Style → List (List ℤ) → Said
solutions_said Text lists = printed_said (flat_map (list_text [] (codes " ") (codes "\n")) lists) 0
solutions_said Json lists = printed_said (codes "{\"answer\":\"done\",\"solutions\":[" ++ (separated (codes ",") (list_text (codes "[") (codes ",") (codes "]")) lists ++ codes "]}\n")) 0

-- ---- a sheet

abbrev pub sheet_said : Style → List ℕ → Said
sheet_said Text page = printed_said page 0
sheet_said Json page = printed_said (codes "{\"answer\":\"done\",\"sheet\":" ++ (json_text page ++ codes "}\n")) 0
