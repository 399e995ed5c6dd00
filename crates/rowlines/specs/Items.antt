-- The items of a row system for reading.
use Rattle.std.specs.Prelude.{Bool, true, false, List, ◌++◌, ℕ, ℤ, codes, decimal}
use Rattle.std.specs.Fmt.{signed_decimal}

-- the bounds of a variable, after its name
unfoldable pub bounds_line : ℤ → ℤ → Bool → List ℕ
bounds_line lower upper true = codes " in " ++ (signed_decimal lower ++ (codes ".." ++ (signed_decimal upper ++ codes ", auxiliary\n")))
bounds_line lower upper false = codes " in " ++ (signed_decimal lower ++ (codes ".." ++ (signed_decimal upper ++ codes "\n")))

-- a variable as an object of JSON
unfoldable pub bounds_object : ℕ → ℤ → ℤ → Bool → List ℕ
bounds_object number lower upper true =
    codes "{\"variable\":" ++ (decimal number ++ (codes ",\"lower\":" ++ (signed_decimal lower ++ (codes ",\"upper\":" ++ (signed_decimal upper ++ codes ",\"auxiliary\":true}")))))
bounds_object number lower upper false =
    codes "{\"variable\":" ++ (decimal number ++ (codes ",\"lower\":" ++ (signed_decimal lower ++ (codes ",\"upper\":" ++ (signed_decimal upper ++ codes ",\"auxiliary\":false}")))))

-- the front of a row
abbrev pub row_front : ℕ → List ℕ
row_front row = codes "row " ++ (decimal row ++ codes ": ")

unfoldable pub row_object : ℕ → Bool → List ℕ
row_object row true = codes "{\"row\":" ++ (decimal row ++ codes ",\"sign\":\"=\",\"terms\":[")
row_object row false = codes "{\"row\":" ++ (decimal row ++ codes ",\"sign\":\"<=\",\"terms\":[")

unfoldable pub product_object : ℕ → ℕ → ℕ → ℕ → List ℕ
product_object row r f g = codes "{\"row\":" ++ (decimal row ++ (codes ",\"product\":[" ++ (decimal r ++ (codes "," ++ (decimal f ++ (codes "," ++ (decimal g ++ codes "]}")))))))
