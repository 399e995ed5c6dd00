-- Lists and sets; 02, wish 8: "lists in square brackets, sets in braces".
use Rattle.std.specs.Prelude.{Bool, not, ◌&&◌, ◌||◌, List, [], ◌∷◌, ℕ, ◌+◌, eqb}
use Prim.Native.Char.{code}
use Rattle.integers.specs.Choice.{◌if◌else◌}
use Rattle.tokens.specs.Token.{Token}

-- whether a token of sort s fits in brackets, directly after one of sort `before`: elements with commas between them, or none, then the closing bracket
unfoldable pub fits_inside : ℕ → ℕ → ℕ → ℕ → Bool
fits_inside element closing before s =
    eqb s (code ",") || eqb s closing if eqb before element
    else eqb s element || (eqb s closing && not (eqb before (code ",")))

-- of the tokens after an opening bracket and n elements: 1 more than the number of elements up to the closing bracket, 0 if the grammar breaks before it
unfoldable pub length_from : ℕ → ℕ → ℕ → ℕ → List Token → ℕ
length_from element closing before n [] = 0
length_from element closing before n (t ∷ ts) =
    let rest = length_from element closing t.sort (n + (1 if eqb t.sort element else 0)) ts in
    (n + 1 if eqb t.sort closing else rest) if fits_inside element closing before t.sort else 0
