-- The variables of accepted words, in order: sources and auxiliaries alike.
use Rattle.std.specs.Prelude.{Bool, ◌||◌, List, [], ◌∷◌, ℕ, eqb}
use Rattle.integers.specs.Choice.{◌if◌else◌}
use Rattle.integers.specs.Bounds.{◌to◌, bit}
use Rattle.integers.specs.declared.Bounds.{Bounds}
use Rattle.words.specs.Kind as Kind
use Rattle.words.specs.Word.{kind, signed, word_at}

-- whether a word is the lower bound of a variable
unfoldable pub starts_pair : ℕ → Bool
starts_pair w = eqb (kind w) Kind.lower || eqb (kind w) Kind.auxiliary_lower

-- 01, Words: a lower and an upper bound for each word of kind 1 or 8, the bounds 0 and 1 for each word of kind 3
unfoldable pub variables : List ℕ → List Bounds
variables [] = []
variables (w ∷ ws) =
    let rest = variables ws in
    (signed w to signed (word_at ws 0)) ∷ rest if starts_pair w
    else bit ∷ rest if eqb (kind w) Kind.boolean
    else rest
