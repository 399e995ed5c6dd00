-- The name that the model has for an element of an output array: NAME[INDEX,..], by its index sets, of which the last changes fastest.
use Rattle.std.specs.Prelude.{List, [], ◌∷◌, ◌++◌, ℕ, ◌+◌, ◌-◌, ◌^◌, ◌/◌, ◌%◌, ltb, eqb, ℤ, pos, ◌+ℤ◌, ◌-ℤ◌, min, unsigned_abs, length, reverse, Option, Some, None, option_map, codes}
use Rattle.std.specs.Int.{saturate_signed, w64}
use Rattle.std.specs.Fmt.{signed_decimal}
use Rattle.integers.specs.Choice.{◌if◌else◌}
use Rattle.flatplaces.specs.declared.annotations.IndexSet.{IndexSet}

-- how many indices a set has, and the index at an offset from its lower end, in 64 bits
abbrev pub size : IndexSet → ℕ
size s = min (unsigned_abs (s.upper -ℤ s.lower) + 1) (2 ^ 64 - 1)

abbrev pub index_at : IndexSet → ℕ → ℤ
index_at s offset = saturate_signed w64 (s.lower +ℤ pos offset)

-- of the k-th element, the last one first, as the sets stand; none beyond the last element
abbrev pub indices : List IndexSet → ℕ → Option (List ℤ)
indices [] k = Some [] if eqb k 0 else None
indices (s ∷ ss) k = option_map (λ is. index_at s (k % size s) ∷ is) (indices ss (k / size s))

-- numbers with commas between them
abbrev pub more : List ℤ → List ℕ
more [] = []
more (n ∷ ns) = codes "," ++ (signed_decimal n ++ more ns)

abbrev pub joined : List ℤ → List ℕ
joined [] = []
joined (n ∷ ns) = signed_decimal n ++ more ns

-- an array of more than 16 index sets, or with a name of more than 1,024 bytes, has none
abbrev pub element_name : List ℕ → List IndexSet → ℕ → Option (List ℕ)
element_name name sets k =
    None if eqb (length sets) 0
    else None if ltb 16 (length sets)
    else None if ltb 1024 (length name)
    else option_map (λ is. name ++ codes "[" ++ joined (reverse is) ++ codes "]") (indices sets k)
