-- Code 23 by 01 and by 02: of lists of at most two, "exactly one is 1" and "an odd number are 1" say the same.
use Rattle.std.proofs.Common.{◌≡◌, refl, Bool, true, false, List, [], ◌∷◌, ℕ, ◌+◌, ◌≤◌, arith, eqb, length}
use Rattle.integers.specs.Choice.{◌if◌else◌}
use Rattle.integers.specs.Lists.{how_many}
use Rattle.integers.specs.Terms.{Valuation}
use Rattle.models.specs.Builtin.{array_bool_xor}
use Rattle.models.specs.Meaning.{meaning, on, odd}

-- 01's meaning: "exactly one is 1"
abbrev pub exactly_one : Valuation → List ℕ → Bool
exactly_one σ xs = eqb (how_many (on σ) xs) 1

-- 02, Wish 5: "lists of one or two keep their solutions", and the empty list its lack of them
pub short_lists_keep : (σ : Valuation) (xs : List ℕ) → length xs ≤ 2 → meaning σ (array_bool_xor xs) ≡ exactly_one σ xs
unfolding meaning odd how_many
short_lists_keep σ [] h = refl
short_lists_keep σ (x ∷ []) h = one (on σ x)
  where
    one : (a : Bool) → odd ((1 if a else 0) + 0) ≡ eqb ((1 if a else 0) + 0) 1
    one true = refl
    one false = refl
short_lists_keep σ (x ∷ y ∷ []) h = two (on σ x) (on σ y)
  where
    two : (a b : Bool) → odd ((1 if a else 0) + ((1 if b else 0) + 0)) ≡ eqb ((1 if a else 0) + ((1 if b else 0) + 0)) 1
    two true true = refl
    two true false = refl
    two false true = refl
    two false false = refl
short_lists_keep σ (x ∷ y ∷ z ∷ xs) h = absurd (omega arith)
