-- Which names are plain, and which are in use.
use Rattle.std.specs.Prelude.{◌≡◌, Bool, true, false, ◌&&◌, ◌||◌, List, [], ◌∷◌, ℕ, leb, eqb, length, Vec}
use Rattle.std.specs.BTreeSet.{BTreeSet, contains_by}
use Rattle.std.specs.Ordering.{nat_cmp}
use Rattle.std.specs.Cmp.Lexicographic.{slice_cmp}

abbrev pub between : ℕ → ℕ → ℕ → Bool
between low high b = leb low b && leb b high

abbrev pub is_letter : ℕ → Bool
is_letter b = between 65 90 b || between 97 122 b

-- a letter, a digit or _
abbrev pub in_name : ℕ → Bool
in_name b = is_letter b || between 48 57 b || eqb b 95

abbrev pub all_in_name : List ℕ → Bool
all_in_name [] = true
all_in_name (b ∷ bs) = in_name b && all_in_name bs

-- at most 32 letters, digits and _, a letter first
abbrev pub is_plain : List ℕ → Bool
is_plain [] = false
is_plain (b ∷ bs) = is_letter b && (leb (length (b ∷ bs)) 32 && all_in_name (b ∷ bs))

-- whether a name is among those in use
abbrev pub has : {A : Type 0} → BTreeSet (Vec ℕ A) → List ℕ → Bool
has used bs = contains_by (λ k. slice_cmp nat_cmp bs k.items) used

-- a name that was free is in use, with all that were before
pub record FreshName {A : Type 0} (old new : BTreeSet (Vec ℕ A)) (bs : List ℕ) : Type 0 where
  pub plain : is_plain bs ≡ true
  pub free : has old bs ≡ false
  pub taken : has new bs ≡ true
  pub kept : (cs : List ℕ) → has old cs ≡ true → has new cs ≡ true
