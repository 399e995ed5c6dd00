-- What the words of an accepted text may still break: an upper bound below its lower one, too many variables or constraints, a list too long or an exponent too
-- large, a variable of the wrong type. So reading them as a model finds none of the faults 1, 2, 3, 5, 8, 11 and 18.
use Rattle.std.specs.Prelude.{◌≡◌, Bool, true, List, [], ◌∷◌, ℕ, eqb, take}
use Rattle.integers.specs.Lists.{any}
use Rattle.words.specs.Fault as Fault
use Rattle.words.specs.Answer.{Answer, written}
use Rattle.models.specs.Reading.{read_model}

abbrev pub left_to_check : ℕ → Bool
left_to_check fault = any (eqb fault) (Fault.none ∷ Fault.upper_below_lower ∷ Fault.too_many_variables ∷ Fault.too_many_constraints ∷ Fault.length_outside ∷ Fault.not_declared ∷ [])

abbrev pub ModelWords : Answer → List ℕ → Type 0
ModelWords answer out = (n : ℕ) → answer ≡ written n → left_to_check (read_model (take n out)).number ≡ true
