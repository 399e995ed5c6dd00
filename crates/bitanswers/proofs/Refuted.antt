-- What BitsRead and AnswersForm are worth: each is false of wrong bits and of a wrong energy, for row systems of 1 and 2 variables.
use Rattle.std.proofs.Common.{◌≡◌, refl, sym, ap, ◌∙◌, false, List, [], ◌∷◌, ◌++◌, ℕ, arith, ℤ, pos, negsuc, length, replicate}
use Rattle.integers.specs.Number.{◌≟◌, +0, +1}
use Rattle.integers.specs.Terms.{value}
use Rattle.integers.proofs.Tests.{false-true, says-equal}
use Rattle.words.specs.Answer.{written, refused, refusal_number}
use Rattle.bitanswers.specs.BitEnergy as Energy
use Rattle.bitanswers.specs.BitEnergy.{EnergyAnswer, energy_is, AnswersForm}
use Rattle.bitanswers.specs.BitsAnswer.{BitsRead}
use Rattle.bitanswers.proofs.OnBits.{on_bits}

-- n Boolean variables, then one in 0..1, x, and the row x≤0, which needs no slack
abbrev rows_of : ℕ → List ℕ → List ℕ
rows_of n variable = replicate n 0x30000000 ++ (0x10000000 ∷ 0x20000001 ∷ 0xA0000001 ∷ variable ++ (0x60000001 ∷ 0x60000000 ∷ 0xF0000000 ∷ []))

abbrev one : List ℕ
one = rows_of 0 (0x50000000 ∷ [])

abbrev two : List ℕ
two = rows_of 1 (0x50000001 ∷ [])

different : {a b : ℤ} → (a ≟ b) ≡ false → a ≡ b → ⊥
different {a} {b} f e = false-true (sym f ∙ (says-equal a b).1 e)

-- the energy that is answered, −1 for a refusal
abbrev said : EnergyAnswer → ℤ
said (Energy.refused n p) = negsuc 0
said (energy_is e) = e

-- an output
abbrev room : List ℕ
room = replicate 12 7

-- ---- BitsRead: of the values 0 and 1, 0 the bits are 0 and 1, 0, in front of other bytes

abbrev Bits : List ℕ → List ℤ → List ℕ → Type 0
Bits ws vs bs = BitsRead ws vs (written (length bs)) (bs ++ (7 ∷ []))

-- a bit is the other: the bits read as another value, at which the form is 1, and which comes back
flipped : (Bits one (+0 ∷ []) (1 ∷ []) → ⊥) × (Bits two (+1 ∷ +0 ∷ []) (0 ∷ 0 ∷ []) → ⊥)
unfolding on_bits
flipped = (λ h. different refl ((h _ refl).0.read_as 0 (omega arith)), λ h. different refl ((h _ refl).0.read_as 0 (omega arith)))

form_not_zero : (Bits one (+0 ∷ []) (1 ∷ []) → ⊥) × (Bits two (+1 ∷ +0 ∷ []) (1 ∷ 1 ∷ []) → ⊥)
unfolding on_bits
form_not_zero = (λ h. different refl (h _ refl).0.form_zero, λ h. different refl (h _ refl).0.form_zero)

other_values_back : (Bits one (+0 ∷ []) (1 ∷ []) → ⊥) × (Bits two (+1 ∷ +0 ∷ []) (0 ∷ 0 ∷ []) → ⊥)
unfolding on_bits
other_values_back = (
  λ h. different refl (ap (λ l. value l 0) ((h _ refl).1.values_back (pos 7 ∷ pos 7 ∷ []) (omega arith))),
  λ h. different refl (ap (λ l. value l 0) ((h _ refl).1.values_back (pos 7 ∷ pos 7 ∷ pos 7 ∷ []) (omega arith))),
)

other_energy_back : (Bits one (+0 ∷ []) (1 ∷ []) → ⊥) × (Bits two (+1 ∷ +0 ∷ []) (1 ∷ 1 ∷ []) → ⊥)
unfolding on_bits
other_energy_back = (λ h. different refl (ap said (h _ refl).1.energy_back), λ h. different refl (ap said (h _ refl).1.energy_back))

-- a byte is no bit; a bit too many, which is refused when it comes back; a bit too few
no_bit : (Bits one (+0 ∷ []) (2 ∷ []) → ⊥) × (Bits two (+1 ∷ +0 ∷ []) (3 ∷ 0 ∷ []) → ⊥)
unfolding on_bits
no_bit = (λ h. false-true (h _ refl).0.are_bits.zero_or_one, λ h. false-true (h _ refl).0.are_bits.zero_or_one)

too_many : (Bits one (+0 ∷ []) (0 ∷ 0 ∷ []) → ⊥) × (Bits two (+1 ∷ +0 ∷ []) (1 ∷ 0 ∷ 0 ∷ []) → ⊥)
unfolding on_bits refusal_number
too_many = (
  λ h. different refl (ap (λ a. pos (refusal_number a)) ((h _ refl).1.answer_back 4 (omega arith))),
  λ h. different refl (ap (λ a. pos (refusal_number a)) ((h _ refl).1.answer_back 4 (omega arith))),
)

too_few : (Bits one (+0 ∷ []) [] → ⊥) × (Bits two (+1 ∷ +0 ∷ []) (1 ∷ []) → ⊥)
unfolding on_bits
too_few = (λ h. different refl (ap pos (h _ refl).0.are_bits.one_each), λ h. different refl (ap pos (h _ refl).0.are_bits.one_each))

-- ---- AnswersForm: bits that the form is 1 at have another energy, or are refused with 24

energies : (AnswersForm one (1 ∷ []) (energy_is +0) → ⊥) × (AnswersForm two (0 ∷ 1 ∷ []) (energy_is (pos 2)) → ⊥) × (AnswersForm two (0 ∷ 0 ∷ []) (energy_is +1) → ⊥)
unfolding on_bits
energies = (
  λ h. different refl (ap said (h room _ refl refl)),
  λ h. different refl (ap said (h room _ refl refl)),
  λ h. different refl (ap said (h room _ refl refl)),
)

refusals : (AnswersForm one (1 ∷ []) (Energy.refused 24 0) → ⊥) × (AnswersForm two (0 ∷ 1 ∷ []) (Energy.refused 24 0) → ⊥)
unfolding on_bits
refusals = (λ h. different refl (ap said (h room _ refl refl)), λ h. different refl (ap said (h room _ refl refl)))
