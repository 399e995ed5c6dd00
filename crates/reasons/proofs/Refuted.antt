-- What TrueReason is worth: it is false of wrong reasons, for models of 1 and 2 variables, without and with auxiliaries.
use Rattle.std.proofs.Common.{◌≡◌, refl, sym, ap, ◌∙◌, true, false, List, [], ◌∷◌, ℕ, ◌+◌, ◌*◌, arith, ℤ, pos}
use Rattle.integers.specs.Number.{◌≟◌, +0, +1, +2, -1, -2}
use Rattle.integers.specs.Terms.{value}
use Rattle.integers.proofs.Tests.{false-true, says-equal}
use Rattle.words.specs.Answer.{Answer, refused, counts, written, holds, out_of_bounds, is_false}
use Rattle.models.specs.Meaning.{meaning}
use Rattle.models.specs.Model.{builtin}
use Rattle.sharing.proofs.OnWords.{on_words}
use Rattle.sharing.proofs.WrongSystems.{at_most_0, of_0_and_1}
use Rattle.reasons.specs.Reason.{Reason, outside, none, because, explained}
use Rattle.reasons.specs.Behind.{source_values, rows_before, TrueReason}

-- judge-rows' answer as a number
abbrev said : Answer → ℤ
said (refused n p) = -1
said (counts v c a r w) = -1
said (written n) = -1
said holds = -2
said (out_of_bounds i) = pos (2 * i)
said (is_false k) = pos (2 * k + 1)

other : {a b : Answer} → (said a ≟ said b) ≡ false → a ≡ b → ⊥
other f e = false-true (sym f ∙ (says-equal _ _).1 (ap said e))

-- two variables, the first and the second at most 0
abbrev two_rows : List ℕ
two_rows =
    0x30000000 ∷ 0x30000000 ∷ 0x4000000B ∷ 0x60000001 ∷ 0x60000001 ∷ 0x50000000 ∷ 0x60000000 ∷ 0x4000000B ∷ 0x60000001 ∷ 0x60000001 ∷ 0x50000001 ∷ 0x60000000 ∷ 0x70000000 ∷ []

abbrev Told : List ℕ → List ℤ → Reason → Type 0
Told model vs r = TrueReason model vs r → ⊥

-- the values 1 and 0, 1: a row is false, 0 and 1, of the constraint 0 and 1, whose builtin is false. No reason; a value out of bounds; another row; another
-- constraint; a builtin that is true
one : Told (at_most_0 0) (+1 ∷ []) none × Told (at_most_0 0) (+1 ∷ []) (outside 0) × Told (at_most_0 0) (+1 ∷ []) (because 1 0 false) × Told (at_most_0 0) (+1 ∷ []) (because 0 1 false) × Told (at_most_0 0) (+1 ∷ []) (because 0 0 true)
unfolding on_words
one = (other refl, other refl, λ h. other refl h.named, λ h. h.placed, λ h. false-true (sym (h.said ∙ ap (λ c. meaning (value (source_values (at_most_0 0) (+1 ∷ []))) (builtin c)) (sym h.placed))))

two : Told two_rows (+0 ∷ +1 ∷ []) none × Told two_rows (+0 ∷ +1 ∷ []) (outside 1) × Told two_rows (+0 ∷ +1 ∷ []) (because 0 0 false) × Told two_rows (+0 ∷ +1 ∷ []) (because 1 0 false) × Told two_rows (+0 ∷ +1 ∷ []) (because 1 1 true)
unfolding on_words rows_before explained
two = (
  other refl,
  other refl,
  λ h. other refl h.named,
  λ h. omega (arith, h.before),
  λ h. false-true (sym (h.said ∙ ap (λ c. meaning (value (source_values two_rows (+0 ∷ +1 ∷ []))) (builtin c)) (sym h.placed))),
)

-- the first failing row is named, and the first constraint has it
not_the_first : Told two_rows (+1 ∷ +1 ∷ []) (because 1 1 false) × Told two_rows (+1 ∷ +1 ∷ []) (because 0 1 false)
unfolding on_words rows_before explained
not_the_first = (λ h. other refl h.named, λ h. omega (arith, h.from))

-- the bits of the value 1 with the value 0: the builtin is true, and a bit is wrong
wrong_bits : Told (of_0_and_1 0) (+0 ∷ +0 ∷ +1 ∷ []) (because 1 0 false) × Told (of_0_and_1 0) (+0 ∷ +0 ∷ +1 ∷ []) (because 0 0 true) × Told (of_0_and_1 1) (+0 ∷ +1 ∷ +0 ∷ +1 ∷ []) (because 1 0 false)
unfolding on_words
wrong_bits = (
  λ h. false-true (h.said ∙ ap (λ c. meaning (value (source_values (of_0_and_1 0) (+0 ∷ +0 ∷ +1 ∷ []))) (builtin c)) (sym h.placed)),
  λ h. other refl h.named,
  λ h. false-true (h.said ∙ ap (λ c. meaning (value (source_values (of_0_and_1 1) (+0 ∷ +1 ∷ +0 ∷ +1 ∷ []))) (builtin c)) (sym h.placed)),
)

-- a value out of bounds, and values that satisfy all rows: no reason, another variable, a row
out_of_bounds_too : Told (at_most_0 0) (+2 ∷ []) none × Told (at_most_0 1) (+0 ∷ +2 ∷ []) (outside 0) × Told (at_most_0 0) (+2 ∷ []) (because 0 0 false) × Told (at_most_0 0) (+0 ∷ []) (outside 0) × Told (at_most_0 1) (+0 ∷ +1 ∷ []) (because 0 0 false)
unfolding on_words
out_of_bounds_too = (other refl, other refl, λ h. other refl h.named, other refl, λ h. other refl h.named)
