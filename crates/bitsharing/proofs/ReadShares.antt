-- Bits at which the form is 0 read as values that satisfy the model; and what the answers say.
use Rattle.std.proofs.Common.{◌≡◌, sym, ap, ◌∙◌, subst, List, map, ℕ, ◌≤◌, arith, ℤ, pos, length, length-append, take, get_or-take, length-take-le}
use Rattle.integers.specs.Number.{+0}
use Rattle.integers.specs.Terms.{value}
use Rattle.words.specs.Answer.{Answer}
use Rattle.words.specs.Variables.{variables}
use Rattle.rules.specs.Translation.{bounds, system_words, auxiliaries}
use Rattle.sharing.specs.SharedSolutions.{Passes, SatisfiesModel}
use Rattle.sharing.proofs.Theorem.{same-bounds}
use Rattle.bitforms.proofs.Theorem.{form-energy}
use Rattle.bitsharing.proofs.Theorem.{model-solutions}
use Rattle.bitanswers.specs.BitEnergy.{energy_at, EnergyAnswer, bit_energy}
use Rattle.bitanswers.specs.ReadValues.{read_values, bit_values, bit_valued}
use Rattle.bitanswers.proofs.Faults.{Passed}
use Rattle.bitanswers.proofs.ReadValues.{values_length, values-at, are_bits, bits_are, reads_as, values-written}
use Rattle.bitanswers.proofs.Energy.{energy-answered}
use Rattle.bitsharing.specs.ReadShares.{ReadsModel, ValuesShare, EnergyShares}

few : (model : List ℕ) → Passes model → length (variables model) ≤ length (variables (system_words model))
unfolding auxiliaries bounds
few model passes = omega (arith, ap length (same-bounds model passes) ∙ length-append (variables model) _)

reads-model : (model bs : List ℕ) → Passes model → Passed (system_words model) bs → energy_at (system_words model) bs ≡ +0 →
    SatisfiesModel model (take (length (variables model)) (read_values (system_words model) (map pos bs)))
unfolding value energy_at
reads-model model bs passes p z =
    let ws = system_words model in
    let zs = map pos bs in
    let n = length (variables model) in
    let all = read_values ws zs in
    let f = few model passes in
    let l : n ≤ length all = omega (arith, values_length ws zs) in
    (model-solutions model passes (take n all) (length-take-le n all l)).1 (
      zs,
      (
        are_bits ws bs p,
        λ v h. values-at ws zs v (omega arith) ∙ sym (get_or-take n all v +0 h),
        form-energy ws (value zs) (bits_are ws bs p) ∙ z,
      ),
    )

-- of words that are a model's row system
reads-models : (ws bs : List ℕ) → Passed ws bs → ReadsModel ws bs (read_values ws (map pos bs))
reads-models ws bs p model passes e =
    subst (λ us. Passed us bs → energy_at us bs ≡ +0 → SatisfiesModel model (take (length (variables model)) (read_values us (map pos bs)))) (sym e) (reads-model model bs passes) p

values-share : (ws bs : List ℕ) (out : List ℤ) → ValuesShare ws bs (bit_values ws bs (length out)) (bit_valued ws bs out)
values-share ws bs out n e = let w = values-written ws bs out n e in rw w.1 (reads_as ws bs w.0, reads-models ws bs w.0)

-- of an answer and an output that are the definitions'
pub values-shared : (ws bs : List ℕ) (before : List ℤ) {after : List ℤ} {answer : Answer} → answer ≡ bit_values ws bs (length before) → after ≡ bit_valued ws bs before → ValuesShare ws bs answer after
values-shared ws bs before e f = rw (e, f) (values-share ws bs before)

pub energy-shared : (ws bs : List ℕ) {answer : EnergyAnswer} → answer ≡ bit_energy ws bs → EnergyShares ws bs answer
energy-shared ws bs e k q = let a = energy-answered ws bs k (sym e ∙ q) in (a.2, a.1, reads-models ws bs a.0)
