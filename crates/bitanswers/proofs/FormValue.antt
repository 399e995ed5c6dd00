-- The value of a form that is written is far below 2^62: no number is beyond the range, and there are at most 1,024 entries for each of 1,024 bits.
use Rattle.std.proofs.Common.{◌≡◌, refl, sym, ap, ◌∙◌, Bool, true, false, List, [], ◌∷◌, map, ℕ, zero, suc, ◌+◌, ◌*◌, ◌≤◌, ◌<◌, arith, ℤ, pos, nat_abs, length, length-append}
use Rattle.integers.specs.Choice.{◌if◌else◌}
use Rattle.integers.specs.Number.{◌⊗◌, ◌≟◌, +0}
use Rattle.integers.specs.Lists.{list_of, all}
use Rattle.integers.specs.Terms.{Valuation, value}
use Rattle.integers.proofs.Bits.{Bit, b0, b1}
use Rattle.integers.proofs.Booleans.{both_true}
use Rattle.integers.proofs.Fits.{plus-size, times-size, mul-le}
use Rattle.integers.proofs.Linear.{◌⊏◌, linear}
use Rattle.integers.proofs.Lists.{list_of-length}
use Rattle.integers.proofs.Tests.{says-lt}
use Rattle.words.specs.Fault as Fault
use Rattle.words.specs.Word.{in_range}
use Rattle.words.specs.Refusal.{accepted, ◌at_place◌, ◌else_refuse◌}
use Rattle.words.specs.Answer.{written, ◌else_answer◌}
use Rattle.words.proofs.ReadBack.{range-near}
use Rattle.rowsystems.specs.Reading.{read_rows}
use Rattle.bitforms.specs.SumOver.{sum_over}
use Rattle.bitforms.specs.Matrix.{Entry, entry_at, entry_of, line_entries, entries_from, not_zero}
use Rattle.bitforms.specs.BitForm.{bit_rows_of, bit_count, form_constant, form_entries}
use Rattle.bitforms.specs.FormWords.{form_words}
use Rattle.bitforms.specs.FormAnswer.{row_fits, size_fault, number_fault, form_fits, bit_form_fault, bit_form}
use Rattle.bitforms.specs.ReadForm.{form_at}
use Rattle.bitforms.proofs.Bits.{Bits}
use Rattle.bitforms.proofs.Theorem.{form-energy}
use Rattle.bitforms.proofs.Written.{says-form}
use Rattle.bitanswers.specs.BitEnergy.{energy_at, energy_fault, EnergyAnswer, energy_is, bit_energy, AnswersForm}
use Rattle.bitanswers.proofs.Faults.{bits-passed, first-passed, few_bits, counted}
use Rattle.bitanswers.proofs.ReadValues.{bits_are}

-- ---- how large a sum over bits is

bit-size : {x : ℤ} → Bit x → nat_abs x ≤ 1
bit-size b0 = omega arith
bit-size b1 = omega arith

entry-size : (v a b : ℤ) → nat_abs v ≤ 134217728 → Bit a → Bit b → nat_abs (v ⊗ a ⊗ b) ≤ 134217728
entry-size v a b l p q =
    let m = mul-le l (bit-size p) in
    let f : nat_abs (v ⊗ a) ≤ 134217728 = omega (arith, m, times-size v a) in
    let n = mul-le f (bit-size q) in
    omega (arith, n, times-size (v ⊗ a) b)

abbrev at_bits : Valuation → Entry → ℤ
at_bits γ x = x.number ⊗ γ x.low ⊗ γ x.high

entries-size : {γ : Valuation} → Bits γ → (xs : List Entry) → all (λ x. in_range x.number) xs ≡ true → nat_abs (sum_over (at_bits γ) xs) ≤ 134217728 * length xs
unfolding sum_over all
entries-size b [] e = omega arith
entries-size {γ} b (x ∷ xs) e =
    let t = both_true (in_range x.number) _ e in
    let h = entry-size x.number (γ x.low) (γ x.high) (omega (arith, range-near x.number t.0)) (b x.low) (b x.high) in
    omega (arith, plus-size (at_bits γ x) (sum_over (at_bits γ) xs), h, entries-size b xs t.1)

-- ---- how many entries

not-zero-few : (xs : List Entry) → length (not_zero xs) ≤ length xs
unfolding not_zero
not-zero-few [] = omega arith
not-zero-few (x ∷ xs) = go (x.number ≟ +0) (not-zero-few xs)
  where
    go : (t : Bool) → length (not_zero xs) ≤ length xs → length (not_zero xs if t else x ∷ not_zero xs) ≤ suc (length xs)
    go true h = omega arith
    go false h = omega arith

entries-few : (e : ℕ → ℕ → ℤ) (i m : ℕ) → m ≤ 1024 → length (entries_from e i m) ≤ 1024 * m
unfolding entries_from line_entries
entries-few e i zero h = omega arith
entries-few e i (suc m) h =
    let a = length-append (list_of (λ d. entry_at i (i + d) (e i (i + d))) (suc m)) (entries_from e (suc i) m) in
    let l = list_of-length (λ d. entry_at i (i + d) (e i (i + d))) (suc m) in
    omega (arith, a, l, entries-few e (suc i) m (omega arith))

-- ---- the value of a form that fits

fits-small : {γ : Valuation} → Bits γ → (ws : List ℕ) → bit_count ws ≤ 1024 → form_fits ws ≡ true → nat_abs (form_at γ (form_constant ws) (form_entries ws)) < 4611686018427387904
unfolding form_fits form_entries
fits-small {γ} b ws few f =
    let xs = form_entries ws in
    let t = (both_true (all (row_fits (bit_count ws)) (bit_rows_of ws)) _ f).1 in
    let u = both_true (in_range (form_constant ws)) _ t in
    let s = entries-size b xs u.1 in
    let n = not-zero-few (entries_from (entry_of (bit_rows_of ws)) 0 (bit_count ws)) in
    let m = entries-few (entry_of (bit_rows_of ws)) 0 (bit_count ws) few in
    omega (arith, plus-size (form_constant ws) (sum_over (at_bits γ) xs), range-near (form_constant ws) u.0, s, n, m)

-- ---- where bits writes a form

wrote-fits : (ws : List ℕ) (room n : ℕ) → bit_form ws room ≡ written n → (bit_count ws ≤ 1024) × (form_fits ws ≡ true)
unfolding bit_form bit_form_fault number_fault ◌else_answer◌
wrote-fits ws room n e =
    let c = counted _ _ (length (form_words ws)) n e in
    let a = first-passed (read_rows ws) _ c.0 in
    let b = first-passed (size_fault ws) _ a.1 in
    let d = first-passed (accepted if form_fits ws else Fault.form_too_large at_place 0) _ b.1 in
    (few_bits ws b.0, fits (form_fits ws) d.0)
  where
    fits : (t : Bool) → (accepted if t else Fault.form_too_large at_place 0).number ≡ 0 → t ≡ true
    fits true z = refl
    fits false z = absurd (omega arith)

pub answers-form : (ws bs : List ℕ) → AnswersForm ws bs (bit_energy ws bs)
unfolding bit_energy energy_fault energy_at ◌else_refuse◌
answers-form ws bs out n w z =
    let g = bits_are ws bs (bits-passed ws bs z) in
    let f = wrote-fits ws (length out) n w in
    let same = form-energy ws (value (map pos bs)) g in
    let t = (says-lt (energy_at ws bs) (pos 4611686018427387904)).1 (below (energy_at ws bs) 4611686018427387904 (rw same at (fits-small g ws f.0 f.1))) in
    rw (z, t) (ap energy_is (sym (says-form ws out n w (map pos bs) ∙ same)))
  where
    below : (x : ℤ) (n : ℕ) → nat_abs x < n → x ⊏ pos n
    below = simp linear (omega arith)

-- of an answer that is the definition's
pub form-answered : (ws bs : List ℕ) {answer : EnergyAnswer} → answer ≡ bit_energy ws bs → AnswersForm ws bs answer
form-answered ws bs e = rw e (answers-form ws bs)
