-- What each fault says of the call's answer, in their order; else the values are written.
use Rattle.std.proofs.Common.{◌≡◌, sym, ap, ap₂, List, map, ℕ, ◌≤◌, ◌<◌, arith, ℤ, pos, length, lt-ltb, le-ltb, ne_eqb}
use Rattle.integers.specs.Lists.{list_of}
use Rattle.integers.specs.Terms.{value}
use Rattle.integers.proofs.Lists.{all_or_past}
use Rattle.words.specs.Overlay.{overlay}
use Rattle.words.specs.Variables.{variables}
use Rattle.words.specs.Refusal.{◌at_place◌, accepted, ◌else_refuse◌, room_fault}
use Rattle.words.specs.Answer.{refused, written, ◌else_answer◌}
use Rattle.words.specs.Refusals.{Refusal}
use Rattle.words.proofs.Answers.{first-answers}
use Rattle.words.proofs.Reading.{some-fault}
use Rattle.rowsystems.specs.Reading.{read_rows}
use Rattle.bitforms.specs.BitForm.{bit_count}
use Rattle.bitforms.specs.FormAnswer.{size_fault}
use Rattle.bitforms.specs.OverBits.{evaluate}
use Rattle.bittables.specs.BitTables.{firsts, encoding_by}
use Rattle.bitanswers.specs.BitFaults.{bits_fault}
use Rattle.bitanswers.specs.ReadValues.{read_values, bit_values_fault, bit_values, bit_valued}
use Rattle.bitanswers.proofs.Faults.{bits-passed}
use Rattle.bittables.specs.declared.table.BitVariable.{BitVariable}
use Rattle.integers.specs.declared.Bounds.{Bounds}
use Rattle.bitreading.specs.FineBits.{FineBits}
use Rattle.bitreading.specs.BitsGiven.{bits_in, bits_fault_by, BitsKept}
use Rattle.bitvalues.specs.Answered.{Answered}

module _ (ws bs : List ℕ) (out : List ℤ) where
  refuses : (n p : ℕ) (after : Refusal) → (n ≡ 0 → ⊥) → bit_values_fault ws bs (length out) ≡ (n at_place p else_refuse after) → Answered ws bs out out (refused n p)
  unfolding bit_values bit_valued ◌else_refuse◌
  refuses n p after f e = record { says = rw e (first-answers n p after _ f); holds = rw (e, ← some-fault n p after f, ne_eqb n 0 f) }

  pub stands : (r : Refusal) → r ≡ read_rows ws → (r.number ≡ 0 → ⊥) → Answered ws bs out out (refused r.number r.place)
  unfolding bit_values_fault bits_fault ◌else_refuse◌
  stands r e f =
      let room = room_fault (length out) (length (variables ws)) in
      let same : bits_fault ws bs ≡ r.number at_place r.place = rw (← e) (sym (some-fault r.number r.place _ f)) in
      refuses r.number r.place room f (ap (λ x. x else_refuse room) same)

  module _ (z : read_rows ws ≡ accepted) {n : ℕ} (count : n ≡ bit_count ws) where
    same-fault : bits_fault ws bs ≡ bits_fault_by n bs
    unfolding bits_fault bits_fault_by size_fault ◌else_refuse◌
    same-fault = rw (z, count)

    pub not-bits : (r : Refusal) → r ≡ bits_fault_by n bs → (r.number ≡ 0 → ⊥) → Answered ws bs out out (refused r.number r.place)
    unfolding bit_values_fault
    not-bits r e f = refuses r.number r.place (room_fault (length out) (length (variables ws))) f (rw (same-fault, ← e))

    module _ (r : Refusal) (e : r ≡ bits_fault_by n bs) (none : r.number ≡ 0) where
      pub no_bits_fault : (bits_fault ws bs).number ≡ 0
      no_bits_fault = rw (same-fault, ← e) none

      pub fine-bits : FineBits bs
      fine-bits = all_or_past (λ b. b < 2) bs 0 (bits-passed ws bs no_bits_fault).fine (omega arith)

      pub too_short : length out < length (variables ws) → Answered ws bs out out (refused 16 0)
      unfolding bit_values_fault room_fault ◌else_refuse◌
      too_short l = refuses 16 0 accepted (λ x. omega arith) (rw (no_bits_fault, lt-ltb (length out) (length (variables ws)) l))

      pub writes : length (variables ws) ≤ length out → Answered ws bs out (overlay out 0 (read_values ws (map pos bs))) (written (length (variables ws)))
      unfolding bit_values bit_valued bit_values_fault room_fault ◌else_refuse◌ ◌else_answer◌
      writes l = let k = le-ltb (length out) (length (variables ws)) l in record { says = rw (no_bits_fault, k); holds = rw (no_bits_fault, k) }

-- the values by the lists are the row system's
pub values-by : (ws bs : List ℕ) {Ds : List Bounds} {bits : List BitVariable} {n start all : ℕ} → BitsKept ws Ds bits n start all →
    list_of (λ v. evaluate (bits_in bs) (encoding_by Ds (firsts bits) v)) n ≡ read_values ws (map pos bs)
unfolding read_values
values-by ws bs k = ap₂ (λ E m. list_of (λ v. evaluate (value (map pos bs)) (E v)) m) k.same_encodings k.as_many
