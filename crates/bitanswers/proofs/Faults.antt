-- What bits without a fault are, and what an answer that counts says of the faults.
use Rattle.std.proofs.Common.{◌≡◌, refl, Bool, true, false, List, [], ◌∷◌, map, ℕ, zero, suc, ◌+◌, ◌≤◌, ◌<◌, arith, ltb, eqb, pos, length, lt-ltb, ltb-true, ltb-false, eqb-true}
use Rattle.integers.specs.Choice.{◌if◌else◌}
use Rattle.integers.proofs.Bits.{Bit, b0, b1}
use Rattle.integers.proofs.Lists.{all-mapped}
use Rattle.integers.proofs.Tests.{All}
use Rattle.words.specs.Fault as Fault
use Rattle.words.specs.Limit as Limit
use Rattle.words.specs.Refusal.{accepted, ◌at_place◌, first_fault, ◌else_refuse◌, room_fault}
use Rattle.words.specs.Answer.{written, refused_or}
use Rattle.words.specs.Refusals.{Refusal}
use Rattle.words.proofs.Reading.{passed-number, read-without}
use Rattle.rowsystems.specs.Reading.{fault, after, ended, begin, read_rows}
use Rattle.bitforms.specs.BitForm.{bit_count}
use Rattle.bitforms.specs.FormAnswer.{size_fault}
use Rattle.bitanswers.specs.BitFaults.{bit_count_fault, bit_fault_from, bits_fault}

-- ---- each fault

pub accepts : (ws : List ℕ) → (read_rows ws).number ≡ 0 → read_rows ws ≡ accepted
unfolding read_rows
accepts ws e = go (ltb Limit.row_words (length ws)) e
  where
    go : (t : Bool) → (Fault.too_many_words at_place 0 if t else first_fault fault after ended begin 0 ws).number ≡ 0 →
        (Fault.too_many_words at_place 0 if t else first_fault fault after ended begin 0 ws) ≡ accepted
    go true e = absurd (omega arith)
    go false e = read-without fault after ended begin 0 ws e

pub few_bits : (ws : List ℕ) → (size_fault ws).number ≡ 0 → bit_count ws ≤ Limit.bits
unfolding size_fault
few_bits ws e = go (ltb Limit.bits (bit_count ws)) refl e
  where
    go : (t : Bool) → ltb Limit.bits (bit_count ws) ≡ t → (Fault.too_many_bits at_place 0 if t else accepted).number ≡ 0 → bit_count ws ≤ Limit.bits
    go true q e = absurd (omega arith)
    go false q e = ltb-false Limit.bits (bit_count ws) q

as_many_bits : (n : ℕ) (bs : List ℕ) → (bit_count_fault n bs).number ≡ 0 → length bs ≡ n
unfolding bit_count_fault
as_many_bits n bs e = go (eqb (length bs) n) refl e
  where
    go : (t : Bool) → eqb (length bs) n ≡ t → (accepted if t else Fault.wrong_value_count at_place 0).number ≡ 0 → length bs ≡ n
    go true q e = eqb-true (length bs) n q
    go false q e = absurd (omega arith)

abbrev pub AllFine : List ℕ → Type 0
AllFine bs = All (λ b. b < 2) bs

fine-from : (p : ℕ) (bs : List ℕ) → (bit_fault_from p bs).number ≡ 0 → AllFine bs
unfolding bit_fault_from
fine-from p [] e = tt
fine-from p (b ∷ bs) e = go (ltb b 2) refl e (fine-from (p + 1) bs)
  where
    go : (t : Bool) → ltb b 2 ≡ t → (bit_fault_from (p + 1) bs if t else Fault.not_a_bit at_place p).number ≡ 0 → ((bit_fault_from (p + 1) bs).number ≡ 0 → AllFine bs) →
        (b < 2) × AllFine bs
    go true q e r = (ltb-true b 2 q, r e)
    go false q e r = absurd (omega arith)

-- bytes without a fault have none
pub fine-none : (p : ℕ) (bs : List ℕ) → AllFine bs → bit_fault_from p bs ≡ accepted
unfolding bit_fault_from
fine-none p [] h = refl
fine-none p (b ∷ bs) h = rw (lt-ltb b 2 h.0) (fine-none (p + 1) bs h.1)

-- ---- all of them

pub record Passed (ws bs : List ℕ) : Type 0 where
  pub read : read_rows ws ≡ accepted
  pub few : bit_count ws ≤ Limit.bits
  pub as_many : length bs ≡ bit_count ws
  pub fine : AllFine bs

pub bits-passed : (ws bs : List ℕ) → (bits_fault ws bs).number ≡ 0 → Passed ws bs
unfolding bits_fault ◌else_refuse◌
bits-passed ws bs e =
    let a = passed-number (read_rows ws).number (read_rows ws).place _ e in
    let b = passed-number (size_fault ws).number (size_fault ws).place _ a.1 in
    let c = passed-number (bit_count_fault (bit_count ws) bs).number (bit_count_fault (bit_count ws) bs).place _ b.1 in
    record { read = accepts ws a.0; few = few_bits ws b.0; as_many = as_many_bits (bit_count ws) bs c.0; fine = fine-from 0 bs c.1 }

pub first-passed : (r after : Refusal) → (r else_refuse after).number ≡ 0 → (r.number ≡ 0) × (after.number ≡ 0)
unfolding ◌else_refuse◌
first-passed r after e = passed-number r.number r.place after e

pub room_enough : (room n : ℕ) → (room_fault room n).number ≡ 0 → n ≤ room
unfolding room_fault
room_enough room n e = go (ltb room n) refl e
  where
    go : (t : Bool) → ltb room n ≡ t → (Fault.output_too_short at_place 0 if t else accepted).number ≡ 0 → n ≤ room
    go true q e = absurd (omega arith)
    go false q e = ltb-false room n q

pub counted : (k p m n : ℕ) → refused_or k p (written m) ≡ written n → (k ≡ 0) × (m ≡ n)
counted zero p m n e = (refl, cc)
counted (suc k) p m n e = let z : ◌≡◌ {A = ℕ} 0 1 = cc in absurd (omega arith)

-- ---- bytes that are 0 or 1 are bits

small-bit : (b : ℕ) → b < 2 → Bit (pos b)
small-bit zero h = b0
small-bit (suc zero) h = b1
small-bit (suc (suc b)) h = absurd (omega arith)

pub fine-bits : (bs : List ℕ) → AllFine bs → All Bit (map pos bs)
fine-bits bs h = all-mapped pos (λ b. b < 2) Bit small-bit bs h
