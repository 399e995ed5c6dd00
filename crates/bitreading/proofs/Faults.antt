-- The loop that looks for a byte that is neither 0 nor 1, and the faults of bits by their number.
use Rattle.std.proofs.Common.{◌≡◌, refl, sym, ap, ◌∙◌, List, ℕ, ◌+◌, ◌≤◌, ◌<◌, arith, length, get_or, drop, drop_of_length-le, lt-ltb, le-ltb}
use Rattle.words.specs.Fault as Fault
use Rattle.words.specs.Refusal.{accepted, ◌at_place◌}
use Rattle.words.proofs.Reading.{word-then}
use Rattle.bitanswers.specs.BitFaults.{bit_fault_from}

-- no fault before bit i
pub record Faultless (bs : List ℕ) (i : ℕ) : Type 0 where
  pub place : i ≤ length bs
  pub rest : bit_fault_from i (drop i bs) ≡ bit_fault_from 0 bs

pub faultless : (bs : List ℕ) → Faultless bs 0
faultless bs = record { place = omega arith; rest = refl }

module _ {bs : List ℕ} {i : ℕ} (s : Faultless bs i) where
  pub fine : i < length bs → get_or bs i 0 < 2 → Faultless bs (i + 1)
  unfolding bit_fault_from
  fine l f = record { place = omega arith; rest = sym (rw (word-then bs i l, lt-ltb (get_or bs i 0) 2 f)) ∙ s.rest }

  pub wrong : i < length bs → 2 ≤ get_or bs i 0 → Fault.not_a_bit at_place i ≡ bit_fault_from 0 bs
  unfolding bit_fault_from
  wrong l f = sym (rw (word-then bs i l, le-ltb (get_or bs i 0) 2 f)) ∙ s.rest

  pub ended : length bs ≤ i → accepted ≡ bit_fault_from 0 bs
  unfolding bit_fault_from
  ended l = sym (ap (bit_fault_from i) (drop_of_length-le bs l)) ∙ s.rest
