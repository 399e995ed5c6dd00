-- The values that bits read as keep every bound, and satisfy the row system where the form is 0.
use Rattle.std.proofs.Common.{◌≡◌, sym, ◌∙◌, List, map, ℕ, ◌<◌, eq-eqb, ℤ, pos, length, take}
use lib.ListN.{length-map}
use Rattle.integers.specs.Number.{+0}
use Rattle.integers.specs.Terms.{value}
use Rattle.integers.specs.Bounds.{bounds_in}
use Rattle.integers.proofs.Lists.{list_of-length}
use Rattle.integers.proofs.Places.{get_or-list_of}
use Rattle.integers.proofs.Tests.{says-within}
use Rattle.words.specs.Variables.{variables}
use Rattle.words.specs.Refusal.{room_fault}
use Rattle.words.specs.Answer.{written, ◌else_answer◌}
use Rattle.words.proofs.Overlay.{front-over}
use Rattle.rowsystems.proofs.Ordered.{accepted-ordered}
use Rattle.bitforms.specs.OverBits.{evaluate}
use Rattle.bitforms.specs.BitForm.{encoding}
use Rattle.bitforms.specs.SameSolutions.{AreBits, InBounds}
use Rattle.bitforms.proofs.Bits.{Bits}
use Rattle.bitforms.proofs.InBounds.{bits_inside}
use Rattle.bitforms.proofs.Theorem.{value-bits, all-bits, form-energy, zero-sound}
use Rattle.bitanswers.specs.BitFaults.{bits_fault}
use Rattle.bitanswers.specs.ReadValues.{read_values, bit_values_fault, bit_values, bit_valued, ReadsAs}
use Rattle.bitanswers.proofs.Faults.{Passed, bits-passed, first-passed, room_enough, counted, fine-bits}

pub values_length : (ws : List ℕ) (bs : List ℤ) → length (read_values ws bs) ≡ length (variables ws)
unfolding read_values
values_length ws bs = list_of-length _ (length (variables ws))

pub values-at : (ws : List ℕ) (bs : List ℤ) (v : ℕ) → v < length (variables ws) → evaluate (value bs) (encoding ws v) ≡ value (read_values ws bs) v
unfolding read_values value
values-at ws bs v l = sym (get_or-list_of (λ v. evaluate (value bs) (encoding ws v)) (length (variables ws)) v +0 l)

module _ (ws bs : List ℕ) (p : Passed ws bs) where
  pub are_bits : AreBits ws (map pos bs)
  are_bits = record { one_each = length-map bs pos ∙ p.as_many; zero_or_one = (all-bits (map pos bs)).1 (fine-bits bs p.fine) }

  pub bits_are : Bits (value (map pos bs))
  bits_are = value-bits (map pos bs) (fine-bits bs p.fine)

  in_bounds : InBounds ws (read_values ws (map pos bs))
  unfolding encoding
  in_bounds = record {
    one_each = values_length ws (map pos bs);
    in_bounds = λ v l.
        (says-within (bounds_in (variables ws) v) (value (read_values ws (map pos bs)) v)).1
        (rw (values-at ws (map pos bs) v l) at (bits_inside bits_are 0 (variables ws) (accepted-ordered ws p.read) v l));
  }

  pub reads_as : ReadsAs ws bs (read_values ws (map pos bs))
  reads_as = record {
    are_bits = are_bits;
    in_bounds = in_bounds;
    read_as = values-at ws (map pos bs);
    satisfies = λ z.
        zero-sound ws (read_values ws (map pos bs)) (map pos bs) in_bounds are_bits (values-at ws (map pos bs)) (form-energy ws (value (map pos bs)) bits_are ∙ z);
  }

-- where the answer is that n values were written, the bits have no fault, and the first n of the output are the values that they read as
pub values-written : (ws bs : List ℕ) (out : List ℤ) (n : ℕ) → bit_values ws bs (length out) ≡ written n →
    Passed ws bs × (take n (bit_valued ws bs out) ≡ read_values ws (map pos bs))
unfolding bit_values bit_valued bit_values_fault ◌else_answer◌
values-written ws bs out n e =
    let c = counted _ _ (length (variables ws)) n e in
    let f = first-passed (bits_fault ws bs) (room_fault (length out) (length (variables ws))) c.0 in
    let room = room_enough (length out) (length (variables ws)) f.1 in
    let l = values_length ws (map pos bs) in
    (bits-passed ws bs f.0, rw (eq-eqb _ 0 c.0, ← c.1, ← l) (front-over out (read_values ws (map pos bs)) (rw l room)))
