-- Where bit_values answers n, n values fit the output and are its front.
use Rattle.std.specs.Prelude.{IfOk}
use Rattle.std.proofs.Common.{◌≡◌, List, map, ℕ, ◌≤◌, ℤ, pos, length, take, Result}
use Rattle.words.specs.Faults.{written_of}
use Rattle.words.specs.Variables.{variables}
use Rattle.words.specs.declared.fault.Refusal.{Refusal}
use Rattle.words.proofs.Written.{later-none, room_for}
use Rattle.bitanswers.specs.ReadValues.{read_values, bit_values_fault, bit_values, bit_valued}
use Rattle.bitanswers.proofs.Front.{ok-wrote}
use Rattle.bitanswers.proofs.ReadValues.{values_length}

module _ (ws bs : List ℕ) where
  pub has_room : (room : ℕ) → (bit_values_fault ws bs room).number ≡ 0 → length (read_values ws (map pos bs)) ≤ room
  unfolding bit_values_fault
  has_room room e = rw (values_length ws (map pos bs)) (room_for room (length (variables ws)) (later-none _ _ e))

  pub wrote : (list later : List ℤ) (r : Result ℕ Refusal) → written_of r ≡ bit_values ws bs (length list) → later ≡ bit_valued ws bs list →
      IfOk r (λ n. n ≤ length later) × IfOk r (λ n. take n later ≡ read_values ws (map pos bs))
  unfolding bit_values bit_valued
  wrote list later r a o =
      ok-wrote (bit_values_fault ws bs (length list)) (read_values ws (map pos bs)) list later r (rw (values_length ws (map pos bs)) a) o (has_room (length list))
