-- Where value_bits answers n bits, they fit the output and are its front.
use Rattle.std.proofs.Common.{◌≡◌, List, ℕ, ◌≤◌, ℤ, length, take, Result, Ok, Err}
use Rattle.words.specs.Answer.{holds, written, is_holds}
use Rattle.words.specs.declared.fault.Refusal.{Refusal}
use Rattle.words.proofs.Written.{Wrote, fits, front, later-none, room_for}
use Rattle.rowsystems.specs.JudgeRows.{judge_rows}
use Rattle.bitforms.specs.BitForm.{bit_count}
use Rattle.bitforms.specs.ValueBits.{value_bits}
use Rattle.bitanswers.specs.BitsAnswer.{value_bits_fault, value_bits_answer, value_bits_written}
use Rattle.bitanswers.proofs.ValueBits.{holding, bits-length}
use Rattle.valuebits.specs.declared.Encoded.{Encoded}
use Rattle.valuebits.specs.declared.Encoded.TheVariants.{Bits, OutOfBounds, False}
use Rattle.valuebits.specs.Encoded.{encoded, IfEncoded}

has_room : (ws : List ℕ) (room : ℕ) → (value_bits_fault ws room).number ≡ 0 → bit_count ws ≤ room
unfolding value_bits_fault
has_room ws room e = room_for room (bit_count ws) (later-none _ _ e)

module _ (ws : List ℕ) (vs : List ℤ) (list later : List ℕ) (j : judge_rows ws vs ≡ holds) where
  counted : length (value_bits ws vs) ≡ bit_count ws
  counted = bits-length ws vs (holding ws vs j)

  all-wrote : {n : ℕ} → written n ≡ value_bits_answer ws vs (length list) → later ≡ value_bits_written ws vs list → Wrote (value_bits_fault ws (length list)) (value_bits ws vs) list later n
  unfolding value_bits_answer value_bits_written is_holds
  all-wrote a o = record { answer = rw counted (rw j at a); output = rw j at o; room = λ z. rw counted (has_room ws (length list) z) }

  pub wrote : (r : Result Encoded Refusal) → encoded r ≡ value_bits_answer ws vs (length list) → later ≡ value_bits_written ws vs list → IfEncoded r (λ n. n ≤ length later) × IfEncoded r (λ n. take n later ≡ value_bits ws vs)
  wrote (Ok (Bits n)) a o = let w = all-wrote a o in (fits w, front w)
  wrote (Ok (OutOfBounds i)) a o = (tt, tt)
  wrote (Ok (False i)) a o = (tt, tt)
  wrote (Err e) a o = (tt, tt)
