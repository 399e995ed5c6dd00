-- Where best_bits answers n, n words fit the output and are its front.
use Rattle.std.specs.Prelude.{IfOk}
use Rattle.std.proofs.Common.{◌≡◌, List, ℕ, ◌≤◌, length, take, Result}
use Rattle.words.specs.Faults.{written_of}
use Rattle.words.specs.declared.fault.Refusal.{Refusal}
use Rattle.words.proofs.Written.{later-none, room_for}
use Rattle.bitanswers.proofs.Front.{ok-wrote}
use Rattle.bestforms.specs.declared.Direction.{Direction}
use Rattle.bestforms.specs.BestForm.{best_words}
use Rattle.bestforms.specs.BestAnswer.{best_bits_fault, best_bits, best_bitted}

module _ (ws : List ℕ) (v : ℕ) (d : Direction) where
  pub has_room : (room : ℕ) → (best_bits_fault ws v d room).number ≡ 0 → length (best_words ws v d) ≤ room
  unfolding best_bits_fault
  has_room room e = room_for room (length (best_words ws v d)) (later-none _ _ (later-none _ _ (later-none _ _ (later-none _ _ e))))

  pub wrote : (list later : List ℕ) (r : Result ℕ Refusal) → written_of r ≡ best_bits ws v d (length list) → later ≡ best_bitted ws v d list → IfOk r (λ n. n ≤ length later) × IfOk r (λ n. take n later ≡ best_words ws v d)
  unfolding best_bits best_bitted
  wrote list later r a o = ok-wrote (best_bits_fault ws v d (length list)) (best_words ws v d) list later r a o (has_room (length list))
