-- Where bit_form answers n, n words fit the output and are its front.
use Rattle.std.specs.Prelude.{IfOk}
use Rattle.std.proofs.Common.{◌≡◌, List, ℕ, ◌≤◌, length, take, Result}
use Rattle.words.specs.Faults.{written_of}
use Rattle.words.specs.declared.fault.Refusal.{Refusal}
use Rattle.words.proofs.Written.{later-none, room_for}
use Rattle.bitforms.specs.FormAnswer.{bit_form_fault, bit_form, bit_formed}
use Rattle.bitforms.specs.FormWords.{form_words}
use Rattle.bitanswers.proofs.Front.{ok-wrote}

pub has_room : (ws : List ℕ) (room : ℕ) → (bit_form_fault ws room).number ≡ 0 → length (form_words ws) ≤ room
unfolding bit_form_fault
has_room ws room e = room_for room (length (form_words ws)) (later-none _ _ (later-none _ _ (later-none _ _ e)))

pub wrote : (ws list later : List ℕ) (r : Result ℕ Refusal) → written_of r ≡ bit_form ws (length list) → later ≡ bit_formed ws list → IfOk r (λ n. n ≤ length later) × IfOk r (λ n. take n later ≡ form_words ws)
unfolding bit_form bit_formed
wrote ws list later r a o = ok-wrote (bit_form_fault ws (length list)) (form_words ws) list later r a o (has_room ws (length list))
