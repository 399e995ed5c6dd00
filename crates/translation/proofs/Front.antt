-- Where translate answers n, n words fit the output and are its front.
use Rattle.std.proofs.Common.{◌≡◌, List, ℕ, ◌≤◌, length}
use Rattle.words.specs.Answer.{written}
use Rattle.words.proofs.Written.{Wrote, later-none, room_for}
use Rattle.rules.specs.Translate.{translate_fault_in, translate, translate_in, translated, translated_in}
use Rattle.rules.specs.InRange.{translate_fault}
use Rattle.rules.specs.Translation.{system_words}

pub has_room : (ws : List ℕ) (room : ℕ) → (translate_fault ws room).number ≡ 0 → length (system_words ws) ≤ room
unfolding translate_fault_in
has_room ws room e = room_for room (length (system_words ws)) (later-none _ _ e)

pub wrote : (ws list : List ℕ) {later : List ℕ} {n : ℕ} → written n ≡ translate ws (length list) → later ≡ translated ws list → Wrote (translate_fault ws (length list)) (system_words ws) list later n
unfolding translate_in translated_in
wrote ws list a o = record { answer = a; output = o; room = has_room ws (length list) }
