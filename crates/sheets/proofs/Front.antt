-- Where sheet answers n, n bytes fit the page and are its front.
use Rattle.std.proofs.Common.{◌≡◌, List, ℕ, ◌≤◌, length}
use Rattle.words.specs.Answer.{written}
use Rattle.words.proofs.Written.{Wrote, later-none, room_for}
use Rattle.sheets.specs.Sheet.{sheet_text, sheet_fault, sheet, sheet_page}

pub has_room : (ws : List ℕ) (room : ℕ) → (sheet_fault ws room).number ≡ 0 → length (sheet_text ws) ≤ room
unfolding sheet_fault
has_room ws room e = room_for room (length (sheet_text ws)) (later-none _ _ e)

pub wrote : (ws list : List ℕ) {later : List ℕ} {n : ℕ} → written n ≡ sheet ws (length list) → later ≡ sheet_page ws list → Wrote (sheet_fault ws (length list)) (sheet_text ws) list later n
unfolding sheet sheet_page
wrote ws list a o = record { answer = a; output = o; room = has_room ws (length list) }
