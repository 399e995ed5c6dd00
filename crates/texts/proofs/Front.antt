-- Where read_text answers n, n words fit the list and are its front.
use Rattle.std.proofs.Common.{◌≡◌, refl, Bool, true, false, List, ℕ, ◌≤◌, arith, ltb, length, ltb-false}
use Rattle.integers.specs.Choice.{◌if◌else◌}
use Rattle.words.specs.Answer.{written}
use Rattle.words.specs.Fault as Fault
use Rattle.words.specs.Limit as Limit
use Rattle.words.specs.Refusal.{◌at_place◌, accepted, room_fault}
use Rattle.words.proofs.Written.{Wrote, later-none}
use Rattle.tokens.specs.Token.{tokens}
use Rattle.texts.specs.Text.{words_fault, text_fault, tokens_words, read_text, text_read}

limit_for : (room n : ℕ) → (words_fault room n).number ≡ 0 → n ≤ room
unfolding words_fault room_fault
limit_for room n e = go (ltb Limit.model_words n) (ltb room n) refl e
  where
    go : (many short : Bool) → ltb room n ≡ short → (Fault.too_many_words at_place 0 if many else Fault.output_too_short at_place 0 if short else accepted).number ≡ 0 → n ≤ room
    go true short h e = absurd (omega (arith, e))
    go false true h e = absurd (omega (arith, e))
    go false false h e = omega (arith, ltb-false)

pub has_room : (text : List ℕ) (room : ℕ) → (text_fault text room).number ≡ 0 → length (tokens_words (tokens text)) ≤ room
unfolding text_fault
has_room text room e = limit_for room (length (tokens_words (tokens text))) (later-none _ _ e)

pub wrote : (text list : List ℕ) {later : List ℕ} {n : ℕ} → written n ≡ read_text text (length list) → later ≡ text_read text list → Wrote (text_fault text (length list)) (tokens_words (tokens text)) list later n
unfolding read_text text_read
wrote text list a o = record { answer = a; output = o; room = has_room text (length list) }
