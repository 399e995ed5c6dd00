-- What is printed is read, of every model that check reads.
use Rattle.std.proofs.Common.{◌≡◌, refl, List, [], ℕ, ◌≤◌, arith, ltb, length, le-ltb}
use Rattle.words.specs.Answer.{written, ◌else_answer◌}
use Rattle.words.specs.Overlay.{overlay}
use Rattle.words.specs.Refusal.{accepted, room_fault, ◌else_refuse◌}
use Rattle.words.proofs.Reading.{not_too_many}
use Rattle.models.specs.Reading.{read_model, read_model_in, begin}
use Rattle.models.proofs.Accepted.{few_words}
use Rattle.models.proofs.Sound.{Sound, sound}
use Rattle.tokens.specs.Token.{tokens}
use Rattle.texts.specs.Text.{tokens_fault, tokens_words, words_fault, text_fault, read_text, text_read}
use Rattle.printing.specs.ModelText.{model_text}
use Rattle.printing.specs.ReadAgain.{ReadAgain}
use Rattle.printing.proofs.Simulation.{start}
use Rattle.printing.proofs.Items.{read-words}

module _ (ws : List ℕ) (h : read_model ws ≡ accepted) where
  sound-words : Sound begin ws
  unfolding read_model_in
  sound-words = sound ws begin 0 (not_too_many 0 (ltb 8192 (length ws)) _ h).1

  -- the text has no fault, and its words are the model's
  read_back : (tokens_fault (tokens (model_text ws)) (length (model_text ws)) ≡ accepted) × (tokens_words (tokens (model_text ws)) ≡ ws)
  unfolding tokens_fault tokens_words tokens model_text
  read_back = (read-words (tokens (model_text ws)) (length (model_text ws)) ws _ _ 0 0 [] 0 start refl (omega arith) sound-words 0).gives (λ q l. refl)

  no-refusal : (room : ℕ) → length ws ≤ room → text_fault (model_text ws) room ≡ accepted
  unfolding text_fault words_fault room_fault ◌else_refuse◌
  no-refusal room l = rw (read_back.0, read_back.1, le-ltb 8192 (length ws) (few_words ws h), le-ltb room (length ws) l)

  answered : (room : ℕ) → length ws ≤ room → read_text (model_text ws) room ≡ written (length ws)
  unfolding read_text ◌else_answer◌
  answered room l = rw (no-refusal room l, read_back.1)

  listed : (out : List ℕ) → length ws ≤ length out → text_read (model_text ws) out ≡ overlay out 0 ws
  unfolding text_read
  listed out l = rw (no-refusal (length out) l, read_back.1)

pub read_again : (ws : List ℕ) → ReadAgain ws
read_again ws = record { answer = λ h. answered ws h; list = λ h. listed ws h }
