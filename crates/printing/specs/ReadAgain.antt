-- What is printed is read: of every model that check reads, reading its text writes the model's words again.
use Rattle.std.specs.Prelude.{List, ◌≡◌, ℕ, ◌≤◌, length}
use Rattle.words.specs.Answer.{written}
use Rattle.words.specs.Overlay.{overlay}
use Rattle.words.specs.Refusal.{accepted}
use Rattle.models.specs.Reading.{read_model}
use Rattle.texts.specs.Text.{read_text, text_read}
use Rattle.printing.specs.ModelText.{model_text}

pub record ReadAgain (ws : List ℕ) : Type 0 where
  pub answer : read_model ws ≡ accepted → (room : ℕ) → length ws ≤ room → read_text (model_text ws) room ≡ written (length ws)
  pub list : read_model ws ≡ accepted → (out : List ℕ) → length ws ≤ length out → text_read (model_text ws) out ≡ overlay out 0 ws
