-- 02, wish 8: what the program prints, the words of the model, one a line, or the refusal's line.
use Rattle.std.specs.Prelude.{List, ℕ, length}
use Rattle.words.specs.Limit as Limit
use Rattle.words.specs.Refusal.{◌else_refuse◌, room_fault}
use Rattle.tokens.specs.Token.{tokens}
use Rattle.texts.specs.Text.{text_fault, tokens_words}
use Rattle.lines.specs.Lines.{word_lines, ◌else_print◌}

-- the bytes of a text that the program reads
abbrev pub text_bytes : ℕ
text_bytes = 524288

-- The program's own limit, not 02's, comes before every other fault: above 524,288 bytes it says 16, whatever they are.
-- A model that is not refused has room.
unfoldable pub printed_text : List ℕ → List ℕ
printed_text text =
    room_fault text_bytes (length text) else_refuse text_fault text Limit.model_words else_print word_lines (tokens_words (tokens text))
