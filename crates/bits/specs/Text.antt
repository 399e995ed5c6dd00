-- 02, wish 14: what the program prints, as `rows` does: one word of the form a line, or the refusal.
use Rattle.std.specs.Prelude.{List, ℕ, length}
use Rattle.words.specs.Refusal.{◌else_refuse◌, room_fault}
use Rattle.bitforms.specs.FormAnswer.{bit_form_fault}
use Rattle.bitforms.specs.FormWords.{form_words}
use Rattle.lines.specs.Lines.{program_words, word_lines, ◌else_print◌}

-- Of the words of the bytes that it reads. The program's own limit, not 02's, comes before every other fault: above 16,384 words it says 16, whatever
-- they are. Then the faults of bits on an output of 16,384 words.
unfoldable pub form_text : List ℕ → List ℕ
form_text ws = room_fault program_words (length ws) else_refuse bit_form_fault ws program_words else_print word_lines (form_words ws)
