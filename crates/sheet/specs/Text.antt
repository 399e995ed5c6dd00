-- 02, wish 3: what the program prints, the sheet of the words of the bytes that it reads, or the refusal's line.
use Rattle.std.specs.Prelude.{List, ℕ, length}
use Rattle.words.specs.Refusal.{◌else_refuse◌, room_fault}
use Rattle.sheets.specs.Sheet.{sheet_fault, sheet_text}
use Rattle.lines.specs.Lines.{program_words, ◌else_print◌}

-- the bytes of the page
abbrev pub page_bytes : ℕ
page_bytes = 262144

-- The program's own limit, not 02's, comes before every other fault: above 16,384 words it says 16, whatever they are.
-- Then the faults of sheet on its page.
unfoldable pub printed_sheet : List ℕ → List ℕ
printed_sheet ws = room_fault program_words (length ws) else_refuse sheet_fault ws page_bytes else_print sheet_text ws
