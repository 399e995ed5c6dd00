-- The sheet of a row system: judge-rows' faults but 15, then 16; else the lines of its rows, laid over the lent page.
use Rattle.std.specs.Prelude.{List, ℕ, eqb, length}
use Rattle.integers.specs.Choice.{◌if◌else◌}
use Rattle.words.specs.Fault as Fault
use Rattle.words.specs.Overlay.{overlay}
use Rattle.words.specs.Refusal.{◌else_refuse◌, room_fault}
use Rattle.words.specs.Answer.{Answer, written, ◌else_answer◌}
use Rattle.words.specs.Refusals.{Refusal}
use Rattle.rowsystems.specs.Reading.{read_rows}
use Rattle.rowsystems.specs.RowSystem.{rows}
use Rattle.sheetlines.specs.Lines.{rows_lines}

-- 02, wish 3: "Print any row system that judge-rows reads"
unfoldable pub sheet_text : List ℕ → List ℕ
sheet_text ws = rows_lines 0 (rows ws)

-- "judge-rows' faults but 15 come first, then 16 for a short page", of so many bytes
unfoldable pub sheet_fault : List ℕ → ℕ → Refusal
sheet_fault ws room = read_rows ws else_refuse room_fault room (length (sheet_text ws))

-- "The answer is the number of bytes"; and the page afterwards: "those past them stay"
unfoldable pub sheet : List ℕ → ℕ → Answer
sheet ws room = sheet_fault ws room else_answer written (length (sheet_text ws))

unfoldable pub sheet_page : List ℕ → List ℕ → List ℕ
sheet_page ws page = overlay page 0 (sheet_text ws) if eqb (sheet_fault ws (length page)).number Fault.none else page
