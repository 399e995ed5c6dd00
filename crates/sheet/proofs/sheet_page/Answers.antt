-- The refusal's line, or the sheet.
use Rattle.std.proofs.Common.{ap, ◌∙◌, ◌≤◌, arith, length}
use Rattle.encoding.specs.Bytes.{bytes_words}
use Rattle.encoding.proofs.Words.{quarter}
use Rattle.sheets.specs.Sheet.{sheet, sheet_page}
use Rattle.sheets.proofs.Front.{has_room}
use Rattle.lines.specs.Lines.{program_words}
use Rattle.lines.proofs.Printed.{front_too_long, front-refused, front-text, short-enough}
use Rattle.sheet.specs.Text.{page_bytes, printed_sheet}
use Rattle.sheet.proofs.Text.{same_length}
use Rattle.sheet.proofs.sheet_page.Goals.{Else-bytes-gt-WORDS}
use Rattle.sheet.proofs.sheet_page.Goals as goal

few : (c : Else-bytes-gt-WORDS) → length (bytes_words c.args.bytes.now) ≤ program_words
few c = rw (quarter c.args.bytes.now) at c.if-bytes-gt-WORDS.false

pub returns-then-bytes-gt-WORDS : goal.returns-then-bytes-gt-WORDS
unfolding printed_sheet
returns-then-bytes-gt-WORDS c =
    let p = front_too_long program_words (length (bytes_words c.args.bytes.now)) _ _ (rw (quarter c.args.bytes.now) at c.if-bytes-gt-WORDS.true)
    c.put_too_long.ensures.text (omega (arith, c.put_too_long.ensures.end, c.requires)) in
    record { text = p.0; count = p.1 }

pub returns-in-Err : goal.returns-in-Err
unfolding printed_sheet sheet
returns-in-Err c =
    let ws = bytes_words c.args.bytes.now in
    let says = rw (c.in-Err.is, c.front_words-n.ensures.words, c.requires) at c.sheet.ensures.answer in
    let l = ap length c.sheet.ensures.page ∙ same_length _ c.args.page.now in
    let p = front-refused _ _ c.put_refusal.ensures.text (omega (arith, c.put_refusal.ensures.end, c.requires, l)) _ says (short-enough program_words (length ws) _ (few (goal.at.returns-in-Err c).Else-bytes-gt-WORDS)) in
    record { text = p.0; count = p.1 }

pub returns-in-Ok : goal.returns-in-Ok
unfolding printed_sheet sheet sheet_page
returns-in-Ok c =
    let ws = bytes_words c.args.bytes.now in
    let call = rw (c.in-Ok.is, c.front_words-n.ensures.words, c.requires) at c.sheet.ensures in
    let p = front-text (record { answer = call.answer; output = call.page; room = rw c.requires (has_room ws page_bytes) }) (short-enough program_words (length ws) _ (few (goal.at.returns-in-Ok c).Else-bytes-gt-WORDS)) in
    record { text = p.0; count = p.1 }

pub front_words-n-requires : goal.front_words-n-requires
front_words-n-requires c = few (goal.at.front_words-n-requires c).Else-bytes-gt-WORDS
