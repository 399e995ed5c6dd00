-- The reader's refusal, or 16, or the text on the page.
use Rattle.std.proofs.Common.{◌≡◌, arith, length}
use Rattle.std.proofs.lemmas.Result.{err_from_is_err_and}
use Rattle.words.proofs.Faulty.{fault-number}
use Rattle.words.proofs.Written.{fits, front}
use Rattle.rowsystems.proofs.Sizes.{few_words}
use Rattle.sheets.specs.Sheet.{sheet_text}
use Rattle.sheets.proofs.Answers.{stands, too_short, writes}
use Rattle.sheets.proofs.Front.{wrote}
use Rattle.sheets.proofs.sheet.Goals as goal

pub returns-in_err-read_rows : goal.returns-in_err-read_rows
returns-in_err-read_rows c =
    let p = err_from_is_err_and c.from_residual.result c.from_residual.ensures.1 in
    let s = stands c.args.ws.now c.args.page.now _ _ (fault-number _) c.in_err-read_rows.ensures.reads in
    rw (p.1, p.2) (record { answer = s.answer; page = s.page; room = tt; front = tt; lines = s.lines })

pub put_sheet-bytes-requires : goal.put_sheet-bytes-requires
put_sheet-bytes-requires c = few_words c.args.ws.now (rw (← c.in_ok-read_rows.ensures.reads))

pub put_sheet-requires : goal.put_sheet-requires
put_sheet-requires c = few_words c.args.ws.now (rw (← c.in_ok-read_rows.ensures.reads))

pub returns-then-page-bytes : goal.returns-then-page-bytes
returns-then-page-bytes c =
    let s = too_short c.args.ws.now c.args.page.now c.in_ok-read_rows.ensures.reads (omega (arith, c.put_sheet-bytes.ensures.ends, c.if-page-bytes.true)) in
    record { answer = s.answer; page = s.page; room = tt; front = tt; lines = s.lines }

pub returns : goal.returns
returns c =
    let e : c.put_sheet-bytes.result ≡ length (sheet_text c.args.ws.now) = omega (arith, c.put_sheet-bytes.ensures.ends) in
    let s = writes c.args.ws.now c.args.page.now c.in_ok-read_rows.ensures.reads (omega (arith, e, c.if-page-bytes.false)) in
    let w = wrote c.args.ws.now c.args.page.now s.answer s.page in
    rw (e, c.put_sheet.ensures.over) (record { answer = s.answer; page = s.page; room = fits w; front = front w; lines = s.lines })
