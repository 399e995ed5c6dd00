-- The refusal's line, or the lines of the row system's words.
use Rattle.std.proofs.Common.{refl, ◌∙◌, arith}
use Rattle.encoding.specs.Bytes.{bytes_words}
use Rattle.encoding.proofs.Words.{quarter}
use Rattle.rules.specs.Translate.{translate_in, translated_in}
use Rattle.translation.proofs.Front.{has_room}
use Rattle.lines.specs.Lines.{program_words}
use Rattle.lines.proofs.Printed.{answered}
use Rattle.rows.specs.Text.{rows_text}
use Rattle.rows.proofs.rows_page.Goals as goal

pub front_words-n-requires : goal.front_words-n-requires
front_words-n-requires c =
    rw (← quarter c.args.bytes.now) (omega (arith, c.requires.bytes))

pub returns-clause-text : goal.returns-clause-text
unfolding rows_text translate_in translated_in
returns-clause-text c =
    let ws = bytes_words c.args.bytes.now in
    let system = rw c.front_words-n.ensures.words at c.translate-answer.ensures in
    c.put_answer.ensures.text ∙ answered _ _ _ _ _ _ system.answer system.output (has_room ws program_words) refl
