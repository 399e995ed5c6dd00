-- The refusal's line, or the lines of the form's words.
use Rattle.std.proofs.Common.{◌∙◌, ◌≤◌, arith, length}
use Rattle.encoding.specs.Bytes.{bytes_words}
use Rattle.encoding.proofs.Words.{quarter}
use Rattle.bitforms.specs.FormAnswer.{bit_form, bit_formed}
use Rattle.bitform.proofs.Front.{has_room}
use Rattle.lines.specs.Lines.{program_words}
use Rattle.lines.proofs.Printed.{front_too_long, answered, short-enough}
use Rattle.bits.specs.Text.{form_text}
use Rattle.bits.proofs.form_page.Goals.{Else-bytes-gt-WORDS}
use Rattle.bits.proofs.form_page.Goals as goal

few : (c : Else-bytes-gt-WORDS) → length (bytes_words c.args.bytes.now) ≤ program_words
few c = rw (quarter c.args.bytes.now) at c.if-bytes-gt-WORDS.false

pub returns-then-bytes-gt-WORDS : goal.returns-then-bytes-gt-WORDS
unfolding form_text
returns-then-bytes-gt-WORDS c =
    let p = front_too_long program_words (length (bytes_words c.args.bytes.now)) _ _ (rw (quarter c.args.bytes.now) at c.if-bytes-gt-WORDS.true)
    c.put_too_long.ensures.text (omega (arith, c.put_too_long.ensures.end, c.requires)) in
    record { text = p.0; count = p.1 }

pub front_words-n-requires : goal.front_words-n-requires
front_words-n-requires c = few (goal.at.front_words-n-requires c).Else-bytes-gt-WORDS

pub returns-clause-text : goal.returns-clause-text
unfolding form_text bit_form bit_formed
returns-clause-text c =
    let ws = bytes_words c.args.bytes.now in
    let form = rw c.front_words-n.ensures.words at c.bit_form-answer.ensures in
    c.put_answer.ensures.text
    ∙ answered _ _ _ _ _ _ form.answer form.output (has_room ws program_words) (short-enough program_words (length ws) _ (few (goal.at.returns-clause-text c).Else-bytes-gt-WORDS))
