-- The refusal's line, or the lines of the model's words.
use Rattle.std.proofs.Common.{◌∙◌, arith, length}
use Rattle.words.specs.Limit as Limit
use Rattle.texts.specs.Text.{read_text, text_read}
use Rattle.texts.proofs.Front.{has_room}
use Rattle.lines.proofs.Printed.{front_too_long, answered, short-enough}
use Rattle.text.specs.Text.{text_bytes, printed_text}
use Rattle.text.proofs.text_page.Goals as goal

pub returns-then-text-gt-MOST : goal.returns-then-text-gt-MOST
unfolding printed_text
returns-then-text-gt-MOST c =
    let p = front_too_long text_bytes (length c.args.text.now) _ _ c.if-text-gt-MOST.true c.put_too_long.ensures.text (omega (arith, c.put_too_long.ensures.end, c.requires)) in
    record { text = p.0; count = p.1 }

pub returns-clause-text : goal.returns-clause-text
unfolding printed_text read_text text_read
returns-clause-text c =
    c.put_answer.ensures.text
    ∙ answered _ _ _ _ _ _ c.read_text-answer.ensures.answer c.read_text-answer.ensures.output (has_room c.args.text.now Limit.model_words) (short-enough text_bytes (length c.args.text.now) _ c.if-text-gt-MOST.false)
