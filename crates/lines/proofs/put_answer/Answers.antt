-- The refusal's line, or the lines of the words, at the front of the page.
use Rattle.words.specs.Faults.{fault_number}
use Rattle.lines.specs.Lines.{answer_lines}
use Rattle.lines.proofs.Printed.{front-line, front-words}
use Rattle.lines.proofs.put_answer.Goals as goal

pub returns-in-Ok : goal.returns-in-Ok
unfolding answer_lines
returns-in-Ok c =
    let p = front-words c.args.words.now c.in-Ok.n c.put_front.ensures c.requires.page.0 in
    record { text = rw c.in-Ok.is p.0; count = p.1 }

pub returns-in-Err-clause-text : goal.returns-in-Err-clause-text
unfolding answer_lines
returns-in-Err-clause-text c =
    rw c.in-Err.is (front-line (fault_number c.in-Err.r.fault) c.in-Err.r.place c.put_refusal.ensures.text c.put_refusal.ensures.end c.requires.page.1).0
