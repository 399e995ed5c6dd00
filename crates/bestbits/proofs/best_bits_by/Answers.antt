-- Of each number.
use Rattle.std.proofs.Common.{◌∙◌}
use Rattle.bestforms.specs.Numbered.{best_bits_by, best_bitted_by}
use Rattle.bestbits.proofs.Numbered.{answer-none, output-none}
use Rattle.bestbits.proofs.best_bits_by.Goals as goal

pub returns-then-direction-eq0-clause-answer : goal.returns-then-direction-eq0-clause-answer
unfolding best_bits_by
returns-then-direction-eq0-clause-answer c = rw c.if-direction-eq0.true c.best_bits.ensures.answer

pub returns-then-direction-eq0-clause-output : goal.returns-then-direction-eq0-clause-output
unfolding best_bitted_by
returns-then-direction-eq0-clause-output c = rw c.if-direction-eq0.true c.best_bits.ensures.output

pub returns-then-direction-eq1-clause-answer : goal.returns-then-direction-eq1-clause-answer
unfolding best_bits_by
returns-then-direction-eq1-clause-answer c = rw c.if-direction-eq1.true c.best_bits-then-direction-eq1.ensures.answer

pub returns-then-direction-eq1-clause-output : goal.returns-then-direction-eq1-clause-output
unfolding best_bitted_by
returns-then-direction-eq1-clause-output c = rw c.if-direction-eq1.true c.best_bits-then-direction-eq1.ensures.output

pub returns-clause-answer : goal.returns-clause-answer
returns-clause-answer c =
    c.best_bits-2.ensures.answer ∙ answer-none c.args.ws.now c.args.variable c.args.out.now c.args.direction c.if-direction-eq0.false c.if-direction-eq1.false

pub returns-clause-output : goal.returns-clause-output
returns-clause-output c =
    c.best_bits-2.ensures.output ∙ output-none c.args.ws.now c.args.variable c.args.out.now c.args.direction c.if-direction-eq0.false c.if-direction-eq1.false
