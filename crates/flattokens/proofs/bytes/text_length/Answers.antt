-- A line feed, a quote, any other byte, the end.
use Rattle.std.proofs.Common.{sym, ◌∙◌}
use Rattle.flattokens.proofs.Runs.{counted-zero, text_none, text_ends, text_goes_on, text_over}
use Rattle.flattokens.proofs.bytes.text_length.Goals as goal

pub loop-i-init : goal.loop-i-init
loop-i-init c = counted-zero _

pub loop-i-preserved : goal.loop-i-preserved
loop-i-preserved c = rw c.escapes-escaped.ensures (sym (text_goes_on c.args.bytes.now c.loop-i.i c.loop-i.escaped c.loop-i-test.true c.if-b-eq10.false (sym c.closes.ensures ∙ c.if-closes.false)) ∙ c.loop-i.invariant)

pub returns-then-b-eq10-clause-value : goal.returns-then-b-eq10-clause-value
returns-then-b-eq10-clause-value c = sym (text_none c.args.bytes.now c.loop-i.i c.loop-i.escaped c.loop-i-test.true c.if-b-eq10.true) ∙ c.loop-i.invariant

pub returns-then-closes-clause-value : goal.returns-then-closes-clause-value
returns-then-closes-clause-value c = sym (text_ends c.args.bytes.now c.loop-i.i c.loop-i.escaped c.loop-i-test.true c.if-b-eq10.false (sym c.closes.ensures ∙ c.if-closes.true)) ∙ c.loop-i.invariant

pub returns-clause-value : goal.returns-clause-value
returns-clause-value c = sym (text_over c.args.bytes.now c.loop-i.i c.loop-i.escaped c.loop-i-test.false) ∙ c.loop-i.invariant
