use Rattle.std.proofs.Common.{Some, ap, sym, ◌∙◌}
use Rattle.integers.specs.Choice.{◌if◌else◌}
use Rattle.models.specs.Builtin.{array_int_maximum, array_int_minimum}
use Rattle.flatsplitting.proofs.Added as a
use Rattle.flatsplitting.proofs.put_best.Goals as goal

pub returns-then-largest : goal.returns-then-largest
returns-then-largest c =
    a.named c.put_call.result c.args.model.now c.put_call.new.model _ _
    (a.largest c.in_ok-atoms_of.field-0 c.args.first.now c.args.part c.in_ok-atoms_of.ensures ∙ ap (λ b. Some ((array_int_maximum if b else array_int_minimum) c.args.part c.args.first.now)) (sym c.if-largest.true)) c.put_call.ensures

pub returns : goal.returns
returns c =
    a.named c.put_call-2.result c.args.model.now c.put_call-2.new.model _ _
    (a.least c.in_ok-atoms_of.field-0 c.args.first.now c.args.part c.in_ok-atoms_of.ensures ∙ ap (λ b. Some ((array_int_maximum if b else array_int_minimum) c.args.part c.args.first.now)) (sym c.if-largest.false)) c.put_call-2.ensures
