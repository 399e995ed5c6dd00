use Rattle.flatconstants.proofs.BuiltLaws.{clause-built}
use Rattle.flatconstants.proofs.constant.put_variable_clause.Goals as goal

pub returns : goal.returns
returns c =
    rw c.in_ok-push.ensures.items
    (clause-built c.args.calls.now.items c.in_ok-arguments.arguments c.in_ok-from_slice.field-0 c.in_ok-from_slice-2.field-0 c.args.positive.now c.args.negative.now
    c.in_ok-arguments.ensures.items c.in_ok-from_slice.ensures.items c.in_ok-from_slice-2.ensures.items)
