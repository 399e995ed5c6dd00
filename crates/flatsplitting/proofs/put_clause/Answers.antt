use Rattle.flatsplitting.proofs.Added as a
use Rattle.flatsplitting.proofs.put_clause.Goals as goal

pub returns : goal.returns
returns c =
    a.named c.put_call.result c.args.model.now c.put_call.new.model _ _
    (a.clause c.in_ok-first.first c.in_ok-others.others c.args.first.now c.args.others.now c.in_ok-first.ensures c.in_ok-others.ensures) c.put_call.ensures
