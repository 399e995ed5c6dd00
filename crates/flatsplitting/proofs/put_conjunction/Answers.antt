use Rattle.flatsplitting.proofs.Added as a
use Rattle.flatsplitting.proofs.put_conjunction.Goals as goal

pub returns : goal.returns
returns c =
    a.named c.put_call.result c.args.model.now c.put_call.new.model _ _ (a.conjunction c.in_ok-atoms.atoms c.args.first.now c.args.part c.in_ok-atoms.ensures) c.put_call.ensures
