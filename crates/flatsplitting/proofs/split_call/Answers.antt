use Rattle.std.proofs.Common.{refl}
use Rattle.flatzinc.specs.Calls.{built_call}
use Rattle.flatsplitting.proofs.Finished as f
use Rattle.flatsplitting.proofs.split_call.Goals as goal

pub returns : goal.returns
unfolding built_call
returns c b e = f.put-call c.args.model.now c.cut_call.new.model _ _ b (c.in_ok-cut_call.ensures b e) refl c.in_ok-push.ensures.items
