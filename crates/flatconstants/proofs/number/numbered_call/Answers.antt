use Rattle.std.proofs.Common.{refl}
use Rattle.std.proofs.lemmas.Result.{IfOk-weaker}
use Rattle.flatconstants.proofs.Building.{same-call}
use Rattle.flatconstants.proofs.number.numbered_call.Goals as goal

pub returns : goal.returns
returns c =
    IfOk-weaker c.shorter.result _ _
    (λ d s p h. s _ (same-call c.args.others c.args.table.now.constants.items c.args.call.now _ refl (rw (← c.deref.ensures.value) c.in_ok-arguments.ensures) p h)) c.shorter.ensures
