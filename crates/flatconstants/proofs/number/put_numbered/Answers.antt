use Rattle.std.proofs.Common.{◌∙◌, sym, arith}
use Rattle.flatzinc.specs.Calls.{built_all}
use Rattle.flatzinc.specs.Items.{Placed}
use Rattle.flatrewriting.specs.Rewritten.{shorter}
use Rattle.flatconstants.specs.Constants.{with_numbers}
use Rattle.flatconstants.proofs.BuiltLaws.{placed-at, placed-length, built-on, built-end}
use Rattle.flatconstants.proofs.number.put_numbered.Goals as goal

pub loop-call-preserved : goal.loop-call-preserved
loop-call-preserved c = λ ps h.
    let n = placed-length c.args.calls.now ps h in
    rw c.in_ok-push.ensures.items
    (built-on (λ (p : Placed). shorter (with_numbers c.args.others c.args.table.now.constants.items p)) c.loop-call.numbered.items c.in_ok-numbered_call.field-0 ps c.loop-call.call-index (omega arith)
    (c.in_ok-numbered_call.ensures _ (rw c.call-item.is (placed-at c.args.calls.now ps h c.loop-call.call-index _ c.loop-call-test.true))) ∙ c.loop-call.invariant ps h)

pub returns : goal.returns
returns c = λ ps h.
    let l = placed-length c.args.calls.now ps h in
    sym (built-end (λ (p : Placed). shorter (with_numbers c.args.others c.args.table.now.constants.items p)) (built_all c.loop-call.numbered.items) ps c.loop-call.call-index (omega arith)) ∙ c.loop-call.invariant ps h
