use Rattle.std.proofs.Common.{refl, arith}
use Rattle.flatwords.specs.CallWords.{call_words, all_call_words}
use Rattle.flatwords.proofs.Walks as w
use Rattle.flatwords.proofs.put_calls.Goals as goal

pub loop-call-preserved : goal.loop-call-preserved
unfolding all_call_words
loop-call-preserved c =
    w.step call_words all_call_words refl (λ g gs. refl) c.args.calls.now c.loop-call.call-index c.call-item.result c.loop-call.out.items c.put_call.new.out.items _ (omega arith) c.call-item.is c.loop-call.invariant
    c.in_ok-put_call.ensures

pub returns : goal.returns
unfolding all_call_words
returns c = w.end call_words all_call_words refl (λ g gs. refl) c.args.calls.now c.loop-call.call-index c.loop-call.out.items _ (omega arith) c.loop-call.invariant
