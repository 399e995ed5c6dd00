use Rattle.std.proofs.Common.{◌≡◌, ◌++◌, drop}
use Rattle.flatwords.specs.CallWords.{all_call_words}
use Rattle.flatwords.proofs.put_calls.Given as goal

abbrev pub invariant-loop-call : goal.invariant-loop-call
invariant-loop-call l = l.out.items ++ all_call_words (drop l.call-index l.calls) ≡ l.fn.out.items ++ all_call_words l.calls
