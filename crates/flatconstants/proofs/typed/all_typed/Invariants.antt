use Rattle.std.proofs.Common.{◌≡◌, drop}
use Rattle.integers.specs.Lists.{all}
use Rattle.flatconstants.specs.Typed.{call_typed}
use Rattle.flatconstants.proofs.typed.all_typed.Given as goal

abbrev pub invariant-loop-call : goal.invariant-loop-call
invariant-loop-call l = all (call_typed l.fn.variables) (drop l.call-index l.calls) ≡ all (call_typed l.fn.variables) l.calls
