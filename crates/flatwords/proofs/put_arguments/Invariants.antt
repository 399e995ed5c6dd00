use Rattle.std.proofs.Common.{◌≡◌, ◌++◌, drop}
use Rattle.flatwords.specs.CallWords.{all_written}
use Rattle.flatwords.proofs.put_arguments.Given as goal

abbrev pub invariant-loop-g : goal.invariant-loop-g
invariant-loop-g l = l.out.items ++ all_written (drop l.g-index l.arguments) ≡ l.fn.out.items ++ all_written l.arguments
