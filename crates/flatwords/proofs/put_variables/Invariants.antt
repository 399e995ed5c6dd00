use Rattle.std.proofs.Common.{◌≡◌, ◌++◌, drop}
use Rattle.flatwords.specs.SystemWords.{all_variable_words}
use Rattle.flatwords.proofs.put_variables.Given as goal

abbrev pub invariant-loop-v : goal.invariant-loop-v
invariant-loop-v l = l.out.items ++ all_variable_words (drop l.v-index l.variables) ≡ l.fn.out.items ++ all_variable_words l.variables
