-- the text before, what is put so far, and what is still to come
use Rattle.std.proofs.Common.{◌≡◌, ◌++◌, drop}
use Rattle.std.specs.Prelude.{map}
use Rattle.flattext.specs.SeenCalled.{called}
use Rattle.flattext.specs.ModelText.{variable_lines}
use Rattle.flattext.proofs.text.put_variables.Given as goal

abbrev pub invariant-loop-k : goal.invariant-loop-k
invariant-loop-k l = l.initial.out.items ++ variable_lines (map called l.names) 0 l.variables ≡ l.out.items ++ variable_lines (map called l.names) l.k (drop l.k l.variables)
