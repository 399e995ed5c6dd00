use Rattle.std.proofs.Common.{◌≡◌, List, map, drop, Some}
use Rattle.flatzinc.specs.Items.{Placed}
use Rattle.flatzinc.specs.Calls.{placed_all, built_all}
use Rattle.flatrewriting.specs.Rewritten.{shorter}
use Rattle.flatconstants.specs.Constants.{with_numbers}
use Rattle.flatconstants.specs.Numbers.{and_built}
use Rattle.flatconstants.proofs.number.put_numbered.Given as goal

abbrev pub invariant-loop-call : goal.invariant-loop-call
invariant-loop-call l =
    (ps : List Placed) → placed_all l.calls ≡ Some ps →
    and_built (built_all l.numbered.items) (map (λ (p : Placed). shorter (with_numbers l.fn.others l.fn.table.constants.items p)) (drop l.call-index ps))
    ≡ and_built (built_all l.fn.numbered.items) (map (λ (p : Placed). shorter (with_numbers l.fn.others l.fn.table.constants.items p)) ps)
