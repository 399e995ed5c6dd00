use Rattle.std.proofs.Common.{◌≡◌, List, length, drop, Some}
use Rattle.models.specs.Builtin.{Builtin}
use Rattle.flatzinc.specs.Numbers.{bounds_of}
use Rattle.flatzinc.specs.Calls.{built_all}
use Rattle.flatsplitting.specs.Split.{enough}
use Rattle.flatsplitting.proofs.Along.{Along}
use Rattle.flatsplitting.proofs.split_lists.Given as goal

abbrev pub invariant-loop-call : goal.invariant-loop-call
invariant-loop-call l =
    (bs : List Builtin) → built_all l.fn.calls.items ≡ Some bs → Along (enough bs) (bounds_of l.fn.variables.items) bs l.model (drop (length l.yielded) l.fn.calls.items)
