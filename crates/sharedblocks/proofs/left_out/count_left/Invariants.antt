-- The loop's invariant: the count so far is that of the values passed.
use Rattle.std.proofs.Common.{◌≡◌, ◌≤◌}
use Rattle.models.specs.Codes.{code_number}
use Rattle.sharedblocks.specs.LeftOut.{left_count}
use Rattle.sharedblocks.proofs.left_out.count_left.Given as goal

abbrev pub invariant-loop-k : goal.invariant-loop-k
invariant-loop-k l = (l.m ≤ l.k) × (l.m ≡ left_count (code_number l.code) l.args l.from l.k)
