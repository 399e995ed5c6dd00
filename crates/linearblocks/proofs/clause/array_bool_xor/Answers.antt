-- The bounds of t, then the row.
use Rattle.std.proofs.Common.{append-nil}
use mathlib.Core.List.{flat_map}
use Rattle.arguments.proofs.Size.{read}
use Rattle.rules.specs.Rule.{rule}
use Rattle.laying.specs.Part.{bound_parts, block_parts}
use Rattle.laying.proofs.Lists.{length-vars}
use Rattle.laying.proofs.Written.{wrote-then}
use Rattle.linearblocks.proofs.clause.array_bool_xor.Goals as goal

pub returns : goal.returns
unfolding rule block_parts bound_parts flat_map
returns c =
    let d = rw (read c.half_less.type_inv c.half_less.ensures, c.size_at.ensures.value, ← length-vars c.args.args.now 0) at c.bound.ensures in
    λ β. rw append-nil (wrote-then d c.write_odd.ensures)
