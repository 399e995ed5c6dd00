-- The rows r−x≤0, then the last row.
use Rattle.std.proofs.Common.{sym, false, [], ◌∷◌, ◌++◌, map, append-nil, pos, length}
use mathlib.Core.List.{flat_map}
use Rattle.integers.specs.Number.{◌⊖◌, +1, -1}
use Rattle.integers.specs.Terms.{◌·◌}
use Rattle.models.specs.Model.{var, vars, past}
use Rattle.rowsystems.specs.Row.{sum≤0}
use Rattle.rules.specs.Block.{source, block}
use Rattle.rules.specs.Parts.{◌─◌≤0, each}
use Rattle.rules.specs.Rule.{rule}
use Rattle.laying.specs.Part.{bound_parts, block_parts}
use Rattle.laying.proofs.Lists.{order-parts}
use Rattle.laying.proofs.Written.{wrote-as}
use Rattle.linearblocks.proofs.Rows.{rows_then}
use Rattle.linearblocks.proofs.clause.array_bool_and.Goals as goal

pub returns : goal.returns
unfolding rule block_parts bound_parts flat_map
returns c =
    let r = var c.args.args.now (past c.args.args.now 0) in
    let q = sum≤0 (each +1 (vars c.args.args.now 0) ++ (-1 · source r ∷ [])) (+1 ⊖ pos (length (vars c.args.args.now 0))) in
    let t = rw (c.size_at.ensures.value, c.var_at-r.ensures, c.past_at.ensures.value) at c.order.ensures in
    let u = rw (c.var_at-r.ensures, c.past_at.ensures.value) at c.write_all.ensures in
    λ first β. rows_then first (block [] (map (λ x. source r ─ source x ≤0) (vars c.args.args.now 0))) (q ∷ []) (wrote-as (sym (order-parts first c.args.args.now 0 r false)) t) (rw append-nil (u first))
