-- A head, the terms, t and the constant are the parts of the row.
use Rattle.std.proofs.Common.{[], ◌∷◌, ◌++◌, add-zero, length-append}
use Rattle.integers.specs.Number.{+1, -2}
use Rattle.integers.specs.Terms.{◌·◌}
use Rattle.models.specs.Model.{vars}
use Rattle.rules.specs.Block.{aux, numbered}
use Rattle.rules.specs.Parts.{each}
use Rattle.laying.specs.Part.{row_parts}
use Rattle.rules.proofs.Lengths.{each-length}
use Rattle.laying.proofs.Lists.{length-vars, each-parts}
use Rattle.laying.proofs.Written.{wrote-then}
use Rattle.linearblocks.proofs.Rows.{row-wrote, last-term}
use Rattle.linearblocks.proofs.clause.write_odd.Goals as goal

pub returns : goal.returns
unfolding row_parts numbered
returns c =
    let ts = each +1 (vars c.args.args.now 0) in
    row-wrote c.args.first (ts ++ (-2 · aux 0 ∷ [])) (simp (length-append, each-length, length-vars)) (last-term c.args.first ts (-2 · aux 0) (each-parts c.args.first +1 c.args.args.now 0)) (rw c.size_at.ensures.value at c.head.ensures) (wrote-then c.each.ensures (rw (add-zero c.args.first) c.term.ensures)) c.constant.ensures
