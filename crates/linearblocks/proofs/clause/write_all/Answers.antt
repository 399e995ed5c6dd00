-- A head, the terms, r and the constant are the parts of the row.
use Rattle.std.proofs.Common.{[], ◌∷◌, ◌++◌, length-append}
use Rattle.integers.specs.Number.{+1, -1}
use Rattle.integers.specs.Terms.{◌·◌}
use Rattle.models.specs.Model.{vars}
use Rattle.arguments.proofs.Size.{read}
use Rattle.rules.specs.Block.{source, numbered}
use Rattle.rules.specs.Parts.{each}
use Rattle.laying.specs.Part.{row_parts}
use Rattle.rules.proofs.Lengths.{each-length}
use Rattle.laying.proofs.Lists.{length-vars, each-parts}
use Rattle.laying.proofs.Written.{wrote-then}
use Rattle.linearblocks.proofs.Rows.{row-wrote, last-term}
use Rattle.linearblocks.proofs.clause.write_all.Goals as goal

pub returns : goal.returns
unfolding row_parts numbered
returns c =
    let ts = each +1 (vars c.args.args.now 0) in
    let t = -1 · source c.args.r in
    let k = rw (read c.one_less.type_inv c.one_less.ensures, c.size_at-n.ensures.value, ← length-vars c.args.args.now 0) at c.constant.ensures in
    λ first. row-wrote first (ts ++ (t ∷ [])) (simp (length-append, each-length, length-vars)) (last-term first ts t (each-parts first +1 c.args.args.now 0)) (rw c.size_at-n.ensures.value at c.head.ensures) (wrote-then c.each.ensures c.term.ensures) k
