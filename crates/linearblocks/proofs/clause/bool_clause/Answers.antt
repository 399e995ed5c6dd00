-- A head, the terms of both lists and the constant are the one row of the block.
use Rattle.std.proofs.Common.{◌≡◌, ap, ◌∙◌, ◌++◌, length-append}
use Rattle.integers.specs.Number.{+1, -1}
use Rattle.models.specs.Model.{size, vars, past}
use Rattle.arguments.proofs.Size.{read}
use Rattle.rules.specs.Parts.{each}
use Rattle.rules.specs.Rule.{rule}
use Rattle.laying.specs.Part.{row_parts}
use Rattle.rules.proofs.Lengths.{each-length}
use Rattle.laying.proofs.Lists.{length-vars, terms-append, each-parts}
use Rattle.laying.proofs.Written.{wrote-as, wrote-then}
use Rattle.linearblocks.proofs.Rows.{row-wrote, one-row}
use Rattle.linearblocks.proofs.clause.bool_clause.Goals as goal

pub returns : goal.returns
unfolding rule row_parts
returns c =
    let xs = each -1 (vars c.args.args.now 0) in
    let ys = each +1 (vars c.args.args.now (past c.args.args.now 0)) in
    let m : c.size_at-m.result ≡ size c.args.args.now (past c.args.args.now 0) = c.size_at-m.ensures.value ∙ ap (size c.args.args.now) c.past_at-second.ensures.value in
    let h = rw (m, c.size_at.ensures.value) at c.head.ensures in
    let u = rw c.past_at-second.ensures.value at c.each-2.ensures in
    let k = rw (read c.one_less.type_inv c.one_less.ensures, m, ← length-vars c.args.args.now (past c.args.args.now 0)) at c.constant.ensures in
    λ first β. wrote-as (one-row first _) (row-wrote first (xs ++ ys) (simp (length-append, each-length, length-vars)) (terms-append first xs ys ∙ rw (each-parts first -1 c.args.args.now 0, each-parts first +1 c.args.args.now (past c.args.args.now 0))) h (wrote-then c.each.ensures u) k)
