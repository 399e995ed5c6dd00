-- Three rows more after the shared part.
use Rattle.std.proofs.Common.{ap, ◌∙◌, rules}
use Rattle.integers.specs.declared.Bounds.{Bounds}
use Rattle.integers.proofs.Fits.{back}
use Rattle.arguments.proofs.Size.{read}
use Rattle.rules.specs.Rule.{linked, sign_split, zero_reified}
use Rattle.linearsums.specs.Sum.{linear_sum}
use Rattle.linearblocks.specs.Rows.{link, split}
use Rattle.laying.proofs.Written.{wrote-as}
use Rattle.linearblocks.proofs.Rows.{rows_then, sign-row}
use Rattle.linearblocks.proofs.linear.zero_reif.Goals as goal

pub returns : goal.returns
unfolding zero_reified sign_split linked split link linear_sum
returns c =
    λ β e. let l = ap (λ (S : Bounds). S.lower) e in
    let u = ap (λ (S : Bounds). S.upper) e in
    let zero = rw (read c.larger_absolute-w.type_inv c.larger_absolute-w.ensures.value, back c.args.sum.lower (search rules) ∙ l, back c.args.sum.upper (search rules) ∙ u, c.var_at-r.ensures, c.past_terms_at.ensures.value) at c.write_zero.ensures in
    rows_then c.args.first _ _ (rows_then c.args.first _ _ (rw (l, u) at c.write_split.ensures) zero) (wrote-as (sign-row c.args.first _) (rw (back c.args.sum.upper (search rules) ∙ u) at c.only_negative.ensures))
