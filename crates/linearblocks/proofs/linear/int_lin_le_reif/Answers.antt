-- Two rows more after the shared part.
use Rattle.std.proofs.Common.{ap}
use Rattle.integers.specs.declared.Bounds.{Bounds}
use Rattle.rules.specs.Rule.{linked, lin_less_equal_reified, rule}
use Rattle.linearsums.specs.Sum.{linear_sum}
use Rattle.linearblocks.specs.Rows.{link, bounded_sum, at_most_rows}
use Rattle.linearblocks.proofs.Rows.{rows_then}
use Rattle.linearblocks.proofs.linear.int_lin_le_reif.Goals as goal

pub returns : goal.returns
unfolding rule lin_less_equal_reified linked bounded_sum link at_most_rows linear_sum
returns c =
    λ β e. let l = ap (λ (S : Bounds). S.lower) e in
    let u = ap (λ (S : Bounds). S.upper) e in
    rows_then c.args.first _ _ (rw (l, u) at c.write_bounded_sum.ensures) (rw (l, u, c.var_at-r.ensures, c.past_terms_at.ensures.value) at c.write_at_most.ensures)
