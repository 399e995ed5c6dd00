-- Two rows more after the shared part.
use Rattle.std.proofs.Common.{ap, ◌∙◌, [], ◌∷◌, add-zero, rules}
use mathlib.Core.List.{flat_map}
use Rattle.integers.specs.Number.{+1, +2, -1}
use Rattle.integers.specs.Terms.{◌·◌}
use Rattle.integers.specs.declared.Bounds.{Bounds}
use Rattle.integers.proofs.Fits.{back}
use Rattle.rowsystems.specs.Row.{sum≤0}
use Rattle.rules.specs.Block.{aux, numbered}
use Rattle.rules.specs.Rule.{linked, sign_split, only_negative, lin_not_equal, rule}
use Rattle.laying.specs.Part.{term_parts, row_parts}
use Rattle.laying.specs.Lists.{many, row_parts_of}
use Rattle.linearsums.specs.Sum.{linear_sum}
use Rattle.linearblocks.specs.Rows.{link, split}
use Rattle.laying.proofs.Written.{wrote-then}
use Rattle.linearblocks.proofs.Rows.{rows_then}
use Rattle.linearblocks.proofs.linear.int_lin_ne.Goals as goal

pub returns : goal.returns
unfolding rule lin_not_equal only_negative sign_split linked split link flat_map row_parts term_parts numbered row_parts_of many linear_sum
returns c =
    λ β e. let l = ap (λ (S : Bounds). S.lower) e in
    let u = ap (λ (S : Bounds). S.upper) e in
    rows_then c.args.first _ (sum≤0 (-1 · aux 0 ∷ +2 · aux 2 ∷ []) +1 ∷ only_negative (aux 0) (aux 1) (linear_sum β c.args.args.now).upper ∷ []) (rw (l, u) at c.write_split.ensures)
    (rw (add-zero c.args.first) (wrote-then (simp (c.new.ensures, c.new-2.ensures) at c.row.ensures) (rw (back c.args.sum.upper (search rules) ∙ u) at c.only_negative.ensures)))
