use Rattle.std.proofs.Common.{◌∙◌, subst, to_z-of_z}
use Rattle.std.proofs.lemmas.Result.{IfOk-weaker}
use Rattle.integers.specs.Bounds.{◌to◌}
use Rattle.flatrewriting.specs.Range.{NumbersOf}
use Rattle.flatrewriting.proofs.Coded.{short-rewritten, long-rewritten}
use Rattle.flatrewriting.proofs.items.set_in_range.Goals as goal

pub returns-in-Some : goal.returns-in-Some
returns-in-Some c =
    let n : NumbersOf (c.args.lo to c.args.hi) c.in_ok-numbers.field-0 = rw (to_z-of_z c.ranges.lo, to_z-of_z c.ranges.hi) at c.in_ok-numbers.ensures in
    let h = subst (NumbersOf (c.args.lo to c.args.hi)) c.in-Some.is n in
    IfOk-weaker c.by_numbers.result _ _ (λ v e. e ∙ short-rewritten c.args.x c.args.lo c.args.hi c.in-Some.numbers.items h) c.by_numbers.ensures

pub returns-in-None : goal.returns-in-None
returns-in-None c =
    let n : NumbersOf (c.args.lo to c.args.hi) c.in_ok-numbers.field-0 = rw (to_z-of_z c.ranges.lo, to_z-of_z c.ranges.hi) at c.in_ok-numbers.ensures in
    let h = subst (NumbersOf (c.args.lo to c.args.hi)) c.in-None.is n in
    IfOk-weaker c.by_ends.result _ _ (λ v e. e ∙ rw (to_z-of_z c.ranges.lo, to_z-of_z c.ranges.hi) (long-rewritten c.args.x c.args.lo c.args.hi h)) c.by_ends.ensures
