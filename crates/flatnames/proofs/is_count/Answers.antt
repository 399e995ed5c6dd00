-- By the sign.
use Rattle.std.proofs.Common.{◌≡◌, ◌∙◌, sym, true, false, pos, to_z-of_z}
use Rattle.std.specs.Int.Signed.{le_z}
use Rattle.flatnames.proofs.Counts.{counted, negative}
use Rattle.flatnames.proofs.is_count.Goals as goal

pub returns-then-n-ge0 : goal.returns-then-n-ge0
returns-then-n-ge0 c =
    let h : le_z (pos 0) c.args.n ≡ true = simp (to_z-of_z c.ranges.n) at c.if-n-ge0.true in
    simp (to_z-of_z c.ranges.n) (counted c.args.n c.args.count h)

pub returns-else-n-ge0 : goal.returns-else-n-ge0
returns-else-n-ge0 c =
    let h : le_z (pos 0) c.args.n ≡ false = simp (to_z-of_z c.ranges.n) at c.if-n-ge0.false in
    c.if-n-ge0.false ∙ sym (negative c.args.n c.args.count h)
