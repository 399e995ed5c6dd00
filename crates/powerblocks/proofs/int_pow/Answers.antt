use Rattle.std.proofs.Common.{arith, rules}
use Rattle.integers.specs.Bounds.{bounds_in}
use Rattle.words.specs.Small.{Near}
use Rattle.rules.specs.Rule.{rule}
use Rattle.laying.proofs.Written.{wrote-then, wrote-as, wrote-alike, wrote-fitting}
use Rattle.powerblocks.proofs.Block.{none-parts, power-alike}
use Rattle.powerblocks.proofs.int_pow.Goals as goal

-- For k=0 one row; else the bounds, the products and the last row.
pub returns-then-k-eq0 : goal.returns-then-k-eq0
unfolding rule
returns-then-k-eq0 c =
    rw c.if-k-eq0.true (wrote-fitting (wrote-as (none-parts c.args.first (bounds_in c.args.domains.now) c.args.x c.args.z) (simp c.new.ensures at c.row.ensures)))

pub returns : goal.returns
unfolding rule
returns c =
    let β = bounds_in c.args.domains.now in
    let r = rw c.domain_of.ensures at c.write_ranges.ensures in
    let near : Near c.domain_of.result.lower × Near c.domain_of.result.upper = (search rules, search rules) in
    let p = c.write_power-power.ensures (β c.args.x) in
    wrote-alike (power-alike c.args.first β c.args.x c.args.k c.args.z c.write_power-power.result.held (omega (arith, c.if-k-eq0.false)) (rw c.domain_of.ensures at near.0) (rw c.domain_of.ensures at near.1) p.held)
    (wrote-then r.wrote (wrote-then p.wrote (simp (c.new-2.ensures, c.new-3.ensures) at c.row-2.ensures)))
