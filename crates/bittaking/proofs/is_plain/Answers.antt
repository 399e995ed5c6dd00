-- The factor is 1, and the list has no number.
use Rattle.std.proofs.Common.{sym, ◌∙◌}
use Rattle.integers.specs.Number.{+1}
use Rattle.integers.proofs.Tests.{says-equal}
use Rattle.bittaking.proofs.Far.{near-back}
use Rattle.bittaking.proofs.is_plain.Goals as goal

pub returns-then-taken-eq0 : goal.returns-then-taken-eq0
returns-then-taken-eq0 c = λ t.
    let e = rw (near-back c.args.taken.now.times c.args.taken.now.near.near_times.few) at (sym c.equal.ensures ∙ t) in
    ((says-equal c.args.taken.now.times +1).0 e, c.if-taken-eq0.true)
