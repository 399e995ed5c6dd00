-- Of a number that is 0 the next place takes its place in the list.
use Rattle.std.proofs.Common.{sym, ◌∙◌}
use Rattle.integers.specs.Number.{+0}
use Rattle.integers.proofs.Fits.{back}
use Rattle.integers.proofs.Tests.{says-equal}
use Rattle.bitplaces.proofs.Keeping.{keeping-next}
use Rattle.bitplaces.proofs.keep_places.Goals as goal

pub loop-j-preserved : goal.loop-j-preserved
loop-j-preserved c =
    rw c.one_if-k.ensures (keeping-next c.equal.result c.loop-j.invariant c.loop-j-test.true (λ e. sym c.at_or.ensures ∙ sym (back c.at_or.result c.at_or.type_inv) ∙ (says-equal _ +0).0 (sym c.equal.ensures ∙ e)))
