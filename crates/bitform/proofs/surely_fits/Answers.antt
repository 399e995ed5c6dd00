-- Of a form that is taken once, with nothing added, the bound on the rows' entries is one on all.
use Rattle.std.proofs.Common.{sym, ◌∙◌, leb-true, arith}
use Rattle.integers.specs.Number.{+1}
use Rattle.integers.proofs.Tests.{says-equal}
use Rattle.bittables.specs.Systems.{rows_of_system}
use Rattle.bittaking.proofs.Far.{near-back}
use Rattle.bitform.proofs.Pieces.{taken-pass}
use Rattle.bitform.proofs.surely_fits.Goals as goal

pub returns : goal.returns
returns c e =
    let k = c.args.taken.now.near in
    let t = near-back c.args.taken.now.times k.near_times.few in (
      omega (arith, c.if-room-n.false),
      taken-pass (rows_of_system c.args.system.now) c.args.taken.now.times c.args.taken.now.added.now c.args.n c.entries_bound.result c.if-taken-ne0.false
          (sym t ∙ (says-equal _ +1).0 (sym c.equal.ensures ∙ c.if-not-equal.false)) (rw c.requires.0 at c.entries_bound.ensures) (leb-true _ _ e),
    )
