use Rattle.std.proofs.Common.{sym, subst}
use Rattle.flatnames.specs.Step.{State}
use Rattle.flattening.proofs.ReadStatements.{Read_so_far, at_start, one_more, at_end}
use Rattle.flattening.proofs.read.read.Goals as goal

pub loop-state-init : goal.loop-state-init
loop-state-init c = subst (λ (S : State). Read_so_far c.args.bytes.now c.args.bytes.now S) (sym c.start-state.ensures) (at_start c.args.bytes.now)

pub loop-state-preserved : goal.loop-state-preserved
loop-state-preserved c = one_more c.args.bytes.now c.loop-state.rest.now c.in-Some.behind.now _ _ c.loop-state.invariant (rw c.in-Some.is at c.in_ok-behind.ensures)

pub returns : goal.returns
returns c =
    let at = rw c.in_default.is at c.in_ok-behind.ensures in
    rw at.1 (at_end c.args.bytes.now c.loop-state.rest.now _ c.loop-state.invariant at.0)
