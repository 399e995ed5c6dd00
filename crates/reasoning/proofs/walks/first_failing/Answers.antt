-- The walk stops at a failing row: the builtin of that constraint, of the source values, gives the reason.
use Rattle.std.proofs.Common.{◌≡◌, false, arith, get_or, drop, ◌∷◌, ◌+◌, ◌<◌}
use Rattle.words.specs.Answer.{is_holds}
use Rattle.words.specs.Faults.{said_of}
use Rattle.models.specs.Model.{constraints, headed, builtin}
use Rattle.checking.proofs.Kept.{head_at}
use Rattle.reasoning.proofs.Walk.{failing-row, no-row}
use Rattle.reasoning.proofs.walks.first_failing.Goals.{After-walk-stopped, In-False}
use Rattle.reasoning.proofs.walks.first_failing.Goals as goal

-- where a block says something, its constraint is the first of those that are left
left : (c : After-walk-stopped) → is_holds (said_of c.walk-stopped.result.said) ≡ false →
    let r = c.args.read.now in
    let k = c.walk-stopped.result.constraint in
    drop k (constraints r.ws.now) ≡ headed r.ws.now (get_or r.heads k 0) ∷ drop (k + 1) (constraints r.ws.now)
left c n = head_at c.requires.0.listed.0 c.walk-stopped.result.constraint (omega (arith, c.walk-stopped.ensures.within n, c.requires.0.listed.0.seen.heads.counted))

there : (c : In-False) → c.walk-stopped.result.constraint < c.args.read.now.model.constraints
unfolding is_holds
there c = omega (arith, c.walk-stopped.ensures.within (rw c.in-False.is), c.requires.0.listed.0.seen.heads.counted)

pub returns-in_default : goal.returns-in_default
returns-in_default c = no-row c.walk-stopped.ensures _ _ (left (goal.at.returns-in_default c).After-walk-stopped) c.in_default.not-False

pub constraint-requires : goal.constraint-requires
constraint-requires c = (c.requires.0.listed, there (goal.at.constraint-requires c).In-False)

pub returns : goal.returns
unfolding builtin
returns c =
    let r = c.args.read.now in
    rw (c.holds-holds.ensures, c.constraint.ensures.code, c.constraint.ensures.arguments, ← c.requires.0.listed.0.seen.variables_counted)
    (failing-row c.walk-stopped.ensures _ (headed r.ws.now (get_or r.heads c.walk-stopped.result.constraint 0)) (left (goal.at.returns c).After-walk-stopped) c.in-False.row c.in-False.is)
