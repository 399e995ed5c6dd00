use Rattle.std.proofs.Common.{◌≡◌, sym, ◌∙◌, ◌≤◌, arith, length, get_or, drop_of_length-le}
use Rattle.integers.specs.Terms.{value}
use Rattle.words.proofs.Judge.{pass-one, fail_one, pass_all}
use Rattle.models.specs.Meaning.{meaning}
use Rattle.models.specs.Model.{headed, builtin, constraints}
use Rattle.modelreading.proofs.Heads.{head_at}
use Rattle.builtins.proofs.Coded.{no_code}
use Rattle.modeljudge.proofs.first_false.Goals.{After-holds}
use Rattle.modeljudge.proofs.first_false.Goals as goal

-- what holds says of the constraint
said : (c : After-holds) →
    meaning (value c.args.values.now) (builtin (headed c.args.ws.now (get_or c.args.heads.now c.loop-k.k 0))) ≡ c.holds.result
unfolding builtin
said c = sym (rw (c.in-Some.ensures.0, c.in-Some.ensures.1) at c.holds.ensures)

pub returns-then-not-holds : goal.returns-then-not-holds
returns-then-not-holds c =
    fail_one c.loop-k.invariant (head_at c.requires.0 c.loop-k.k c.loop-k-test.true) (said (goal.at.returns-then-not-holds c).After-holds ∙ c.if-not-holds.true)

pub loop-k-preserved : goal.loop-k-preserved
loop-k-preserved c =
    pass-one c.loop-k.invariant (head_at c.requires.0 c.loop-k.k c.loop-k-test.true) (said (goal.at.loop-k-preserved c).After-holds ∙ c.if-not-holds.false)

-- a number that no builtin has counts as true
pub loop-k-preserved-in_default : goal.loop-k-preserved-in_default
unfolding builtin
loop-k-preserved-in_default c =
    pass-one c.loop-k.invariant (head_at c.requires.0 c.loop-k.k c.loop-k-test.true) (sym (no_code (value c.args.values.now) _ _ c.in_default.ensures))

pub returns : goal.returns
returns c =
    let h : length (constraints c.args.ws.now) ≤ c.loop-k.k = omega (arith, c.requires.0.counted, c.loop-k-test.false) in
    pass_all c.loop-k.invariant (drop_of_length-le (constraints c.args.ws.now) h)
