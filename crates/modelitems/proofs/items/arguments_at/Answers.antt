use Rattle.std.proofs.Common.{refl}
use Rattle.std.proofs.lemmas.Result.{err_from_is_err_and}
use Rattle.modelitems.proofs.Onward.{at-heads}
use Rattle.modelitems.proofs.Places.{past-arguments}
use Rattle.modelitems.proofs.Steps.{no_word, and_then, or-refused, to-alike}
use Rattle.modelitems.proofs.items.arguments_at.Goals as goal

pub loop-k-init : goal.loop-k-init
loop-k-init c d = no_word c.requires.0.within

pub argument_at-requires : goal.argument_at-requires
argument_at-requires c = record { within = (c.loop-k.invariant 0).inside; few = c.requires.0.few }

pub returns-in_err-place : goal.returns-in_err-place
returns-in_err-place c d =
    let p = err_from_is_err_and c.from_residual.result c.from_residual.ensures.1 in
    rw (p.1, p.2) (or-refused (and_then (c.loop-k.invariant d) refl (c.in_err-place.ensures d c.args.code c.loop-k.k c.in-Some.ensures)) _ refl)

pub loop-k-preserved : goal.loop-k-preserved
loop-k-preserved c d = and_then (c.loop-k.invariant d) refl (c.in_ok-place.ensures d c.args.code c.loop-k.k c.in-Some.ensures)

pub returns-after-loop-k : goal.returns-after-loop-k
returns-after-loop-k c d =
    let p = c.loop-k in
    to-alike (p.invariant d) (at-heads _ _ c.args.code p.k d _ (past-arguments c.args.code p.k c.loop-k-test.false))

pub returns-in_default : goal.returns-in_default
returns-in_default c d =
    let p = c.loop-k in
    to-alike (p.invariant d) (at-heads _ _ c.args.code p.k d _ c.in_default.ensures)
