use Rattle.std.proofs.Common.{◌≡◌, ◌∙◌, add-one, arith}
use Rattle.integers.specs.Bounds.{bounds_in}
use Rattle.linearsums.specs.Places.{sum_size}
use Rattle.linearsums.proofs.Size.{upto-none, upto-more, upto_all}
use Rattle.linearsums.proofs.sum_bounds.Goals as goal

pub loop-k-init : goal.loop-k-init
loop-k-init c =
    (c.sum_start-total.ensures.value ∙ upto-none c.args.ws.now c.args.a (bounds_in c.args.domains.now), omega (arith, c.sum_start-total.ensures.lower_near), omega (arith, c.sum_start-total.ensures.upper_near))

pub loop-k-preserved : goal.loop-k-preserved
loop-k-preserved c =
    (c.sum_step-total.ensures.value ∙ rw (c.loop-k.invariant.0, c.domain_of-b.ensures, c.sum_variable.ensures, add-one) (upto-more c.args.ws.now c.args.a (bounds_in c.args.domains.now) c.loop-k.k), omega (arith, c.sum_step-total.ensures.lower_size, c.loop-k.invariant.1), omega (arith, c.sum_step-total.ensures.upper_size, c.loop-k.invariant.2))

pub returns : goal.returns
returns c =
    let all : c.loop-k.k ≡ sum_size c.args.ws.now c.args.a = omega (arith, c.sum_size-k-end.ensures.value) in
    c.loop-k.invariant.0 ∙ rw all (upto_all c.args.ws.now c.args.a (bounds_in c.args.domains.now))
