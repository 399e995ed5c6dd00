use Rattle.std.proofs.Common.{◌≡◌, sym, ◌∙◌, arith}
use Rattle.integers.specs.Bounds.{bounds_in}
use Rattle.linearsums.proofs.Filling.{none, begun, more-as}
use Rattle.linearsums.proofs.Places.{in_list}
use Rattle.linearsums.proofs.model_sums.Goals as goal

pub loop-k-init : goal.loop-k-init
loop-k-init c = begun _ _

pub loop-k-preserved : goal.loop-k-preserved
loop-k-preserved c = more-as c.loop-k.invariant (omega (arith, c.requires.1, c.requires.3, c.loop-k-test.true)) (c.put.ensures ∙ rw (c.sum_bounds.ensures, c.after_head.ensures))

pub returns : goal.returns
unfolding bounds_in
returns c =
    let all : c.loop-k.k ≡ c.args.n = omega (arith, c.loop-k-test.false) in
    λ k h. c.loop-k.invariant.filled k (omega (arith, all)) ∙ sym (in_list c.args.ws.now c.args.heads.now (bounds_in c.args.domains.now) none c.args.n k h c.requires.1)
