use Rattle.std.proofs.Common.{◌≡◌, refl, arith}
use mathlib.Core.List.{flat_map}
use Rattle.words.specs.Overlay.{overlay}
use Rattle.laying.specs.Part.{words_in}
use Rattle.laying.specs.Lists.{many}
use Rattle.laying.proofs.Counts.{order_more}
use Rattle.laying.proofs.terms.put_order.Goals as goal

pub loop-k-init : goal.loop-k-init
unfolding many words_in flat_map overlay
loop-k-init c = refl

pub loop-k-preserved : goal.loop-k-preserved
loop-k-preserved c = rw (c.put_pair.ensures, c.loop-k.invariant, c.first_if.ensures, c.first_if-in-loop-k.ensures, c.var_at-x.ensures) (order_more c.args.out.now c.args.at c.args.args.now c.args.base c.args.m c.args.up c.loop-k.k)

pub returns : goal.returns
returns c = let e : c.loop-k.k ≡ c.args.n = omega (arith, c.loop-k-test.false) in rw e at c.loop-k.invariant
