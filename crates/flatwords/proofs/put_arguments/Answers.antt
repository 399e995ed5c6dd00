use Rattle.std.proofs.Common.{refl, arith}
use Rattle.flatwords.specs.CallWords.{written, all_written}
use Rattle.flatwords.proofs.Walks as w
use Rattle.flatwords.proofs.put_arguments.Goals as goal

pub loop-g-preserved : goal.loop-g-preserved
unfolding all_written
loop-g-preserved c =
    w.step written all_written refl (λ g gs. refl) c.args.arguments.now c.loop-g.g-index c.g-item.result c.loop-g.out.items c.put_argument.new.out.items _ (omega arith) c.g-item.is c.loop-g.invariant
    c.in_ok-put_argument.ensures

pub returns : goal.returns
unfolding all_written
returns c = w.end written all_written refl (λ g gs. refl) c.args.arguments.now c.loop-g.g-index c.loop-g.out.items _ (omega arith) c.loop-g.invariant
