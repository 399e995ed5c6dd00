use Rattle.std.proofs.Common.{sym, rules, get_or, w64, FitsSigned, to_z-of_z}
use Rattle.integers.specs.Number.{+0}
use Rattle.integers.specs.Lists.{list_of}
use Rattle.flatrewriting.proofs.Ranges.{list_of-more}
use Rattle.flatrewriting.proofs.arguments.products_of.Goals as goal

pub loop-k-init : goal.loop-k-init
unfolding list_of
loop-k-init c = c.new-products.ensures.items

pub loop-k-preserved : goal.loop-k-preserved
loop-k-preserved c =
    let fits : FitsSigned w64 (get_or c.args.numbers.now c.loop-k.k +0) = search rules in
    rw (c.in_ok-push.ensures.items, to_z-of_z fits, c.loop-k.invariant) (sym (list_of-more _ c.loop-k.k))
