use Rattle.std.proofs.Common.{sym, ◌∙◌, inl, inr, arith, length}
use Rattle.integers.proofs.Lists.{list_of-length}
use Rattle.integers.specs.Bounds.{bounds_in}
use Rattle.solutions.proofs.Through.{count-begun, count_turn, count-done, list-begun, list-turn, list-less, list_done, listing-length}
use Rattle.solutions.proofs.Values.{inside-small}
use Rattle.solutions.proofs.Search.write_from.Goals.{then-all_true, else-all_true}
use Rattle.solutions.proofs.Search.write_from.Goals as goal

pub loop-more-init : goal.loop-more-init
loop-more-init c =
    (count-begun _ _ _ c.requires.inside, list-begun _ _ _ _ c.requires.inside (omega (arith, c.requires.short, list_of-length (bounds_in c.args.self.now.domains.now) (length c.args.values.now))))

pub all_true-requires : goal.all_true-requires
all_true-requires c =
    inside-small c.args.self.now.domains.now _ _ c.requires.near c.loop-more.invariant.1.inside

pub step-more-requires : goal.step-more-requires
step-more-requires c =
    (inside-small c.args.self.now.domains.now _ _ c.requires.near c.loop-more.invariant.1.inside)

pub loop-more-smaller : goal.loop-more-smaller
loop-more-smaller c =
    let l = rw (listing-length _ _ _ _ c.loop-more.invariant.1 ∙ list_of-length _ _) at c.step-more.ensures in
    list-less _ _ _ _ c.loop-more.invariant.1 c.loop-more-test.true _ _ l.list l.more

pub loop-more-preserved : goal.loop-more-preserved
loop-more-preserved c =
    let l = rw (listing-length _ _ _ _ c.loop-more.invariant.1 ∙ list_of-length _ _) at c.step-more.ensures in
    let true_of = sym c.all_true.ensures in (
      count_turn _ _ _ c.loop-more.invariant.0 c.loop-more-test.true _ (elim c.if-all_true.branch [
        | then-all_true w ↦ inl (true_of ∙ w.if-all_true.true, w.count-is)
        | else-all_true w ↦ inr (true_of ∙ w.if-all_true.false, w.count-is)
      ]) _ _ l.list l.more,
      list-turn _ _ _ _ c.loop-more.invariant.1 c.loop-more-test.true _ _ (elim c.if-all_true.branch [
        | then-all_true w ↦ inl (true_of ∙ w.if-all_true.true, (w.out-is ∙ w.lay.ensures, w.at-is))
        | else-all_true w ↦ inr (true_of ∙ w.if-all_true.false, (w.out-is, w.at-is))
      ]) _ _ l.list l.more,
    )

pub returns : goal.returns
returns c = record {
  count = count-done _ _ _ c.loop-more.invariant.0 c.loop-more-test.false;
  output = list_done _ _ _ _ c.loop-more.invariant.1 c.loop-more-test.false;
}
