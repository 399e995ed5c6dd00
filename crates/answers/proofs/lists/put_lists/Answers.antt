-- The first of the lists left is appended.
use Rattle.std.proofs.Common.{arith}
use Rattle.answers.specs.Lists.{list_text}
use Rattle.answers.proofs.Listed.{one_left, enough, same}
use Rattle.answers.proofs.lists.put_lists.Goals as goal

pub split_at-requires : goal.split_at-requires
split_at-requires c = omega (arith, one_left c.loop-left.left c.args.n c.loop-left-test.true, c.loop-left.invariant.enough)

pub loop-left-preserved : goal.loop-left-preserved
loop-left-preserved c =
    let marks = c.args.marks.now in
    let split = c.split_at.ensures in
    record {
      enough = enough c.loop-left.left c.args.n c.loop-left.rest.now c.split_at.result.1.now c.loop-left-test.true split.back c.loop-left.invariant.enough;
      same =
          same c.loop-left.left c.args.n c.loop-left.rest.now c.split_at.result.1.now c.loop-left-test.true split.back (list_text marks.before.now marks.between.now marks.after.now) c.loop-left.out.items c.put_list.new.out.items _ c.split_at.result.0.now split.front
          c.in_ok-put_list.ensures c.loop-left.invariant.same;
    }
