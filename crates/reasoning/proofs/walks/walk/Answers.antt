use Rattle.std.proofs.Common.{refl, ℕ, arith, get_or, rules}
use lib.ListN.{length-replicate}
use Rattle.models.specs.Model.{headed, builtin}
use Rattle.rules.specs.Shared.{choice}
use Rattle.rules.specs.Translation.{block_of}
use Rattle.integers.specs.Bounds.{bounds_in}
use Rattle.encodings.specs.Uses.{shared_by}
use Rattle.encodings.proofs.Record.{placed_record}
use Rattle.blocks.proofs.OneBlock.{placed-wide}
use Rattle.checking.proofs.Kept.{few-constraints, none_left, head_at}
use Rattle.reasoning.specs.Walks.{BlockJudged}
use Rattle.reasoning.proofs.Walk.{near, narrow, summed, reads_back, room_after-block, own-there, walking, walk-ended, walk-stopped, walk-on}
use Rattle.reasoning.proofs.walks.walk.Goals.{After-judge_block-found}
use Rattle.reasoning.proofs.walks.walk.Goals as goal

-- the block that is judged is that of the k-th constraint
judged : (c : After-judge_block-found) →
    let r = c.args.read.now in
    let l = c.loop-k in
    BlockJudged c.args.bounds c.args.values.now l.first l.rows (block_of (bounds_in r.domains) (shared_by r.uses) l.encoded (headed r.ws.now (get_or r.heads l.k 0))) c.judge_block-found.result
unfolding block_of builtin choice
judged c = rw (c.constraint-constraint.ensures.code, c.constraint-constraint.ensures.arguments) at c.judge_block-found.ensures

pub invariant_of-context-clause-recorded : goal.invariant_of-context-clause-recorded
invariant_of-context-clause-recorded c = c.loop-k.invariant.0.walk.recorded

pub invariant_of-context-clause-small : goal.invariant_of-context-clause-small
invariant_of-context-clause-small c = omega (arith, c.loop-k.invariant.0.walk.room)

pub judge_block-found-requires : goal.judge_block-found-requires
unfolding block_of builtin choice
judge_block-found-requires c =
    let r = c.args.read.now in
    let w = c.loop-k.invariant.0.walk in
    let h = c.loop-k-test.true in (
      record {
        readable = record {
          near = near c.requires.0 w h;
          layable = rw (c.constraint-constraint.ensures.code, c.constraint-constraint.ensures.arguments, c.sum-sum.ensures) (placed-wide (bounds_in r.domains) (shared_by r.uses) (headed r.ws.now (get_or r.heads c.loop-k.k 0)) (narrow c.requires.0 w h), summed c.requires.0 w h);
          reads = rw (c.constraint-constraint.ensures.code, c.constraint-constraint.ensures.arguments) (reads_back c.requires.0 w h);
        };
        room = omega (arith, c.loop-k.invariant.1);
        there = rw (c.constraint-constraint.ensures.code, c.constraint-constraint.ensures.arguments) (own-there c.loop-k.invariant.0.there (head_at c.requires.0.listed.0 c.loop-k.k h));
        small = c.requires.1;
      },
      omega (arith, c.loop-k.invariant.0.small, few-constraints c.requires.0.listed.0),
    )

pub returns-in_default : goal.returns-in_default
returns-in_default c =
    walk-stopped c.loop-k.invariant.0 (head_at c.requires.0.listed.0 c.loop-k.k c.loop-k-test.true) (judged (goal.at.returns-in_default c).After-judge_block-found) (omega (arith, c.loop-k-test.true, c.requires.0.listed.0.seen.heads.counted)) c.in_default.not-Holds

pub overflow_add-first : goal.overflow_add-first
overflow_add-first c =
    omega (arith, room_after-block c.requires.0 c.loop-k.invariant.0.walk c.loop-k-test.true, (judged (goal.at.overflow_add-first c).After-judge_block-found).auxiliaries)

pub loop-k-preserved : goal.loop-k-preserved
loop-k-preserved c =
    let r = c.args.read.now in
    let d = placed_record (shared_by r.uses) c.loop-k.first c.loop-k.encoded (headed r.ws.now (get_or r.heads c.loop-k.k 0)) (rw (c.constraint-constraint.ensures.code, c.constraint-constraint.ensures.arguments) at c.record_encoding.ensures) in
    (walk-on c.loop-k.invariant.0 (head_at c.requires.0.listed.0 c.loop-k.k c.loop-k-test.true) (judged (goal.at.loop-k-preserved c).After-judge_block-found) c.in-Holds.is d, (search rules))

pub returns : goal.returns
returns c = walk-ended c.loop-k.invariant.0 (none_left c.requires.0.listed.0 c.loop-k-test.false) refl

pub loop-k-init : goal.loop-k-init
loop-k-init c = (walking c.requires.0, length-replicate {A = ℕ} 3072 0)
