use Rattle.std.proofs.Common.{◌≡◌, ap, ◌-◌, ◌≤◌, arith, length, get_or}
use Rattle.models.specs.Model.{headed}
use Rattle.rules.specs.Shared.{choice, encodes, encoded_after}
use Rattle.integers.specs.Bounds.{bounds_in}
use Rattle.encodings.specs.Uses.{shared_by}
use borrow.Rule.Slice.PartMut.{mid_of}
use Rattle.rules.specs.Translation.{block_of}
use Rattle.laying.specs.Part.{block_parts}
use Rattle.laying.specs.Appends.{AppendsFitting, nothing}
use Rattle.checking.proofs.Kept.{few-variables, none_left, head_at, summed_at}
use Rattle.encodings.proofs.Record.{placed_record}
use Rattle.blocks.proofs.OneBlock.{told, placed-wide, placed-block}
use Rattle.translation.proofs.Tail.{block_back}
use Rattle.translation.proofs.WriteWalk.{begun, not_wide, not-outside, more, done, blocks-are, all-fine}
use Rattle.translation.proofs.writing.write_blocks.Goals.{After-block-laid, After-record_encoding, At-loop-k}
use Rattle.translation.proofs.writing.write_blocks.Goals as goal

-- the place is inside the output
fits : (c : At-loop-k) → c.loop-k.at ≤ length c.loop-k.out
fits c =
    omega (arith, c.loop-k.invariant.total, c.loop-k.invariant.same, ap length (blocks-are c.requires.0.0), c.requires.0.0.seen.sources_counted, c.requires.2)

-- its block went over the lent tail
went : (c : After-block-laid) →
    let r = c.args.read.now in
    let l = c.loop-k in
    AppendsFitting nothing c.block-laid.result (mid_of l.at (length l.out - l.at) l.out) c.block-laid.new.out (block_parts l.first (block_of (bounds_in r.domains) (shared_by r.uses) l.encoded (headed r.ws.now (get_or r.heads l.k 0))))
went c =
    let at = get_or c.args.read.now.heads c.loop-k.k 0 in
    placed-block (bounds_in c.args.read.now.domains) (shared_by c.args.read.now.uses) (headed c.args.read.now.ws.now at) c.loop-k.first c.loop-k.encoded (rw (c.constraint-constraint.ensures.code, c.constraint-constraint.ensures.arguments) at c.block-laid.ensures.parts)

-- the record after it
recorded : (c : After-record_encoding) →
    let r = c.args.read.now in
    let l = c.loop-k in
    c.record_encoding.new.encoded ≡ encoded_after (shared_by r.uses) l.first l.encoded (encodes (choice (headed r.ws.now (get_or r.heads l.k 0))))
recorded c =
    let at = get_or c.args.read.now.heads c.loop-k.k 0 in
    placed_record (shared_by c.args.read.now.uses) c.loop-k.first c.loop-k.encoded (headed c.args.read.now.ws.now at) (rw (c.constraint-constraint.ensures.code, c.constraint-constraint.ensures.arguments) at c.record_encoding.ensures)

pub invariant_of-context-clause-recorded : goal.invariant_of-context-clause-recorded
invariant_of-context-clause-recorded c = c.loop-k.invariant.recorded

pub invariant_of-context-clause-small : goal.invariant_of-context-clause-small
invariant_of-context-clause-small c = omega (arith, c.loop-k.invariant.room)

pub block-laid-requires : goal.block-laid-requires
block-laid-requires c =
    let r = c.args.read.now in
    let at = get_or r.heads c.loop-k.k 0 in
    rw (c.constraint-constraint.ensures.code, c.constraint-constraint.ensures.arguments, c.sum.ensures) (
      placed-wide (bounds_in r.domains) (shared_by r.uses) (headed r.ws.now at) (not_wide c.loop-k.invariant (head_at c.requires.0.0 c.loop-k.k c.loop-k-test.true)),
      summed_at c.requires.0.0 c.loop-k.k c.loop-k-test.true r.sums c.requires.0.1,
    )

pub loop-k-preserved : goal.loop-k-preserved
loop-k-preserved c =
    let w = went (goal.at.loop-k-preserved c).After-block-laid in
    let h = head_at c.requires.0.0 c.loop-k.k c.loop-k-test.true in
    more c.loop-k.invariant h (told w)
    (block_back c.loop-k.first (block_of (bounds_in c.args.read.now.domains) (shared_by c.args.read.now.uses) c.loop-k.encoded (headed c.args.read.now.ws.now (get_or c.args.read.now.heads c.loop-k.k 0))) c.loop-k.at c.loop-k.out (fits (goal.at.loop-k-preserved c).At-loop-k) (not-outside c.loop-k.invariant h) w)
    (recorded (goal.at.loop-k-preserved c).After-record_encoding)

pub returns : goal.returns
returns c =
    let w = rw (blocks-are c.requires.0.0, c.requires.0.0.seen.sources_counted) at (done c.loop-k.invariant (none_left c.requires.0.0 c.loop-k-test.false)) in
    record { end = w.0; output = w.1 }

pub loop-k-init : goal.loop-k-init
loop-k-init c = begun _ _ _ _ _ _ (few-variables c.requires.0.0) (all-fine c.requires.0.0 c.requires.1)
