use Rattle.std.proofs.Common.{◌≡◌, refl, ap, ◌∙◌, arith, length, get_or}
use Rattle.models.specs.Model.{headed, constraints}
use Rattle.rules.specs.Shared.{none_yet, choice, encodes, encoded_after}
use Rattle.rules.specs.Translation.{picks}
use Rattle.encodings.specs.Uses.{shared_by}
use Rattle.picking.proofs.Picks.{picks_from, begun, here-ranged, picked, place-le, all_picked, picks-from}
use Rattle.checking.proofs.Kept.{none_left, head_at}
use Rattle.encodings.proofs.Record.{placed_record}
use Rattle.filling.proofs.Ranges.{block-picks}
use Rattle.filling.proofs.write_picks.Goals.{After-record_encoding, Start}
use Rattle.filling.proofs.write_picks.Goals as goal

-- the picks are those of the definition
same : (c : Start) →
    let r = c.args.read.now in
    picks r.ws.now c.args.values.now ≡ picks_from r.domains r.uses c.args.values.now c.args.output.now.at none_yet (constraints r.ws.now)
same c =
    let r = c.args.read.now in
    rw c.requires.3 (picks-from r.domains r.uses c.args.values.now r.ws.now c.requires.0.0.same c.requires.0.0.shares)

-- the record after it
recorded : (c : After-record_encoding) →
    let r = c.args.read.now in
    let l = c.loop-k in
    c.record_encoding.new.encoded ≡ encoded_after (shared_by r.uses) l.output.at l.encoded (encodes (choice (headed r.ws.now (get_or r.heads l.k 0))))
recorded c =
    let r = c.args.read.now in
    placed_record (shared_by r.uses) c.loop-k.output.at c.loop-k.encoded (headed r.ws.now (get_or r.heads c.loop-k.k 0)) (rw (c.constraint-constraint.ensures.code, c.constraint-constraint.ensures.arguments) at c.record_encoding.ensures)

pub pick_constraint-requires : goal.pick_constraint-requires
pick_constraint-requires c =
    let r = c.args.read.now in
    let here = headed r.ws.now (get_or r.heads c.loop-k.k 0) in
    let f = c.loop-k.invariant.filling in
    record {
      small = c.requires.1;
      picks = record {
        place = omega (arith, place-le f, ap length (same (goal.at.pick_constraint-requires c).Start), c.requires.4);
        ranged = rw (c.constraint-constraint.ensures.code, c.constraint-constraint.ensures.arguments) (here-ranged f (head_at c.requires.0.0 c.loop-k.k c.loop-k-test.true) (block-picks r.domains r.uses c.loop-k.encoded c.args.values.now here));
      };
    }

pub loop-k-preserved : goal.loop-k-preserved
loop-k-preserved c =
    let r = c.args.read.now in
    let here = headed r.ws.now (get_or r.heads c.loop-k.k 0) in
    let p = rw (c.constraint-constraint.ensures.code, c.constraint-constraint.ensures.arguments) at c.pick_constraint.ensures in
    record {
      filling = picked c.loop-k.invariant.filling (head_at c.requires.0.0 c.loop-k.k c.loop-k-test.true) (block-picks r.domains r.uses c.loop-k.encoded c.args.values.now here) p.laid (recorded (goal.at.loop-k-preserved c).After-record_encoding);
      same_list = p.same_list ∙ c.loop-k.invariant.same_list;
    }

pub loop-k-init : goal.loop-k-init
loop-k-init c = record { filling = begun _ _ _ _ _ _ (rw (← same (goal.at.loop-k-init c).Start) c.requires.2); same_list = refl }

pub returns : goal.returns
returns c =
    rw (same (goal.at.returns c).Start)
    record { laid = all_picked c.loop-k.invariant.filling (none_left c.requires.0.0 c.loop-k-test.false); same_list = c.loop-k.invariant.same_list }
