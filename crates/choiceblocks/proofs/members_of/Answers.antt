use Rattle.std.proofs.Common.{arith, to_z-of_z}
use Rattle.integers.specs.Number.{+0}
use Rattle.integers.specs.Bounds.{◌to◌}
use Rattle.models.specs.Model.{nums}
use Rattle.rules.specs.Parts.{members}
use Rattle.extremes.proofs.Rising.{members-length}
use Rattle.extremes.proofs.Kept.{over_zeros}
use Rattle.choiceblocks.proofs.members_of.Goals as goal

-- The members over zeros, and how many and how large they are.
pub returns : goal.returns
returns c =
    let B = c.args.lower to c.args.upper in
    let e = rw (to_z-of_z c.ranges.lower, to_z-of_z c.ranges.upper, c.requires.1) at c.members.ensures in
    let l = members-length c.args.args.now 1 B in
    let same = over_zeros +0 32 (members (nums c.args.args.now 1) B) l in
    record {
      many = e.count;
      few = omega (arith, e.count, l);
      same = λ k. rw e.listed (same k);
      near = λ k. rw (e.listed, same k) (omega (arith, e.near k));
    }
