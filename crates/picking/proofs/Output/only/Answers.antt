use Rattle.std.proofs.Common.{◌≡◌, ◌∙◌, ◌+◌, arith, pos, get_or, eqb, w64, to_z, of_z, to_z-of_z}
use Rattle.integers.specs.Choice.{◌if◌else◌}
use Rattle.words.proofs.Rest.{one-laid, all_laid}
use Rattle.picking.specs.Only.{only_at}
use Rattle.picking.proofs.Only.{only-length, get_or-only_at}
use Rattle.picking.proofs.Output.only.Goals.{In-loop-k}
use Rattle.picking.proofs.Output.only.Goals as goal

kept : (c : In-loop-k) → get_or (only_at c.args.n c.args.h c.args.v) c.loop-k.k (pos 0) ≡ (to_z w64 (of_z w64 c.args.v) if eqb c.loop-k.k c.args.h else pos 0)
kept c =
    get_or-only_at c.args.n c.args.h c.args.v c.loop-k.k c.loop-k-test.true ∙ rw (to_z-of_z c.ranges.v)

pub put_at_if-requires : goal.put_at_if-requires
put_at_if-requires c = (omega (arith, c.requires.0, c.loop-k.invariant.place, c.loop-k-test.true), rw (← kept (goal.at.put_at_if-requires c).In-loop-k) (c.requires.1 c.loop-k.k))

pub loop-k-preserved : goal.loop-k-preserved
loop-k-preserved c = record {
  place = c.put_at_if.ensures.place ∙ c.loop-k.invariant.place;
  laid =
      rw (to_z-of_z c.ranges.v)
      (one-laid (rw (to_z-of_z c.ranges.v) at c.loop-k.invariant.laid) (pos 0) (omega (arith, only-length c.args.n c.args.h c.args.v, c.loop-k-test.true))
      (rw (← kept (goal.at.loop-k-preserved c).In-loop-k, c.loop-k.invariant.place) at c.put_at_if.ensures.list));
  same_list = c.put_at_if.ensures.same_list ∙ c.loop-k.invariant.same_list;
}

pub returns : goal.returns
returns c =
    let l = all_laid (rw (to_z-of_z c.ranges.v) at c.loop-k.invariant.laid) (omega (arith, only-length c.args.n c.args.h c.args.v, c.loop-k-test.false)) in
    let e : c.loop-k.self.at + c.args.n ≡ c.args.self.now.at + c.args.n = omega (arith, c.loop-k.invariant.place) in
    record { laid = record { over = l.over; ends = e ∙ rw (only-length c.args.n c.args.h c.args.v) }; same_list = c.loop-k.invariant.same_list }
