-- The lines are made, then taken.
use Rattle.std.proofs.Common.{sym, ◌∙◌, ℕ, ◌+◌, ◌<◌, ◌-◌, ◌*◌, ◌≤◌, arith, length}
use Rattle.std.proofs.Math.Nat.{mul-le-mul_right}
use Rattle.bittables.specs.Systems.{rows_of_system}
use Rattle.bitwriting.proofs.Band.{line-inside, line-length}
use Rattle.bitwriting.proofs.Putting.{line-taken}
use Rattle.bitwriting.specs.Bands.{line_at}
use Rattle.bitwriting.proofs.make_band.Goals.{After-take_band}
use Rattle.bitwriting.proofs.make_band.Goals as goal

-- one of the lines ends inside the band
inside : (c : After-take_band) (q : ℕ) → q < c.min-h.result → q * length c.args.row.now + length c.args.row.now ≤ length c.args.band.now
inside c q v =
    let l : c.min-h.result ≤ c.args.lines = omega (arith, c.min-h.ensures) in
    line-inside (length c.args.row.now) c.min-h.result q (length c.args.band.now) (omega (arith, mul-le-mul_right (length c.args.row.now) l, c.requires.sized.0.room)) v

pub returns : goal.returns
returns c = record {
  held = record {
    lines = λ q v.
        let n = length c.args.row.now in
        let f = inside (goal.at.returns c).After-take_band q (omega (arith, v)) in
        let x = line-length n q c.fill_band.new.band (omega (arith, f, c.fill_band.ensures.0)) in
        let y = line-length n q c.take_band.new.band (omega (arith, f, c.fill_band.ensures.0, c.take_band.ensures.same)) in
        line-taken (rows_of_system c.args.system.now) c.args.taken.now.times c.args.taken.now.added.now (line_at n q c.fill_band.new.band) (line_at n q c.take_band.new.band) (c.args.i + q) (n - (c.args.i + q)) (omega (arith, x, v, c.min-h.ensures)) (y ∙ sym x)
        (c.fill_band.ensures.1 q (omega (arith, v)))
        (c.take_band.ensures.lines q (omega (arith, v)));
    room = λ q v. omega (arith, inside (goal.at.returns c).After-take_band q (omega (arith, v)), c.fill_band.ensures.0, c.take_band.ensures.same);
  };
  more = (omega (arith, c.min-h.ensures, c.requires.sized), omega (arith, c.min-h.ensures, c.requires.sized), λ l. omega (arith, l, c.min-h.ensures, c.requires.sized));
  same = c.take_band.ensures.same ∙ c.fill_band.ensures.0;
}
