-- A band has room for a line of 1,024 numbers.
use Rattle.std.proofs.Common.{◌*◌, ◌/◌, ◌≤◌, arith}
use Rattle.std.proofs.Math.Nat.{mul-le-mul_right, div-mul-le_self, le-div_iff_mul-le}
use Rattle.bitwriting.proofs.lines_of.Goals as goal

pub returns : goal.returns
returns c =
    let l : c.min.result ≤ 30720 / c.args.n = omega (arith, c.min.ensures) in
    record {
      room = omega (arith, mul-le-mul_right c.args.n l, div-mul-le_self 30720 c.args.n);
      some = λ h.
          let f : 1 * c.args.n ≤ 30720 = omega (arith, c.requires) in
          let d = (le-div_iff_mul-le {k = c.args.n} {x = 1} {y = 30720} h).1 f in
          omega (arith, c.min.ensures, d, h);
    }
