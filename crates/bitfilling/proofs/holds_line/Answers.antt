-- Of a product, as of one bit.
use Rattle.std.proofs.Common.{◌≡◌, ◌+◌, arith}
use Rattle.bitfilling.proofs.holds_line.Goals as goal

pub returns : goal.returns
returns c e =
    let z : c.args.i + 0 ≡ c.args.i = omega arith in
    rw z at (c.holds_bits.ensures e 0 (omega arith))
