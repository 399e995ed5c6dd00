use Rattle.std.proofs.Common.{arith, to_z-of_z}
use Rattle.words.proofs.ReadBack.{near-back}
use Rattle.picking.proofs.Powers.{next_power, powers_one, half-ranged, square_in, odd_in, square-put, even_put, odd-put}
use Rattle.picking.proofs.Output.+powers.Goals as goal

pub returns-then-k-lt2 : goal.returns-then-k-lt2
returns-then-k-lt2 t c =
    rw (to_z-of_z c.ranges.x) (powers_one c.args.self.now c.args.x c.args.k c.if-k-lt2.true c.requires.1)

pub powers-half-requires : goal.powers-half-requires
powers-half-requires t c = (
  omega arith,
  rw (to_z-of_z c.ranges.x) (omega (arith, c.requires.0), c.requires.1, omega arith, omega (arith, c.requires.3), half-ranged c.args.x c.args.k c.if-k-lt2.false c.requires.4),
)

pub product-square-requires : goal.product-square-requires
product-square-requires t c =
    let h = rw (to_z-of_z c.ranges.x) at c.powers-half.ensures in
    rw (near-back _ h.near) (omega (arith, c.requires.0, c.requires.3, h.few), h.near, h.near, rw h.held (square_in c.args.x c.args.k c.if-k-lt2.false c.requires.4))

pub returns-then-k-eq0 : goal.returns-then-k-eq0
returns-then-k-eq0 t c =
    let h = rw (to_z-of_z c.ranges.x) at c.powers-half.ensures in
    let e = rw (near-back _ h.near) at c.product-square.ensures in
    let n = next_power e.puts e.value e.near in
    rw (near-back _ e.near) (even_put c.args.x c.args.k c.if-k-lt2.false h n c.if-k-eq0.true)

pub product-requires : goal.product-requires
product-requires t c =
    let h = rw (to_z-of_z c.ranges.x) at c.powers-half.ensures in
    let e = rw (near-back _ h.near) at c.product-square.ensures in
    let n = next_power e.puts e.value e.near in
    let q = square-put c.args.x c.args.k c.if-k-lt2.false h n in
    rw (to_z-of_z c.ranges.x, near-back _ n.near) (omega (arith, c.requires.0, c.requires.3, q.few), c.requires.1, n.near, rw q.held (odd_in c.args.x c.args.k c.if-k-lt2.false c.requires.4 c.if-k-eq0.false))

pub returns : goal.returns
returns t c =
    let h = rw (to_z-of_z c.ranges.x) at c.powers-half.ensures in
    let e = rw (near-back _ h.near) at c.product-square.ensures in
    let n = next_power e.puts e.value e.near in
    let m = rw (to_z-of_z c.ranges.x, near-back _ n.near) at c.product.ensures in
    rw (near-back _ m.near) (odd-put c.args.x c.args.k c.if-k-lt2.false h n c.if-k-eq0.false (next_power m.puts m.value m.near))
