use Rattle.std.proofs.Common.{refl, arith, ◌≤◌, nat_abs, w64, to_z, of_z}
use Rattle.words.specs.Small.{Near}
use Rattle.words.proofs.ReadBack.{factors-fit}
use Rattle.flatsplitting.proofs.Sizes as s
use Rattle.flatsplitting.proofs.product_bounds.Goals as goal

pub times-low-requires : goal.times-low-requires
times-low-requires c =
    let n : Near (to_z w64 (of_z w64 c.args.n)) = s.near _ _ c.is_in_range.ensures c.if-not-is_in_range.false in
    let l : Near (to_z w64 (of_z w64 c.args.b.lower)) = s.near _ _ c.is_in_range-else-not-is_in_range.ensures c.if-not-is_in_range-2.false in
    let f = factors-fit (to_z w64 (of_z w64 c.args.n)) (to_z w64 (of_z w64 c.args.b.lower)) n l in
    omega arith

pub times-high-requires : goal.times-high-requires
times-high-requires c =
    let n : Near (to_z w64 (of_z w64 c.args.n)) = s.near _ _ c.is_in_range.ensures c.if-not-is_in_range.false in
    let u : Near (to_z w64 (of_z w64 c.args.b.upper)) = s.near _ _ c.is_in_range-else-not-is_in_range-2.ensures c.if-not-is_in_range-3.false in
    let f = factors-fit (to_z w64 (of_z w64 c.args.n)) (to_z w64 (of_z w64 c.args.b.upper)) n u in
    omega arith

pub returns-clause-size : goal.returns-clause-size
returns-clause-size c =
    let n : Near (to_z w64 (of_z w64 c.args.n)) = s.near _ _ c.is_in_range.ensures c.if-not-is_in_range.false in
    let l : Near (to_z w64 (of_z w64 c.args.b.lower)) = s.near _ _ c.is_in_range-else-not-is_in_range.ensures c.if-not-is_in_range-2.false in
    let u : Near (to_z w64 (of_z w64 c.args.b.upper)) = s.near _ _ c.is_in_range-else-not-is_in_range-2.ensures c.if-not-is_in_range-3.false in
    let f = factors-fit (to_z w64 (of_z w64 c.args.n)) (to_z w64 (of_z w64 c.args.b.lower)) n l in
    let g = factors-fit (to_z w64 (of_z w64 c.args.n)) (to_z w64 (of_z w64 c.args.b.upper)) n u in
    let a : nat_abs c.times-low.result ≤ 18014398509481984 = omega (arith, c.times-low.ensures.size) in
    let b : nat_abs c.times-high.result ≤ 18014398509481984 = omega (arith, c.times-high.ensures.size) in (
      rw (s.read c.least.type_inv c.least.ensures, s.read c.times-low.type_inv refl, s.read c.times-high.type_inv refl) (s.least-size _ _ a b),
      rw (s.read c.largest.type_inv c.largest.ensures, s.read c.times-low.type_inv refl, s.read c.times-high.type_inv refl) (s.largest-size _ _ a b),
    )
