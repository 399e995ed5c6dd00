-- How wide a variable is, and how many weights a width has at most.
use Rattle.std.proofs.Common.{List, ℕ, zero, suc, ◌+◌, ◌*◌, ◌-◌, ◌≤◌, ◌<◌, ◌^◌, pow-suc, mul-le-mul_right, arith, length}
use Rattle.integers.specs.Number.{◌⊖◌}
use Rattle.integers.specs.Bounds.{bounds_in}
use Rattle.integers.specs.declared.Bounds.{Bounds}
use Rattle.integers.proofs.Fits.{minus-size}
use Rattle.integers.proofs.Sums.{count-le}
use Rattle.words.specs.Small.{Near}
use Rattle.bitforms.specs.Weights.{weights_from, weights}
use Rattle.bitlines.specs.Sizes as Size
use Rattle.bittables.specs.BitTables.{span_in}

one_power : (b : ℕ) → 1 ≤ 2 ^ b
one_power zero = omega arith
one_power (suc b) = omega (arith, one_power b, pow-suc 2 b)

-- b weights reach 2^b − 1 times the first one
few-from : (b most k w : ℕ) → w + k ≤ 2 ^ b * k → length (weights_from most k w) ≤ b
unfolding weights_from
few-from b zero k w h = omega arith
few-from b (suc most) k zero h = omega arith
few-from zero (suc most) k (suc w) h = absurd (omega arith)
few-from (suc b) (suc most) k (suc w) h =
    let g = rw (pow-suc 2 b) at h in
    let d = mul-le-mul_right (2 * k) (one_power b) in
    let r = few-from b most (2 * k) (suc w - k) (omega arith) in
    omega arith

pub few-weights : (w : ℕ) → w < 4 * Size.sums → length (weights w) ≤ Size.most_weights
unfolding weights
few-weights w h = few-from 62 w 1 w (omega arith)

-- ---- the width of a variable

pub span_size : (Ds : List Bounds) (v : ℕ) → Near (bounds_in Ds v).lower → Near (bounds_in Ds v).upper → span_in Ds v ≤ Size.widest
unfolding span_in
span_size Ds v l u = omega (arith, count-le ((bounds_in Ds v).upper ⊖ (bounds_in Ds v).lower), minus-size (bounds_in Ds v).upper (bounds_in Ds v).lower)
