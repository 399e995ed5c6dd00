-- How large lf × vg + lg × (vf − lf) is.
use Rattle.std.proofs.Common.{◌*◌, ◌≤◌, ◌<◌, arith, ℤ, nat_abs}
use Rattle.integers.specs.Number.{◌⊖◌, ◌⊗◌}
use Rattle.integers.proofs.Fits.{minus-size, times-size, mul-le}

-- lf × vg + lg × (vf − lf)
pub less-size : (lf vf lg vg : ℤ) → nat_abs lf ≤ 134217728 → nat_abs lg ≤ 134217728 → nat_abs vf ≤ 402653184 → nat_abs vg ≤ 402653184 →
    (nat_abs (vf ⊖ lf) ≤ 536870912) × (nat_abs lg * nat_abs (vf ⊖ lf) < 9223372036854775808) × (nat_abs (lf ⊗ vg) ≤ 54043195528445952) × (nat_abs (lg ⊗ (vf ⊖ lf)) ≤ 72057594037927936)
less-size lf vf lg vg a b c d =
    let m = minus-size vf lf in
    let n : nat_abs (vf ⊖ lf) ≤ 536870912 = omega arith in
    let p = mul-le b n in
    let q = mul-le a d in
    (n, omega (arith, p), omega (arith, q, times-size lf vg), omega (arith, p, times-size lg (vf ⊖ lf)))
