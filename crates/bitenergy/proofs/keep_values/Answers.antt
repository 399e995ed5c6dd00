use Rattle.std.proofs.Common.{◌≡◌, ◌≤◌, arith, ℤ, nat_abs, get_or, set, get_or-set_same, get_or-set_other, w64, to_z, of_z}
use native.Mathlib.Decide.{ℕ_discrete}
use Rattle.integers.specs.Number.{+0}
use Rattle.integers.proofs.Fits.{back}
use Rattle.arguments.proofs.Size.{read}
use Rattle.bitrows.specs.Values.{largest_value}
use Rattle.bitenergy.specs.Reads.{value_of}
use Rattle.bitenergy.proofs.keep_values.Goals as goal

pub loop-v-preserved : goal.loop-v-preserved
loop-v-preserved c w h = go (ℕ_discrete w c.loop-v.v)
  where
    x : ℤ
    x = to_z w64 (of_z w64 c.read_variable.result)

    here : get_or (set c.loop-v.values c.loop-v.v x) c.loop-v.v +0 ≡ x
    here = get_or-set_same c.loop-v.values c.loop-v.v x +0 (omega (arith, c.loop-v-test.true, c.loop-v.auto.values))

    go : Dec (w ≡ c.loop-v.v) → (get_or (set c.loop-v.values c.loop-v.v x) w +0 ≡ value_of c.args.bits.now c.args.table.now w) × (nat_abs (get_or (set c.loop-v.values c.loop-v.v x) w +0) ≤ largest_value)
    go (yes e) = rw (e, here) (read c.read_variable.type_inv c.read_variable.ensures.value, rw (back c.read_variable.result c.read_variable.type_inv) c.read_variable.ensures.size)
    go (no n) = rw (get_or-set_other c.loop-v.values c.loop-v.v w x +0 n) (c.loop-v.invariant w (omega (arith, h)))

pub returns : goal.returns
returns c = record {
  is = λ v h. (c.loop-v.invariant v (omega (arith, h, c.loop-v-test.false, c.loop-v.auto.values))).0;
  near = λ v h. (c.loop-v.invariant v (omega (arith, h, c.loop-v-test.false, c.loop-v.auto.values))).1;
}
