use Rattle.std.proofs.Common.{◌≡◌, ap, ◌∙◌, ℕ, ◌+◌, ◌<◌, ◌≤◌, max, arith, nat_abs, get_or, w64, to_z, of_z}
use native.Mathlib.Decide.{ℕ_discrete}
use Rattle.integers.specs.Number.{+0}
use Rattle.arguments.proofs.Size.{read}
use Rattle.bitlines.proofs.Dense.{peak-at}
use Rattle.bitbounds.proofs.Bounds.{larger_is, size-is, peak-below}
use Rattle.bitbounds.proofs.peak_of.Goals.{After-max-most}
use Rattle.bitbounds.proofs.peak_of.Goals as goal

-- the absolute value of the number passed
size : (c : After-max-most) → c.unsigned_abs.result ≡ nat_abs (get_or c.args.row.now c.loop-k.k +0)
size c = c.unsigned_abs.ensures.value ∙ size-is (to_z w64 (of_z w64 c.at_or.result)) ∙ ap nat_abs (read c.at_or.type_inv c.at_or.ensures)

pub loop-k-preserved : goal.loop-k-preserved
loop-k-preserved c =
    let e = size c in (
      omega (arith, larger, e, c.loop-k.invariant.0, peak-at c.args.row.now c.loop-k.k),
      λ j l. go j l (ℕ_discrete j c.loop-k.k),
    )
  where
    larger : c.max-most.result ≡ max c.loop-k.most c.unsigned_abs.result
    larger = c.max-most.ensures ∙ larger_is c.loop-k.most c.unsigned_abs.result

    go : (j : ℕ) → j < c.loop-k.k + 1 → Dec (j ≡ c.loop-k.k) → nat_abs (get_or c.args.row.now j +0) ≤ c.max-most.result
    go j l (yes q) = rw q (omega (arith, larger, size c))
    go j l (no n) = omega (arith, larger, c.loop-k.invariant.1 j (omega arith))

pub returns : goal.returns
returns c =
    omega (arith, c.loop-k.invariant.0, peak-below c.args.row.now c.loop-k.most (λ j l. c.loop-k.invariant.1 j (omega (arith, l, c.loop-k-test.false))))
