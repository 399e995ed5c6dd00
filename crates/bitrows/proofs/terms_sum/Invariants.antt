-- The invariant: the sum of the terms passed, each at most 3 × 2^54 from 0.
use Rattle.std.proofs.Common.{◌≡◌, ℕ, ◌*◌, ◌≤◌, ℤ, nat_abs}
use Rattle.integers.specs.Terms.{sum}
use Rattle.rowsystems.specs.RowSystem.{terms_in}
use Rattle.bitlines.specs.Sizes as Size
use Rattle.bitrows.specs.Values.{Gives}
use Rattle.bitrows.proofs.terms_sum.Given as goal

abbrev pub invariant-loop-k : goal.invariant-loop-k
invariant-loop-k g l = ((σ : ℕ → ℤ) → Gives (goal.V-post g l.value) σ → l.total ≡ sum σ (terms_in l.args l.k)) × (nat_abs l.total ≤ l.k * (3 * Size.largest_product))
