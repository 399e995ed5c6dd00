-- The loop writes the row of one place in each turn, whatever the variables are.
use Rattle.std.proofs.Common.{◌≡◌, ℕ, ◌<◌}
use Rattle.integers.specs.Bounds.{bounds_in}
use Rattle.laying.proofs.Written.{Writing}
use Rattle.choiceblocks.specs.Rows.{first_at}
use Rattle.choiceblocks.proofs.rows.first_only.Given as goal

abbrev pub invariant-loop-k : goal.invariant-loop-k
invariant-loop-k g l =
    (x y : ℕ → ℕ) → ((k r : ℕ) → k < l.n → goal.X-post g l.lesser k r → r ≡ x k) → ((k r : ℕ) → k < l.n → goal.Y-post g l.larger k r → r ≡ y k) →
    Writing (first_at (bounds_in l.domains) x y l.v l.n) l.initial.writer l.writer l.k
