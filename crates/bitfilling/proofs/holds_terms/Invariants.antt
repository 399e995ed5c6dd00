-- The invariant: no term passed has one of the bits.
use Rattle.std.proofs.Common.{ℕ, ◌+◌, ◌<◌}
use Rattle.bittables.specs.BitTables.{firsts, counts}
use Rattle.bitrows.specs.Terms.{term_in}
use Rattle.bitfilling.specs.Idle.{NoBitOf, Idle}
use Rattle.bitfilling.proofs.holds_terms.Given as goal

abbrev pub invariant-loop-k : goal.invariant-loop-k
invariant-loop-k l = (j : ℕ) → j < l.k → (q : ℕ) → q < l.h → Idle (NoBitOf (firsts l.bits) (counts l.bits) (l.i + q)) (term_in l.args j)
