use Rattle.std.proofs.Common.{rules}
use Rattle.integers.specs.Bounds.{bounds_in}
use Rattle.laying.proofs.Written.{wrote-then}
use Rattle.choiceblocks.specs.Rows.{one_of_parts}
use Rattle.choiceblocks.proofs.one_of.Goals as goal

-- Bounds, the row of the bits, products and their row.
pub returns : goal.returns
unfolding one_of_parts
returns c =
    let n = c.size_at-n.ensures.value in
    wrote-then (rw n at c.gates.ensures (bounds_in c.args.domains.now) (λ x r p. search rules) (λ x r p. search rules)) (wrote-then (rw n at c.one_bit.ensures) (rw (n, c.var_at.ensures) at c.gated.ensures))
