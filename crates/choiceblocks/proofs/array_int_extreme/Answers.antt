use Rattle.std.proofs.Common.{rules, sym, ℕ, ◌+◌}
use Rattle.integers.specs.Choice.{◌if◌else◌}
use Rattle.integers.specs.Bounds.{bounds_in}
use Rattle.models.specs.Model.{var}
use Rattle.laying.proofs.Written.{wrote-then, wrote-as}
use Rattle.choiceblocks.proofs.Blocks.{extreme-parts}
use Rattle.choiceblocks.proofs.array_int_extreme.Goals as goal

pub returns : goal.returns
returns c =
    let up = c.args.up in
    let m = var c.args.args.now 0 in
    let x : ℕ → ℕ = λ k. var c.args.args.now (2 + k) in
    let b = rw (c.size_at-n.ensures.value, c.var_at-m.ensures) at c.order.ensures in
    let d = rw c.size_at-n.ensures.value at c.first_only.ensures (λ k. x k if up else m) (λ k. m if up else x k) (λ k r h p. search rules) (λ k r h p. search rules) in
    wrote-as (sym (extreme-parts c.args.first (bounds_in c.args.domains.now) c.args.args.now up)) (wrote-then c.one_of.ensures (wrote-then b d))
