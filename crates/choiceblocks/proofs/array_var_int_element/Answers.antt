use Rattle.std.proofs.Common.{rules, sym}
use Rattle.integers.specs.Bounds.{bounds_in}
use Rattle.models.specs.Model.{var, past}
use Rattle.arguments.proofs.Size.{read}
use Rattle.laying.proofs.Written.{wrote-then, wrote-as}
use Rattle.choiceblocks.proofs.Blocks.{variable-element}
use Rattle.choiceblocks.proofs.array_var_int_element.Goals as goal

-- Bounds, the rows of the choice, products and their row.
pub returns : goal.returns
returns c =
    let n = c.labels-n.ensures.value in
    let p = c.element_places-places.ensures in
    let f = c.first_element-base.ensures.value in
    let L = read c.lower.type_inv c.lower.ensures.value in
    let a = rw (n, f, L, p) at c.gates.ensures (bounds_in c.args.domains.now) (λ x r p. search rules) (λ x r p. search rules) in
    let b = rw (n, read c.lower-2.type_inv c.lower-2.ensures.value, p, c.var_at.ensures) at c.choice.ensures in
    let d = rw (n, f, L, p, c.var_at-2.ensures, c.past_at.ensures.value) at c.gated.ensures in
    wrote-as (sym (variable-element c.args.first (bounds_in c.args.domains.now) c.args.args.now (var c.args.args.now 0) (var c.args.args.now (past c.args.args.now 1)))) (wrote-then a (wrote-then b d))
