use Rattle.std.proofs.Common.{sym}
use Rattle.integers.specs.Bounds.{bounds_in}
use Rattle.models.specs.Model.{var, past}
use Rattle.arguments.proofs.Size.{read}
use Rattle.laying.proofs.Written.{wrote-then, wrote-as}
use Rattle.choiceblocks.proofs.Blocks.{number-element}
use Rattle.choiceblocks.proofs.array_int_element.Goals as goal

-- Bits, the rows of the choice, the row of the numbers.
pub returns : goal.returns
returns c =
    let n = c.labels-n.ensures.value in
    let p = c.element_places-places.ensures in
    let a = rw n at c.bits.ensures in
    let b = rw (n, read c.lower.type_inv c.lower.ensures.value, p, c.var_at.ensures) at c.choice.ensures in
    let d = rw (n, c.first_element.ensures.value, read c.lower-2.type_inv c.lower-2.ensures.value, p, c.var_at-2.ensures, c.past_at.ensures.value) at c.number_row.ensures in
    wrote-as (sym (number-element c.args.first (bounds_in c.args.domains.now) c.args.args.now (var c.args.args.now 0) (var c.args.args.now (past c.args.args.now 1)))) (wrote-then a (wrote-then b d))
