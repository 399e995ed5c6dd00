use Rattle.arguments.proofs.Size.{read}
use Rattle.laying.proofs.Written.{wrote-then}
use Rattle.choiceblocks.specs.Rows.{later_row}
use Rattle.choiceblocks.proofs.rows.later.Goals as goal

pub returns : goal.returns
unfolding later_row
returns c =
    let K = read c.gap_plus-p.type_inv c.gap_plus-p.ensures.value in
    let e = rw (K, c.domain_of.ensures, c.domain_of-2.ensures) at c.same.ensures in
    let f = rw (read c.minus.type_inv c.minus.ensures.value, K, c.domain_of.ensures, c.domain_of-2.ensures) at c.constant.ensures in
    wrote-then c.head.ensures (wrote-then c.term.ensures (wrote-then c.term-2.ensures (wrote-then e f)))
