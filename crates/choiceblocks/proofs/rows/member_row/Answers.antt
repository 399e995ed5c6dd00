use Rattle.std.proofs.Common.{rules, ◌+◌, get_or}
use Rattle.integers.specs.Number.{◌⊖◌, count, +0}
use Rattle.laying.proofs.Written.{wrote-then}
use Rattle.choiceblocks.specs.Rows.{sum_row}
use Rattle.choiceblocks.proofs.rows.member_row.Goals as goal

pub returns : goal.returns
unfolding sum_row
returns c = wrote-then c.head.ensures (wrote-then (c.multiples.ensures (λ k. c.args.v + count (get_or c.args.vs.now k +0 ⊖ c.args.from)) (λ k r h p. search rules)) c.row_end.ensures)
