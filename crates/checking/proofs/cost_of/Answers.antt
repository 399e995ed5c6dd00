use Rattle.std.proofs.Common.{sym, ◌∙◌, arith}
use Rattle.std.proofs.lemmas.Result.{err_from_is_err_and}
use Rattle.blocks.proofs.OneBlock.{told}
use Rattle.checking.proofs.Costs.{wide_costs, refused_costs, laid_costs}
use Rattle.checking.proofs.cost_of.Goals as goal

-- Fault 12 before the block is laid, then 13 and 14 by what the block counts.
pub returns-then-too_wide : goal.returns-then-too_wide
returns-then-too_wide c = wide_costs (sym c.too_wide.ensures ∙ c.if-too_wide.true)

pub returns-in_err-check_block : goal.returns-in_err-check_block
returns-in_err-check_block c =
    let p = err_from_is_err_and c.from_residual.result c.from_residual.ensures.1 in
    rw (p.1, p.2) (refused_costs (sym c.too_wide.ensures ∙ c.if-too_wide.false) (told c.block-laid.ensures.parts) (rw c.in_err-check_block.was at c.check_block.ensures))

pub returns : goal.returns
returns c =
    laid_costs (sym c.too_wide.ensures ∙ c.if-too_wide.false) (told c.block-laid.ensures.parts) (omega (arith, c.block-laid.ensures.size)) (rw c.in_ok-check_block.was at c.check_block.ensures)
