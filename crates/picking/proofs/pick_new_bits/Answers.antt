-- The bits of 28, where none are recorded.
use Rattle.std.proofs.Common.{sym, ◌∙◌, eq-eqb, ne_eqb}
use Rattle.picking.proofs.Puts.{puts_none}
use Rattle.rules.specs.Shared.{new_pick}
use Rattle.picking.proofs.Codes.{set-picks}
use Rattle.picking.proofs.pick_new_bits.Goals as goal

pub returns-then-at_or-eq0-clause-puts : goal.returns-then-at_or-eq0-clause-puts
unfolding new_pick
returns-then-at_or-eq0-clause-puts c =
    let e = rw c.var_at.ensures at c.at_or.ensures in
    rw (eq-eqb _ _ (sym e ∙ c.if-at_or-eq0.true)) (rw (set-picks c.args.domains.now c.args.near.now.instance) at c.pick_set_reif.ensures.puts)

pub returns-else-at_or-eq0-clause-puts : goal.returns-else-at_or-eq0-clause-puts
unfolding new_pick
returns-else-at_or-eq0-clause-puts c =
    let e = rw c.var_at.ensures at c.at_or.ensures in
    rw (ne_eqb _ _ (λ z. c.if-at_or-eq0.false (e ∙ z))) puts_none
