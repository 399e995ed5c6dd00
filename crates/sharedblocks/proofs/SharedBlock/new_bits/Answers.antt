use Rattle.std.proofs.Common.{sym, ◌∙◌, eq-eqb, ne_eqb}
use Rattle.integers.specs.Bounds.{bounds_in}
use Rattle.models.specs.Model.{var}
use Rattle.sharedblocks.proofs.Blocks.{length-new_bits, no_bits}
use Rattle.sharedblocks.proofs.SharedBlock.new_bits.Goals as goal

-- As many as the variable has values, or none.
pub returns-then-at_or-eq0-clause-value : goal.returns-then-at_or-eq0-clause-value
returns-then-at_or-eq0-clause-value c =
    let e = rw c.var_at.ensures at c.at_or.ensures in
    rw c.index_of.ensures at c.width_of.ensures ∙ sym (length-new_bits (bounds_in c.args.self.now.domains.now) c.args.self.now.encoded.now (var c.args.self.now.args.now 0) (eq-eqb _ _ (sym e ∙ c.if-at_or-eq0.true)))

pub returns-clause-value : goal.returns-clause-value
returns-clause-value c =
    let e = rw c.var_at.ensures at c.at_or.ensures in
    sym (no_bits (bounds_in c.args.self.now.domains.now) c.args.self.now.encoded.now (var c.args.self.now.args.now 0) (ne_eqb _ _ (λ z. c.if-at_or-eq0.false (e ∙ z))))
