use Rattle.std.proofs.Common.{sym, ◌∙◌, eq-eqb, ne_eqb}
use Rattle.arguments.proofs.Size.{read}
use Rattle.integers.specs.Bounds.{bounds_in}
use Rattle.models.specs.Model.{var}
use Rattle.laying.proofs.Written.{wrote-nothing, wrote-as}
use Rattle.sharedblocks.proofs.Blocks.{own-rows, no_rows}
use Rattle.sharedblocks.proofs.SharedBlock.write_new_rows.Goals as goal

-- The two rows where the bits are new, else nothing.
pub returns-then-at_or-eq0 : goal.returns-then-at_or-eq0
returns-then-at_or-eq0 c =
    let e = rw c.var_at-x.ensures at c.at_or.ensures in
    let i = c.index_of-index.ensures in
    let a = rw (read c.lower.type_inv c.lower.ensures.value, c.width_of.ensures, i, c.var_at-x.ensures) at c.choice.ensures in
    wrote-as (sym (own-rows (bounds_in c.args.self.now.domains.now) c.args.self.now.encoded.now (var c.args.self.now.args.now 0) c.args.self.now.first (eq-eqb _ _ (sym e ∙ c.if-at_or-eq0.true)))) (a)

pub returns-else-at_or-eq0 : goal.returns-else-at_or-eq0
returns-else-at_or-eq0 c =
    let e = rw c.var_at-x.ensures at c.at_or.ensures in
    wrote-as (sym (no_rows (bounds_in c.args.self.now.domains.now) c.args.self.now.encoded.now (var c.args.self.now.args.now 0) c.args.self.now.first (ne_eqb _ _ (λ z. c.if-at_or-eq0.false (e ∙ z))))) wrote-nothing
