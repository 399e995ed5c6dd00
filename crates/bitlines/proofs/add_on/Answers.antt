-- Nothing is added where i is not the lesser one.
use Rattle.std.proofs.Common.{refl, sym, ◌∙◌, min, to_z-of_z, eq-eqb, ne_eqb}
use Rattle.bitlines.specs.Dense.{add_terms}
use Rattle.bitlines.specs.Line.{on_terms}
use Rattle.bitlines.proofs.add_on.Goals as goal

pub returns-then-min-i : goal.returns-then-min-i
unfolding on_terms add_terms
returns-then-min-i c =
    c.add_at.ensures ∙ rw (to_z-of_z c.ranges.c, c.max.ensures, eq-eqb (min c.args.a c.args.b) c.args.i (sym c.min.ensures ∙ c.if-min-i.true)) refl

pub returns-else-min-i : goal.returns-else-min-i
unfolding on_terms add_terms
returns-else-min-i c = rw (ne_eqb _ _ (λ e. c.if-min-i.false (c.min.ensures ∙ e))) refl
