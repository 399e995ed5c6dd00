use Rattle.std.proofs.Common.{ap, ◌∙◌, min}
use Rattle.std.proofs.lemmas.List.{get_or_default}
use Rattle.integers.specs.Bounds.{width, bounds_in}
use Rattle.solutions.proofs.Counts.{more, done}
use Rattle.solutions.proofs.list_count.Goals as goal

pub loop-domain-preserved : goal.loop-domain-preserved
unfolding bounds_in
loop-domain-preserved c =
    more _ _ c.loop-domain.invariant c.loop-domain-test.true _ _
    (c.capped_count-width.ensures ∙ rw (c.width_of.ensures, c.domain-item.is) (ap (λ B. min (width B) 65537) (get_or_default c.args.domains.now c.loop-domain.domain-index _ _ c.loop-domain-test.true)))
    c.capped_count-count.ensures

pub returns : goal.returns
returns c = done _ _ c.loop-domain.invariant c.loop-domain-test.false
