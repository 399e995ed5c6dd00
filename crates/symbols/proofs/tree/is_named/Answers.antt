-- Where the tags differ the names do.
use Rattle.std.proofs.Common.{sym, ap, ◌∙◌}
use Rattle.symbols.specs.Links.{tag}
use Rattle.symbols.proofs.Walk.{other_tag}
use Rattle.symbols.proofs.tree.is_named.Goals as goal

pub returns-then-tag_in-tag_of : goal.returns-then-tag_in-tag_of
returns-then-tag_in-tag_of c =
    sym (other_tag _ _ (λ e. c.if-tag_in-tag_of.true (c.tag_in.ensures ∙ c.requires.tagged ∙ sym e ∙ sym (ap tag c.requires.hashed) ∙ sym c.tag_of.ensures.0)))
