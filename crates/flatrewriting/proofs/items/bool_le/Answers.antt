use Rattle.std.proofs.Common.{refl, ◌∙◌}
use Rattle.flatzinc.specs.Calls.{placed_all}
use Rattle.flatrewriting.specs.Arguments.{placed_given, at_given}
use Rattle.flatrewriting.specs.Rewritten.{rewritten}
use Rattle.flatrewriting.proofs.items.bool_le.Goals as goal

pub returns : goal.returns
unfolding placed_all rewritten placed_given at_given
returns c = c.in_ok-put_clause.ensures ∙ rw c.new-calls.ensures.items refl
