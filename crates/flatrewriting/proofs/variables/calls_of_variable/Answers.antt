use Rattle.std.proofs.Common.{refl, ◌∙◌}
use Rattle.flatzinc.specs.Calls.{placed_all}
use Rattle.flatrewriting.proofs.variables.calls_of_variable.Goals as goal

pub returns : goal.returns
unfolding placed_all
returns c = c.in_ok-put_given.ensures ∙ rw (c.in_ok-put_domain.ensures, c.new-calls.ensures.items) refl
