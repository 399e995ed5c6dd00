use Rattle.std.proofs.Common.{refl, ◌∙◌}
use Rattle.std.proofs.lemmas.Result.{on_ok_weaker}
use Rattle.flatrewriting.specs.Arguments.{placed_given, at_given}
use Rattle.flatrewriting.specs.Variables.{domain_items}
use Rattle.flatrewriting.proofs.variables.put_domain.Goals as goal

pub returns-in_ok-from_slice-in-Among : goal.returns-in_ok-from_slice-in-Among
unfolding placed_given at_given domain_items
returns-in_ok-from_slice-in-Among c =
    on_ok_weaker c.put_call.result (λ e. e ∙ rw (c.in-Among.is, c.in_ok-from_slice-in-Among.ensures.items, c.deref.ensures.value) refl) c.put_call.ensures
