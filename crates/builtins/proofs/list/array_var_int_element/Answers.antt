-- Inside the list the value of the variable there is compared; outside it the test is false.
use Rattle.std.proofs.Common.{sym, ◌∙◌}
use Rattle.integers.specs.Terms.{value}
use Rattle.integers.proofs.Places.{map-list_of}
use Rattle.models.specs.Model.{var, vars}
use Rattle.models.specs.Meaning.{meaning}
use Rattle.arguments.proofs.Size.{read}
use Rattle.builtins.proofs.Element.{inside, outside}
use Rattle.builtins.proofs.list.array_var_int_element.Goals as goal

pub returns-in-Some : goal.returns-in-Some
unfolding meaning vars
returns-in-Some c =
    c.equal.ensures ∙ rw (read c.value.type_inv c.value.ensures, read c.value-in-Some.type_inv c.value-in-Some.ensures, c.past_at.ensures.value, map-list_of)
    (inside (λ k. value c.args.instance.now.values.now (var c.args.instance.now.args.now k)) _ _ _ _ (sym c.in-Some.ensures.value))

pub returns-in-None : goal.returns-in-None
unfolding meaning vars
returns-in-None c =
    rw map-list_of (outside (λ k. value c.args.instance.now.values.now (var c.args.instance.now.args.now k)) _ _ _ (sym c.in-None.ensures.value))
