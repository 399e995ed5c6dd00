-- Inside the list the number there is compared; outside it the test is false.
use Rattle.std.proofs.Common.{sym, ◌∙◌}
use Rattle.models.specs.Model.{num, nums}
use Rattle.models.specs.Meaning.{meaning}
use Rattle.arguments.proofs.Size.{read}
use Rattle.builtins.proofs.Element.{inside, outside}
use Rattle.builtins.proofs.list.array_int_element.Goals as goal

pub returns-in-Some : goal.returns-in-Some
unfolding meaning nums
returns-in-Some c =
    c.equal.ensures ∙ rw (read c.num_at.type_inv c.num_at.ensures.value, read c.value.type_inv c.value.ensures, c.past_at.ensures.value)
    (inside (num c.args.instance.now.args.now) _ _ _ _ (sym c.in-Some.ensures.value))

pub returns-in-None : goal.returns-in-None
unfolding meaning nums
returns-in-None c = outside (num c.args.instance.now.args.now) _ _ _ (sym c.in-None.ensures.value)
