use Rattle.std.proofs.Common.{ap, ◌∙◌, List, get_or}
use Rattle.grammar.specs.Form as Form
use Rattle.grammar.specs.Form.{argument_form}
use Rattle.grammar.specs.Machine.{form_or_missing}
use Rattle.grammar.proofs.Arguments.{looked_up}
use Rattle.grammar.proofs.form.argument.Goals as goal

pub returns-clause-value : goal.returns-clause-value
unfolding argument_form
returns-clause-value c =
    let h = c.get.ensures.lookup in
    ap form_or_missing c.copied.ensures
    ∙ looked_up c.arguments.result.now c.args.k c.get.result h.0 h.1
    ∙ ap (λ (forms : List Form.Form). get_or forms c.args.k Form.Missing) c.arguments.ensures
