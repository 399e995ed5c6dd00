use Rattle.std.proofs.Common.{sym, ◌∙◌}
use Rattle.integers.specs.Number.{+0}
use Rattle.flatzinc.specs.declared.Argument.TheVariants.{Number}
use Rattle.flatsplitting.proofs.Finished as f
use Rattle.flatsplitting.proofs.cut_sum_at.Goals as goal

pub returns : goal.returns
returns c ts e =
    f.sum_put c.args.model.now c.cut_products.new.model c.args.arguments.now.items c.deref.result.now ts c.in-Some-Sum.products c.in_ok-rest-in-Some-Sum.rest
    c.deref-in-Some-Sum.result.now c.deref.ensures.value (sym c.in-Some-Sum.field-0-is ∙ c.in-Some-Sum.ensures.lookup.3.1 (Number +0)) c.deref-in-Some-Sum.ensures.value e c.in_ok-rest-in-Some-Sum.ensures
