use Rattle.std.proofs.Common.{sym, ◌∙◌}
use Rattle.integers.specs.Number.{+0}
use Rattle.flatzinc.specs.declared.Argument.TheVariants.{Number}
use Rattle.flatsplitting.specs.Pieces.{of_list}
use Rattle.flatsplitting.proofs.Finished as f
use Rattle.flatsplitting.proofs.cut_list_at.Goals as goal

pub returns : goal.returns
returns c xs e =
    f.list_put (of_list c.args.reading) c.args.model.now c.cut_atoms.new.model c.args.arguments.now.items c.deref.result.now c.args.at xs c.in-Some-Many.atoms c.in_ok-rest-in-Some-Many.rest
    c.deref-in-Some-Many.result.now c.deref.ensures.value (sym c.in-Some-Many.field-0-is ∙ c.in-Some-Many.ensures.lookup.3.1 (Number +0)) c.deref-in-Some-Many.ensures.value e c.in_ok-rest-in-Some-Many.ensures
