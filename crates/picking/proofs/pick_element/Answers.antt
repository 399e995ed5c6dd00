-- The bits of the labels.
use Rattle.arguments.proofs.Size.{read}
use Rattle.picking.proofs.Codes.{element-picks}
use Rattle.picking.proofs.pick_element.Goals as goal

pub returns-clause-puts : goal.returns-clause-puts
returns-clause-puts c =
    rw (element-picks c.args.domains.now c.args.near.now.instance)
    (rw (c.labels_of.ensures, read c.value.type_inv c.value.ensures.value) at c.labels.ensures.puts)
