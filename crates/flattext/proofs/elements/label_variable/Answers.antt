-- the variable that was read is written back with a name more
use Rattle.std.proofs.Common.{◌<◌, length, arith}
use Rattle.flattext.proofs.Labels.{on_ok, label_set}
use Rattle.flattext.proofs.elements.label_variable.Goals as goal

pub returns-then-v-names : goal.returns-then-v-names
returns-then-v-names c =
    let lt : c.args.v < length c.args.names.now = omega arith in
    on_ok c.label.result _ _ (label_set c.args.names.now c.args.v c.index-names-v.result c.label.new.self c.args.label.now lt) c.label.ensures
