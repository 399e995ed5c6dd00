-- The picks of the definition are in the range.
use Rattle.filling.proofs.Ranges.{values-small, picks-ranged, picks-fit}
use Rattle.filling.proofs.write_filled.Goals as goal

pub write_picks-requires : goal.write_picks-requires
write_picks-requires c =
    let ws = c.args.read.now.ws.now in
    let vs = c.args.values.now in
    (c.requires.0, values-small ws c.requires.1 vs c.requires.2, picks-ranged ws c.requires.1 vs c.requires.2, c.requires.2.one_each, picks-fit ws c.requires.1 vs c.requires.2)
