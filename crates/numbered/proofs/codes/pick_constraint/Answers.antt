-- For a number that no builtin has nothing is picked.
use Rattle.std.proofs.Common.{sym}
use Rattle.picking.proofs.Codes.{unknown_picks}
use Rattle.picking.proofs.Puts.{puts_none}
use Rattle.numbered.proofs.codes.pick_constraint.Goals as goal

pub pick_constraint-requires : goal.pick_constraint-requires
pick_constraint-requires c = record { small = c.requires.small; picks = rw (sym c.in-Ok.ensures) at c.requires.picks }

pub returns-in-Ok : goal.returns-in-Ok
returns-in-Ok c = rw c.in-Ok.ensures at c.pick_constraint.ensures

pub returns-in-Err : goal.returns-in-Err
returns-in-Err c = rw (unknown_picks c.args.domains.now c.args.uses.now c.args.encoded.now c.args.values.now c.args.code c.args.args.now c.in-Err.ensures.1) puts_none
