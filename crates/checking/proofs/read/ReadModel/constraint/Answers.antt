-- A model that was read has heads among its words, whose numbers are codes.
use Rattle.checking.proofs.Kept.{head-inside, known-code}
use Rattle.checking.proofs.read.ReadModel.constraint.Goals as goal

pub at-requires : goal.at-requires
at-requires c = head-inside c.requires.0.0 c.args.k c.requires.1

pub unreachable-requires : goal.unreachable-requires
unreachable-requires c = known-code c.requires.0.0 c.args.k c.requires.1 c.in-None.ensures
