use Rattle.std.proofs.Common.{map}
use Rattle.flatzinc.specs.Seen.{value}
use Rattle.flatrewriting.proofs.Coded.{clause-rewritten, plain-rewritten}
use Rattle.flatrewriting.proofs.items.coded.Goals as goal

pub returns-in-BoolClause : goal.returns-in-BoolClause
returns-in-BoolClause c = rw (c.in-BoolClause.is, clause-rewritten (map value c.args.values.now)) c.clause.ensures

pub returns-in_default : goal.returns-in_default
returns-in_default c = rw (plain-rewritten c.args.code c.in_default.not-BoolClause (map value c.args.values.now)) c.plain.ensures
