-- the names before are found where one more is inserted
use Rattle.flattext.proofs.Keys.{has_more}
use Rattle.flattext.proofs.names.Names.put.Goals as goal

pub returns-clause-kept : goal.returns-clause-kept
returns-clause-kept c = has_more c.args.self.now.used c.insert.new.self c.in_ok-to_vec.field-0 c.in_ok-insert.ensures.keys
