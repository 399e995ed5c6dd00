-- A signed payload is near 0.
use Rattle.words.proofs.ReadBack.{signed-near}
use Rattle.arguments.proofs.Size.{read}
use Rattle.arguments.proofs.num_at.Goals as goal

pub returns-clause-near : goal.returns-clause-near
returns-clause-near c = rw (read c.signed.type_inv c.signed.ensures) (signed-near c.at.result)
