-- A signed payload is near 0.
use Rattle.words.proofs.ReadBack.{signed-near}
use Rattle.integers.proofs.Fits.{back}
use Rattle.bittables.proofs.signed_at.Goals as goal

pub returns-clause-near : goal.returns-clause-near
returns-clause-near c = rw (back c.signed.result c.signed.type_inv, c.signed.ensures) (signed-near _)
