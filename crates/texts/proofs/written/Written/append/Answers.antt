-- No word.
use Rattle.texts.proofs.Loop.{adds-none}
use Rattle.texts.proofs.written.Written.append.Goals as goal

pub returns-in-None : goal.returns-in-None
returns-in-None c = rw c.in-None.is (adds-none c.args.self.now)
