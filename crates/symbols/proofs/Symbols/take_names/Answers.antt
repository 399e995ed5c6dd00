-- No name has a number.
use Rattle.symbols.proofs.Symbols.take_names.Goals as goal

pub loop-token-init : goal.loop-token-init
loop-token-init c = (c.requires.inside, c.clear.ensures c.args.text.now)

pub loop-token-preserved : goal.loop-token-preserved
loop-token-preserved c = (c.in-Some.ensures.inside, c.take_token.ensures)
