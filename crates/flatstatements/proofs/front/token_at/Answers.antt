-- The token at a place, seen.
use Rattle.flattokens.specs.Token.{token}
use Rattle.flatstatements.proofs.Lists.{seen_front}
use Rattle.flatstatements.proofs.front.token_at.Goals as goal

pub returns : goal.returns
returns c = seen_front token c.args.tokens.now c.args.at _ c.if-tokens-at.false
