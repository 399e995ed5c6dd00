-- The tokens left, seen.
use Rattle.std.proofs.Common.{sym, ap, ◌∙◌, map}
use Rattle.std.proofs.lemmas.List.{drop-map}
use Rattle.flattokens.specs.Token.{token}
use Rattle.flatstatements.proofs.front.rest_at.Goals as goal

pub returns : goal.returns
returns c = ap (map token) c.tail.ensures ∙ sym (drop-map token c.args.at c.args.tokens.now)
