-- The tokens in front, seen.
use Rattle.std.proofs.Common.{sym, ap, ◌∙◌, map}
use Rattle.std.proofs.lemmas.List.{take-map}
use Rattle.flattokens.specs.Token.{token}
use Rattle.flatstatements.proofs.notes.front_of.Goals as goal

pub returns : goal.returns
returns c = ap (map token) c.in_ok-front.ensures ∙ sym (take-map token c.args.count c.args.tokens.now)
