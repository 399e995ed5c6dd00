-- By the law of what is read.
use Rattle.flattokens.proofs.Lexing.{is_lexed}
use Rattle.flattokens.proofs.reading.next_statement.Goals as goal

pub returns-clause-lexes : goal.returns-clause-lexes
returns-clause-lexes c = is_lexed _ _ c.tokens_of.ensures.read
