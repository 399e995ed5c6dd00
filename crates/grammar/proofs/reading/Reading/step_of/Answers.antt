-- The last item's keyword.
use Rattle.grammar.specs.Grammar.{step}
use Rattle.integers.specs.Lists.{list_of}
use Rattle.tokens.specs.Byte.{bytes}
use Rattle.tokens.specs.Unread.{spanned}
use Rattle.names.specs.Name.{is_word}
use Rattle.grammar.proofs.reading.Reading.step_of.Goals as goal

pub returns-in-Satisfy : goal.returns-in-Satisfy
unfolding step spanned is_word bytes list_of
returns-in-Satisfy c = rw (c.in-Satisfy.is, ← c.is_word.ensures) c.fitting-in-Satisfy.ensures
