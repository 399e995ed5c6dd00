-- A table that is not whole has not all names: the text is walked.
use Rattle.symbols.specs.Symbol.{declared_before}
use Rattle.symbols.proofs.Symbols.variable.Goals as goal

pub returns-else-self : goal.returns-else-self
unfolding declared_before
returns-else-self c = c.variable_of.ensures
