-- An empty map declares nothing.
use Rattle.flatnames.proofs.Scopes.{undeclared}
use Rattle.flatnames.proofs.start.Goals as goal

pub returns : goal.returns
returns c = rw (undeclared c.new.result c.new.ensures.empty, c.new-3.ensures.items, c.new-4.ensures.items)
