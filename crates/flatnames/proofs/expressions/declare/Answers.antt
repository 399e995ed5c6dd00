-- What insert says of the new map.
use Rattle.flatnames.proofs.Scopes.{declared}
use Rattle.flatnames.proofs.expressions.declare.Goals as goal

pub returns : goal.returns
returns c = declared c.args.scope.now c.insert.new.self c.args.name.now c.args.known c.in_ok-insert.ensures.updates
