-- The invariant: the items so far and those of the rest are those of the whole.
use Rattle.std.proofs.Common.{◌≡◌, ◌-◌, map, drop}
use Rattle.flattokens.specs.Token.{token}
use Rattle.flatstatements.specs.Statement.{element_of}
use Rattle.flatstatements.specs.Reading.{element_at}
use Rattle.flatstatements.specs.Reading.{items_at, some_at}
use Rattle.flatstatements.proofs.Items.{with_front}
use Rattle.flatstatements.proofs.expressions.some_elements.Given as goal

abbrev pub invariant-loop : goal.invariant-loop
invariant-loop l = with_front (map element_of l.found.items) (items_at element_at 93 (l.count - l.counter) (drop l.place (map token l.tokens))) ≡ some_at element_at 93 (drop l.at (map token l.tokens))
