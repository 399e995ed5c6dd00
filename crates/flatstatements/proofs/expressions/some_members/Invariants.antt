-- The invariant: the items so far and those of the rest are those of the whole.
use Rattle.std.proofs.Common.{◌≡◌, ◌-◌, map, drop}
use Rattle.flattokens.specs.Token.{token}
use Rattle.flatstatements.specs.Front.{number_at}
use Rattle.flatstatements.specs.Reading.{items_at, some_at}
use Rattle.flatstatements.proofs.Items.{with_front}
use Rattle.flatstatements.proofs.expressions.some_members.Given as goal

abbrev pub invariant-loop : goal.invariant-loop
invariant-loop l = with_front l.found.items (items_at number_at 125 (l.count - l.counter) (drop l.place (map token l.tokens))) ≡ some_at number_at 125 (drop l.at (map token l.tokens))
