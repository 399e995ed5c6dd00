-- The invariant: the tokens so far and those of the rest are those of the whole.
use Rattle.std.proofs.Common.{◌≡◌, ◌+◌, map, drop}
use Rattle.std.specs.List.{prefix_len}
use Rattle.flattokens.specs.Token.{token}
use Rattle.flatstatements.specs.Reading.{in_kind}
use Rattle.flatstatements.proofs.statements.kind_length.Given as goal

abbrev pub invariant-loop-i : goal.invariant-loop-i
invariant-loop-i l = l.i + prefix_len in_kind (drop l.i (map token l.tokens)) ≡ prefix_len in_kind (map token l.tokens)
