-- The invariant: the digits left, after the number so far, spell the number, both capped.
use Rattle.std.proofs.Common.{◌≡◌, drop}
use Rattle.grammar.specs.Value.{digits_from}
use Rattle.grammar.specs.Machine.{cap}
use Rattle.grammar.proofs.value.decimal_of.Given as goal

abbrev pub invariant-loop-b : goal.invariant-loop-b
invariant-loop-b l = (l.n ≡ cap l.n) × (cap (digits_from 0 l.digits) ≡ cap (digits_from l.n (drop l.b-index l.digits)))
