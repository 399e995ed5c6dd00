-- The invariant: the length from here on, with the elements passed, is that of the whole list. The measure: the bytes left.
use Rattle.std.proofs.Common.{◌≡◌, ◌-◌, ◌≤◌, length}
use Rattle.tokens.specs.Sorts.{sort_number}
use Rattle.tokens.specs.Unread.{unread}
use Rattle.grammar.specs.Brackets.{length_from}
use Rattle.grammar.specs.Machine.{opening_of, element_of, closing_of}
use Rattle.grammar.proofs.length_ahead.Given as goal

abbrev pub invariant-loop-t : goal.invariant-loop-t
invariant-loop-t l = (l.at ≤ length l.text) × (l.n ≤ l.at) × (length_from (element_of l.bracketed) (closing_of l.bracketed) (opening_of l.bracketed) 0 (unread l.text l.at-2) ≡ length_from (element_of l.bracketed) (closing_of l.bracketed) (sort_number l.before) l.n (unread l.text l.at))

abbrev pub decreases-loop-t : goal.decreases-loop-t
decreases-loop-t l = length l.text - l.at
