-- The invariant: what stands inside the brackets up to here is read, and no name is declared there. The measure: the bytes left.
use Rattle.std.proofs.Common.{◌-◌, length}
use Rattle.tokens.specs.Sorts.{sort_number}
use Rattle.symbols.specs.Symbol.{declared_before}
use Rattle.texts.specs.TextReading.{Known}
use Rattle.texts.proofs.Inside.{Within}
use Rattle.texts.proofs.read_list.Given as goal

abbrev pub invariant-loop-t : goal.invariant-loop-t
invariant-loop-t l =
    Within l.text l.bracketed l.from l.initial.written l.written l.at (sort_number l.before) × Known l.text l.at (length (declared_before l.text l.from)) l.symbols

abbrev pub decreases-loop-t : goal.decreases-loop-t
decreases-loop-t l = length l.text - l.at
