-- The invariant: what is left of the text is read as the definition reads it, the symbol table has the names declared so far, and the place after the last of them. The measure: the bytes left.
use Rattle.std.proofs.Common.{◌-◌, length}
use Rattle.symbols.specs.Symbol.{table_of, Latest, Tabled}
use Rattle.grammar.specs.Machine.{due_of}
use Rattle.texts.proofs.Loop.{Left}
use Rattle.texts.proofs.read_tokens.Given as goal

abbrev pub invariant-loop-t : goal.invariant-loop-t
invariant-loop-t l = Left l.text l.initial.written l.written l.at (due_of l.due) × Tabled l.text l.at l.variables l.after_colon (table_of l.symbols) × Latest l.text l.at l.symbols.declared

abbrev pub decreases-loop-t : goal.decreases-loop-t
decreases-loop-t l = length l.text - l.at
