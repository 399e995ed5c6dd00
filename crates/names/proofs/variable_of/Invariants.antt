-- The invariant: the name is looked up among those declared from here on, after those passed. The measure: the bytes left.
use Rattle.std.proofs.Common.{◌≡◌, false, ◌-◌, ◌≤◌, length}
use Rattle.tokens.specs.Unread.{unread}
use Rattle.names.specs.Name.{look_up, declared_from}
use Rattle.names.proofs.variable_of.Given as goal

abbrev pub invariant-loop-token : goal.invariant-loop-token
invariant-loop-token l =
    (l.at ≤ length l.text) ×
    (l.variable ≤ l.at) ×
    (look_up l.name 0 (declared_from false l.place (unread l.text 0)) ≡ look_up l.name l.variable (declared_from l.after_colon l.place (unread l.text l.at)))

abbrev pub decreases-loop-token : goal.decreases-loop-token
decreases-loop-token l = length l.text - l.at
