-- The invariant: the names so far, then those declared from here on. The measure: the bytes left.
use Rattle.std.proofs.Common.{◌≡◌, ◌++◌, ◌-◌, ◌≤◌, length}
use Rattle.tokens.specs.Unread.{unread}
use Rattle.names.specs.Name.{declared_from}
use Rattle.labels.specs.Named.{names_of, spelled}
use Rattle.labels.proofs.named.names_of.Given as goal

abbrev pub invariant-loop-token : goal.invariant-loop-token
invariant-loop-token l = record {
  inside : l.at ≤ length l.text;
  same : spelled l.text l.names.items ++ declared_from l.after_colon (length l.text) (unread l.text l.at) ≡ names_of l.text;
}

abbrev pub decreases-loop-token : goal.decreases-loop-token
decreases-loop-token l = length l.text - l.at
