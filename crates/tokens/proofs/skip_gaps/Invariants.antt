-- The invariant: the tokens from here on are those from the start on. The measure: the bytes left.
use Rattle.std.proofs.Common.{◌≡◌, ◌-◌, ◌≤◌, length}
use Rattle.tokens.specs.Unread.{unread}
use Rattle.tokens.proofs.skip_gaps.Given as goal

abbrev pub invariant-loop-place : goal.invariant-loop-place
invariant-loop-place l = (l.at ≤ l.place) × (l.place ≤ length l.text) × (unread l.text l.at ≡ unread l.text l.place)

abbrev pub decreases-loop-place : goal.decreases-loop-place
decreases-loop-place l = length l.text - l.place
