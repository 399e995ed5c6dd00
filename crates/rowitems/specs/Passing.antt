-- Reading past an item, from its head on.
use Rattle.std.specs.Prelude.{◌≡◌, Bool, List, ℕ, ◌+◌, ◌<◌, ◌≤◌, length}
use Rattle.words.specs.Fault as Fault
use Rattle.words.specs.Check.{Step}
use Rattle.rowsystems.specs.declared.Due.{Due}
use Rattle.rowreading.specs.Item.{start_due}
use Rattle.rowreading.specs.Onward.{onward, resumed, Plain}

-- the step r leads from the head at a place, with n variables before it, to what is due after the item, with m variables before that,
-- or to the first fault
pub record ItemPassed (ws : List ℕ) (sources : Bool) (n at : ℕ) (to : Due) (m : ℕ) (r : Step) : Type 0 where
  pub reads : onward (start_due sources) n at ws ≡ resumed to m ws r
  pub on : at ≤ r.at
  pub past : r.number ≡ Fault.none → at < r.at
  pub inside : r.at ≤ length ws
  pub plain : Plain ws (at + 1) r.at
  pub last : r.number ≡ Fault.word_after_end → Plain ws at r.at
