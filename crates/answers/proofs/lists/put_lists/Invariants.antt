-- What is left, after what is appended, is what all lists give; the values left are enough. The measure: how many lists are left.
use Rattle.std.proofs.Common.{◌≡◌, ◌++◌, ◌*◌, ◌≤◌, length}
use Rattle.std.specs.List.{flat_map}
use Rattle.answers.specs.Lists.{list_text, lists_of}
use Rattle.answers.proofs.lists.put_lists.Given as goal

abbrev pub invariant-loop-left : goal.invariant-loop-left
invariant-loop-left l = record {
  enough : l.left * l.n ≤ length l.rest;
  same : l.out.items ++ flat_map (list_text l.marks.before.now l.marks.between.now l.marks.after.now) (lists_of l.left l.n l.rest) ≡ l.initial.out.items ++ flat_map (list_text l.marks.before.now l.marks.between.now l.marks.after.now) (lists_of l.count l.n l.values);
}

abbrev pub decreases-loop-left : goal.decreases-loop-left
decreases-loop-left l = l.left
