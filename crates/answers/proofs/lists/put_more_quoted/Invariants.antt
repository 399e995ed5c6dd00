-- The words before the next one are appended, each after a comma.
use Rattle.std.proofs.Common.{◌≡◌, ◌++◌, take, codes}
use Rattle.std.specs.List.{flat_map}
use Rattle.answers.specs.Lists.{quoted_word}
use Rattle.answers.proofs.lists.put_more_quoted.Given as goal

abbrev pub invariant-loop-w : goal.invariant-loop-w
invariant-loop-w l = l.out.items ≡ l.initial.out.items ++ flat_map (λ w. codes "," ++ quoted_word w) (take l.w-index l.words)
