use Rattle.std.proofs.Common.{◌≡◌, pos}
use Rattle.integers.specs.Number.{◌⊕◌}
use Rattle.integers.specs.Lists.{list_of}
use Rattle.flatrewriting.proofs.range.numbers_between.Given as goal

abbrev pub invariant-loop-k : goal.invariant-loop-k
invariant-loop-k l = l.numbers.items ≡ list_of (λ j. l.fn.lo ⊕ pos j) l.k
