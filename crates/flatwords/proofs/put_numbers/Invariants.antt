use Rattle.std.proofs.Common.{◌≡◌, ◌++◌, map, take}
use Rattle.words.specs.Word.{number_word}
use Rattle.words.specs.Kind as Kind
use Rattle.flatwords.proofs.put_numbers.Given as goal

abbrev pub invariant-loop-n : goal.invariant-loop-n
invariant-loop-n l = l.out.items ≡ l.fn.out.items ++ map (number_word Kind.number) (take l.n-index l.ns)
