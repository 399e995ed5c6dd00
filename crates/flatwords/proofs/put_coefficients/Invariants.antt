use Rattle.std.proofs.Common.{◌≡◌, ◌++◌, map, take}
use Rattle.words.specs.Word.{number_word}
use Rattle.words.specs.Kind as Kind
use Rattle.flatwords.proofs.put_coefficients.Given as goal

abbrev pub invariant-loop-p : goal.invariant-loop-p
invariant-loop-p l = l.out.items ≡ l.fn.out.items ++ map (λ p. number_word Kind.number p.coefficient) (take l.p-index l.products)
