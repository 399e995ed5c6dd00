-- The invariant: the words of the rows passed went over the list.
use Rattle.std.proofs.Common.{◌≡◌}
use Rattle.words.specs.Overlay.{overlay}
use Rattle.laying.specs.Part.{words_in}
use Rattle.laying.specs.Lists.{many, order_at}
use Rattle.laying.proofs.terms.put_order.Given as goal

abbrev pub invariant-loop-k : goal.invariant-loop-k
invariant-loop-k l = l.out ≡ overlay l.initial.out l.at (words_in (many (order_at l.args l.base l.m l.up) l.k))
