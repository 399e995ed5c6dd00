use Rattle.std.proofs.Common.{sym, ap, ◌∙◌}
use Rattle.integers.specs.Number.{◌≟◌, +0}
use Rattle.words.specs.Word.{in_range}
use Rattle.arguments.proofs.Size.{read}
use Rattle.bitwriting.proofs.Putting.{counting-begun, counting-more}
use Rattle.bitwriting.proofs.count_one.Goals as goal

pub loop-j-init : goal.loop-j-init
loop-j-init c = counting-begun _ _ _

pub loop-j-preserved : goal.loop-j-preserved
loop-j-preserved c =
    let v = read c.at_or-v.type_inv c.at_or-v.ensures in
    rw (c.one_if.ensures, c.both-fit.ensures)
    (counting-more c.equal.result c.in_range.result c.loop-j.invariant c.loop-j-test.true (ap (λ x. x ≟ +0) (sym v) ∙ sym c.equal.ensures) (c.in_range.ensures ∙ ap in_range v))
