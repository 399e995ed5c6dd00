-- The words that are lent have the terms 1×a and −1×b and the constant 0.
use Rattle.std.proofs.Common.{ap, ◌∙◌}
use Rattle.words.specs.Word.{word_at}
use Rattle.models.specs.Model.{var}
use Rattle.laying.specs.Part.{block_parts}
use Rattle.laying.proofs.Written.{wrote-as}
use Rattle.linearblocks.proofs.Rows.{two-terms, two-sum}
use Rattle.linearblocks.proofs.linear.two_reif.Goals as goal

pub returns : goal.returns
unfolding var
returns c =
    let w = rw (c.bits-a.ensures, c.at.ensures, c.bits-b.ensures, c.at-2.ensures, c.bits-r.ensures, c.at-3.ensures) at c.zero_reif.ensures in
    λ β e. wrote-as (ap (block_parts c.args.first) (two-terms β c.args.equal (word_at c.args.args.now 0) (word_at c.args.args.now 1) (word_at c.args.args.now 2))) (w β (e ∙ two-sum β c.args.args.now (word_at c.args.args.now 2)))
