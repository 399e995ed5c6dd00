use Rattle.std.proofs.Common.{◌≡◌, sym, ◌+◌, ◌%◌, arith}
use Rattle.words.proofs.Rest.{one-laid, all_laid}
use Rattle.laying.proofs.Counts.{overlay-past}
use Rattle.laying.proofs.put_words.Goals as goal

pub returns-then-out-at : goal.returns-then-out-at
returns-then-out-at c = λ h. sym (overlay-past c.args.out.now c.args.at c.args.words.now c.if-out-at.true)

pub loop-k-preserved : goal.loop-k-preserved
loop-k-preserved c = λ h.
    let e : (c.args.at + c.loop-k.k) % 18446744073709551616 ≡ c.args.at + c.loop-k.k = omega (arith, c.loop-k-test.true, h) in
    one-laid (c.loop-k.invariant h) 0 c.loop-k-test.true (rw e at c.put.ensures)

pub returns : goal.returns
returns c = λ h. (all_laid (c.loop-k.invariant h) c.loop-k-test.false).over
