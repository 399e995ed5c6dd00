use Rattle.std.proofs.Common.{◌≡◌, ◌+◌, arith}
use Rattle.words.proofs.Rest.{one-laid, all_laid}
use Rattle.encoding.proofs.Words.{quarter, quad_at}
use Rattle.encoding.proofs.words_of_bytes.Goals as goal

pub loop-i-preserved : goal.loop-i-preserved
loop-i-preserved c =
    let p = quad_at c.args.bytes.now c.as_chunks.result.0.now c.loop-i.i c.as_chunks.ensures.front c.loop-i-test.true in
    let z : 0 + c.loop-i.i ≡ c.loop-i.i = omega arith in
    one-laid c.loop-i.invariant 0 (omega (arith, quarter c.args.bytes.now)) (rw (p, z, ← c.word_of_bytes.ensures) c.put.ensures)

pub returns-clause-count : goal.returns-clause-count
returns-clause-count c = omega (arith, quarter c.args.bytes.now)

pub returns-clause-words : goal.returns-clause-words
returns-clause-words c = (all_laid c.loop-i.invariant (omega (arith, quarter c.args.bytes.now))).over
