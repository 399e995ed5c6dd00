use Rattle.std.proofs.Common.{◌+◌, arith}
use Rattle.bittables.specs.BitTables.{firsts, counts}
use Rattle.bitfilling.specs.Idle.{NoBitOf, IdleRow}
use Rattle.bitfilling.proofs.Idle.{idle_more, idle_terms}
use Rattle.bitfilling.proofs.holds_terms.Goals as goal

pub loop-k-preserved : goal.loop-k-preserved
loop-k-preserved c j u q v =
    idle_more (NoBitOf (firsts c.args.bits.now) (counts c.args.bits.now) (c.args.i + q)) c.args.args.now c.loop-k.k (λ j l. c.loop-k.invariant j l q v) (c.holds_term.ensures c.if-holds_term.false q v) j u

pub returns : goal.returns
unfolding IdleRow
returns c e q v =
    idle_terms (NoBitOf (firsts c.args.bits.now) (counts c.args.bits.now) (c.args.i + q)) c.args.args.now c.args.n (λ j h. c.loop-k.invariant j (omega (arith, c.loop-k-test.false)) q v)
