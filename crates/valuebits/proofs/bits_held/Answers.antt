-- Each fault in its order; else the bits by the lists are the row system's.
use Rattle.std.proofs.Common.{refl, arith}
use lib.ListN.{length-replicate}
use Rattle.integers.specs.declared.Bounds.{Bounds}
use Rattle.bitreading.proofs.Room.{domains-none, bits-none}
use Rattle.bitanswers.proofs.ValueBits.{holding}
use Rattle.valuebits.proofs.Answers.{too_many, too_short, writes, small-values, bits_are, both-laid}
use Rattle.valuebits.proofs.bits_held.Goals as goal

pub list_bits-listed-requires-clause-reads : goal.list_bits-listed-requires-clause-reads
list_bits-listed-requires-clause-reads c = (holding c.args.ws.now c.args.list.now c.requires).read

pub list_bits-listed-requires-clause-room : goal.list_bits-listed-requires-clause-room
list_bits-listed-requires-clause-room c = rw (length-replicate {A = Bounds} 4096 c.new-domains.result) (omega arith)

pub list_bits-listed-requires-clause-no_domains : goal.list_bits-listed-requires-clause-no_domains
list_bits-listed-requires-clause-no_domains c = domains-none 4096 refl c.new-domains.ensures

pub list_bits-listed-requires-clause-no_bits : goal.list_bits-listed-requires-clause-no_bits
list_bits-listed-requires-clause-no_bits c = bits-none c.new-domains.result 4096 refl

pub returns-then-listed-gt-BITS : goal.returns-then-listed-gt-BITS
returns-then-listed-gt-BITS c = too_many c.args.ws.now c.args.list.now c.args.out.now c.requires (omega (arith, c.list_bits-listed.ensures.same_count, c.if-listed-gt-BITS.true))

pub returns-then-out-listed : goal.returns-then-out-listed
returns-then-out-listed c =
    let n = c.list_bits-listed.ensures.same_count in
    too_short c.args.ws.now c.args.list.now c.args.out.now c.requires (omega (arith, n, c.if-listed-gt-BITS.false)) (omega (arith, n, c.if-out-listed.true))

pub invariant_of-values : goal.invariant_of-values
invariant_of-values c = record { small = small-values c.args.ws.now c.args.list.now (holding c.args.ws.now c.args.list.now c.requires) }

pub returns : goal.returns
returns c =
    let k = c.list_bits-listed.ensures in
    let n = k.same_count in
    let laid = both-laid _ _ _ c.put_variables-start.ensures.laid c.put_rows.ensures in
    rw (laid, bits_are c.args.ws.now c.args.list.now k, n)
    (writes c.args.ws.now c.args.list.now c.args.out.now c.requires (omega (arith, n, c.if-listed-gt-BITS.false)) (omega (arith, n, c.if-out-listed.false)))
