-- A row without the bit has no product with it.
use Rattle.std.proofs.Common.{sym, ◌∙◌, arith, length, get_or}
use Rattle.integers.specs.Number.{+0}
use Rattle.integers.proofs.Fits.{back}
use Rattle.integers.proofs.Tests.{says-equal}
use Rattle.bitlines.proofs.Dense.{peak-at}
use Rattle.bittables.specs.BitTables.{firsts, counts}
use Rattle.bitwriting.proofs.Pairs.{pairs-are-added, no-pairs-added}
use Rattle.bitwriting.proofs.add_pairs_to_line.Goals as goal

pub returns-then-not-equal : goal.returns-then-not-equal
returns-then-not-equal c =
    pairs-are-added c.args.table.now.domains.now (firsts c.args.table.now.bits.now) (counts c.args.table.now.bits.now) c.args.args.now c.args.first c.args.head c.args.i c.args.line.now _ c.requires.counted c.requires.product c.add_product_pairs.ensures

pub returns-then-is_bit_of_product : goal.returns-then-is_bit_of_product
returns-then-is_bit_of_product c =
    pairs-are-added c.args.table.now.domains.now (firsts c.args.table.now.bits.now) (counts c.args.table.now.bits.now) c.args.args.now c.args.first c.args.head c.args.i c.args.line.now _ c.requires.counted c.requires.product c.add_product_pairs-then-is_bit_of_product.ensures

pub returns-else-is_bit_of_product : goal.returns-else-is_bit_of_product
returns-else-is_bit_of_product c =
    let b = back (get_or c.args.row.now c.args.i +0) (omega (arith, peak-at c.args.row.now c.args.i, c.requires.small)) in
    no-pairs-added c.args.table.now.domains.now (firsts c.args.table.now.bits.now) (counts c.args.table.now.bits.now) c.requires.counted c.args.first c.args.own c.args.head c.args.args.now c.args.i (length c.args.row.now) c.args.row.now c.args.line.now
    c.requires.owned c.requires.filled c.requires.small.2 (sym b ∙ (says-equal _ +0).0 (sym c.equal.ensures ∙ c.if-not-equal.false)) (rw c.requires.product (c.is_bit_of_product.ensures c.if-is_bit_of_product.false))
