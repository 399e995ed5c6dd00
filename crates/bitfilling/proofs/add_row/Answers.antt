-- The square, and for a product what its products of bits add.
use Rattle.std.proofs.Common.{refl, sym, ap, ap₂, ◌∙◌, ◌+◌, ◌*◌, arith, length, to_z-of_z}
use mathlib.Core.List.{flat_map}
use Rattle.integers.specs.Bounds.{bounds_in}
use Rattle.bitforms.specs.BitRow.{BitRow, bit_row}
use Rattle.bitlines.specs.Sizes as Size
use Rattle.bitlines.specs.Dense.{add_terms, Adds}
use Rattle.bitlines.specs.Line.{pair_terms}
use Rattle.bittables.specs.BitTables.{firsts, counts, encoding_by, row_by}
use Rattle.bitrows.proofs.Constant.{row_at_most, row-equal, row-product}
use Rattle.bitfilling.specs.Added.{whole_terms}
use Rattle.bitfilling.proofs.Lines.{filled-sizes, filled-square, row-added, square-added, product-pairs}
use Rattle.bitfilling.proofs.add_row.Goals.{Start, After-add_whole}
use Rattle.bitfilling.proofs.add_row.Goals as goal

-- the row over bits
abbrev this : Start → BitRow
this c = row_by c.args.table.now.domains.now (firsts c.args.table.now.bits.now) c.args.first c.args.head c.args.args.now

pub add_whole-requires-clause-small : goal.add_whole-requires-clause-small
add_whole-requires-clause-small c =
    let s = filled-sizes (c.args.i + c.args.m) (this (goal.at.add_whole-requires-clause-small c).Start) c.args.row.now c.args.c c.requires.sized.0.row_size c.requires.fits c.requires.filled in
    (s.0, rw (to_z-of_z c.ranges.c) s.1, c.requires.sized.0.few, c.requires.small)

pub add_whole-requires-clause-inside : goal.add_whole-requires-clause-inside
add_whole-requires-clause-inside c = let s = c.requires.sized.0 in (c.requires.sized.1, omega (arith, s.line_size), omega (arith, s.row_size))

-- its square is added
whole : (c : After-add_whole) →
    Adds (whole_terms (length c.args.line.now) (row_by c.args.table.now.domains.now (firsts c.args.table.now.bits.now) c.args.first c.args.head c.args.args.now) c.args.i c.args.m) (c.args.m * Size.largest_entry) c.args.line.now c.add_whole.new.line
whole c =
    filled-square (length c.args.line.now) _ c.args.row.now c.args.line.now c.args.c c.args.i c.args.m (c.requires.sized.0.row_size ∙ sym c.requires.sized.0.line_size) c.requires.filled (rw (to_z-of_z c.ranges.c) at c.add_whole.ensures)

pub returns-then-is : goal.returns-then-is
unfolding bit_row
returns-then-is c =
    let q = row_at_most c.args.head c.args.args.now (sym c.is.ensures ∙ c.if-is.true) in
    square-added c.args.line.now (this (goal.at.returns-then-is c).Start) c.args.i c.args.m (sym c.requires.sized.0.line_size) c.requires.sized.0.few (rw q refl) (whole (goal.at.returns-then-is c).After-add_whole)

pub returns-then-is-2 : goal.returns-then-is-2
unfolding bit_row
returns-then-is-2 c =
    let q = row-equal c.args.head c.args.args.now (sym c.is.ensures ∙ c.if-is.false) (sym c.is-2.ensures ∙ c.if-is-2.true) in
    square-added c.args.line.now (this (goal.at.returns-then-is-2 c).Start) c.args.i c.args.m (sym c.requires.sized.0.line_size) c.requires.sized.0.few (rw q refl) (whole (goal.at.returns-then-is-2 c).After-add_whole)

pub add_product_pairs-requires : goal.add_product_pairs-requires
add_product_pairs-requires c =
    (c.requires.counted, c.requires.near, omega (arith, c.requires.small, c.requires.sized.0.few, c.add_whole.ensures.small))

pub returns : goal.returns
returns c =
    let q = row-product c.args.head c.args.args.now (sym c.is.ensures ∙ c.if-is.false) (sym c.is-2.ensures ∙ c.if-is-2.false) in
    let w = whole (goal.at.returns c).After-add_whole in
    let e = product-pairs c.args.table.now.domains.now (firsts c.args.table.now.bits.now) (counts c.args.table.now.bits.now) c.args.args.now c.args.first c.args.i c.requires.counted ∙ ap (λ x. flat_map (λ y. pair_terms y c.args.i) (bit_row (bounds_in c.args.table.now.domains.now) (encoding_by c.args.table.now.domains.now (firsts c.args.table.now.bits.now)) c.args.first x).pairs) (sym q) in
    row-added c.args.line.now (this (goal.at.returns c).Start) c.args.i c.args.m (sym c.requires.sized.0.line_size) (c.add_product_pairs.ensures.sum ∙ ap₂ add_terms w.sum e) (omega (arith, c.add_product_pairs.ensures.small, w.small, c.requires.sized.0.few))
