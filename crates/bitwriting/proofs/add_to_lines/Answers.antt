-- By the kind of the head: the square alone, or the products of bits too.
use Rattle.std.proofs.Common.{◌≡◌, refl, sym, ap, ◌∙◌, List, [], ℕ, ◌+◌, ◌<◌, ◌≤◌, arith, ℤ, nat_abs, length, w64, to_z, of_z}
use Rattle.words.specs.Limit as Limit
use Rattle.bitlines.specs.Sizes as Size
use Rattle.bitlines.specs.Dense.{peak}
use Rattle.bitplaces.specs.SquareAdded.{SquareAdded}
use Rattle.integers.proofs.Fits.{back}
use Rattle.bitforms.specs.BitRow.{BitRow, bit_row}
use Rattle.bittables.specs.BitTables.{firsts, row_by}
use Rattle.bitrows.proofs.Constant.{row_at_most, row-equal, row-product}
use Rattle.bitfilling.specs.Filled.{dense}
use Rattle.bitfilling.specs.Added.{FilledBy, Added}
use Rattle.bitfilling.proofs.Lines.{filled-sizes}
use Rattle.bitwriting.specs.Bands.{line_at, EachLine}
use Rattle.bitwriting.proofs.Band.{line-inside, line-length}
use Rattle.bitwriting.proofs.Pairs.{both-added}
use Rattle.bitwriting.proofs.Squaring.{square-is-added}
use Rattle.bitwriting.proofs.add_to_lines.Goals.{Start, After-constant_over-c}
use Rattle.bitwriting.proofs.add_to_lines.Goals as goal

-- the row over bits, and that the list and the constant are it
abbrev this : Start → BitRow
this c = row_by c.args.table.now.domains.now (firsts c.args.table.now.bits.now) c.args.first c.args.head c.args.args.now

filled : (c : After-constant_over-c) →
    FilledBy (row_by c.args.table.now.domains.now (firsts c.args.table.now.bits.now) c.args.first c.args.head c.args.args.now) c.fill_row.new.row (to_z w64 (of_z w64 c.constant_over-c.result))
filled c = record {
  terms_are = c.fill_row.ensures ∙ ap (λ k. dense k (row_by c.args.table.now.domains.now (firsts c.args.table.now.bits.now) c.args.first c.args.head c.args.args.now).whole.terms) (sym c.fill_row.auto.row);
  constant_is = back c.constant_over-c.result c.constant_over-c.type_inv ∙ c.constant_over-c.ensures c.args.first;
}

sizes : (c : After-constant_over-c) → (peak c.fill_row.new.row ≤ Limit.bit_numbers) × (nat_abs (to_z w64 (of_z w64 c.constant_over-c.result)) ≤ Limit.bit_numbers) × ((q : ℕ) → q < c.args.h → peak (line_at (length c.fill_row.new.row) q c.args.band.now) < Size.sums)
sizes c =
    let s = filled-sizes (length c.args.row.now) (row_by c.args.table.now.domains.now (firsts c.args.table.now.bits.now) c.args.first c.args.head c.args.args.now) c.fill_row.new.row _ c.fill_row.auto.row c.requires.fits (filled c) in
    (s.0, s.1, rw c.fill_row.auto.row c.requires.small)

-- a row without products: the squares are all that it adds
all-added : (c : After-constant_over-c) {band : List ℤ} →
    (row_by c.args.table.now.domains.now (firsts c.args.table.now.bits.now) c.args.first c.args.head c.args.args.now).pairs ≡ [] →
    EachLine (λ q. SquareAdded c.fill_row.new.row (to_z w64 (of_z w64 c.constant_over-c.result)) (c.args.i + q)) (length c.fill_row.new.row) c.args.h c.args.band.now band →
    EachLine (λ q. Added (row_by c.args.table.now.domains.now (firsts c.args.table.now.bits.now) c.args.first c.args.head c.args.args.now) (c.args.i + q)) (length c.args.row.now) c.args.h c.args.band.now band
all-added c e s =
    let n = length c.args.row.now in
    let t = rw c.fill_row.auto.row at s in
    record {
      same = t.same;
      lines = λ q v. square-is-added _ c.fill_row.auto.row (line-length n q c.args.band.now (line-inside n c.args.h q (length c.args.band.now) c.requires.sized.0.room v)) (omega (arith, v, c.requires.sized.1)) (filled c) e (t.lines q v);
    }

pub add_squares-requires-clause-small : goal.add_squares-requires-clause-small
add_squares-requires-clause-small c = sizes (goal.at.add_squares-requires-clause-small c).After-constant_over-c

pub returns-then-is : goal.returns-then-is
unfolding bit_row
returns-then-is c =
    let q = row_at_most c.args.head c.args.args.now (sym c.is.ensures ∙ c.if-is.true) in
    all-added (goal.at.returns-then-is c).After-constant_over-c (rw q refl) c.add_squares.ensures

pub add_squares-requires-then-is-2-clause-small : goal.add_squares-requires-then-is-2-clause-small
add_squares-requires-then-is-2-clause-small c = sizes (goal.at.add_squares-requires-then-is-2-clause-small c).After-constant_over-c

pub returns-then-is-2 : goal.returns-then-is-2
unfolding bit_row
returns-then-is-2 c =
    let q = row-equal c.args.head c.args.args.now (sym c.is.ensures ∙ c.if-is.false) (sym c.is-2.ensures ∙ c.if-is-2.true) in
    all-added (goal.at.returns-then-is-2 c).After-constant_over-c (rw q refl) c.add_squares-then-is-2.ensures

pub add_squares-requires-2-clause-small : goal.add_squares-requires-2-clause-small
add_squares-requires-2-clause-small c = sizes (goal.at.add_squares-requires-2-clause-small c).After-constant_over-c

pub add_pairs_to_lines-requires-clause-small : goal.add_pairs_to_lines-requires-clause-small
add_pairs_to_lines-requires-clause-small c =
    let s = sizes (goal.at.add_pairs_to_lines-requires-clause-small c).After-constant_over-c in
    (s.0, λ q v. omega (arith, s.2 q v, (c.add_squares-2.ensures.lines q v).small))

pub add_pairs_to_lines-requires-clause-product : goal.add_pairs_to_lines-requires-clause-product
add_pairs_to_lines-requires-clause-product c = row-product c.args.head c.args.args.now (sym c.is.ensures ∙ c.if-is.false) (sym c.is-2.ensures ∙ c.if-is-2.false)

pub returns : goal.returns
returns c =
    let n = length c.args.row.now in
    let s = rw c.fill_row.auto.row at c.add_squares-2.ensures in
    let p = rw c.fill_row.auto.row at c.add_pairs_to_lines.ensures in
    record {
      same = p.same ∙ s.same;
      lines = λ q v. both-added _ c.fill_row.auto.row (line-length n q c.args.band.now (line-inside n c.args.h q (length c.args.band.now) c.requires.sized.0.room v)) (omega (arith, v, c.requires.sized.1)) (filled (goal.at.returns c).After-constant_over-c) (s.lines q v) (p.lines q v);
    }
