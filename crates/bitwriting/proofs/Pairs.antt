-- What the products of bits of a product add to a line.
use Rattle.integers.specs.declared.Bounds.{Bounds}
use Rattle.std.proofs.Common.{◌≡◌, refl, sym, ap, ap₂, ◌∙◌, List, [], ◌∷◌, ℕ, ◌*◌, ◌<◌, arith, ℤ, length, get_or}
use mathlib.Core.List.{flat_map}
use Rattle.integers.specs.Number.{◌⊕◌, +0}
use Rattle.integers.proofs.Sums.{⊕_assoc, zero-plus, second-zero}
use Rattle.rowsystems.specs.OneWord.{row_of}
use Rattle.bitforms.specs.SumOver.{sum_over}
use Rattle.bitforms.specs.BitRow.{Pair, BitRow}
use Rattle.bitforms.specs.Matrix.{coefficient_of, square_entry, pair_entry}
use Rattle.bitforms.proofs.Sums.{sum_over-append}
use Rattle.bitlines.specs.Sizes as Size
use Rattle.bitlines.specs.Dense.{add_terms, Adds}
use Rattle.bitlines.specs.Line.{pair_terms}
use Rattle.bitlines.proofs.Dense.{add-length, add-coefficient}
use Rattle.bitlines.proofs.Line.{pair-entry}
use Rattle.bittables.specs.BitTables.{row_by, BitCounts}
use Rattle.bitplaces.specs.SquareAdded.{SquareAdded}
use Rattle.bitfilling.specs.Filled.{dense, product_in}
use Rattle.bitfilling.specs.Added.{FilledBy, product_pairs, Added}
use Rattle.bitfilling.specs.Idle.{NotAmong, NoBitOf, IdleRow}
use Rattle.bitfilling.proofs.Filling.{dense-at}
use Rattle.bitfilling.proofs.Idle.{zero-with, idle_row}
use Rattle.bitfilling.proofs.Lines.{product-pairs}
use Rattle.bitwriting.specs.PairsAdded.{PairsAdded}
use Rattle.bitwriting.proofs.Squaring.{square_is}

pairs-total : (i j : ℕ) (ps : List Pair) → coefficient_of (flat_map (λ p. pair_terms p i) ps) j ≡ sum_over (λ p. pair_entry p i j) ps
unfolding flat_map sum_over coefficient_of
pairs-total i j [] = refl
pairs-total i j (p ∷ ps) = sum_over-append _ (pair_terms p i) (flat_map (λ q. pair_terms q i) ps) ∙ ap₂ (λ x y. x ⊕ y) (pair-entry p i j) (pairs-total i j ps)

-- of the row of a product
pub pairs-are-added : (Ds : List Bounds) (firsts counts args : List ℕ) (first head i : ℕ) (line line' : List ℤ) → BitCounts Ds counts → row_of head args ≡ product_in args →
    Adds (product_pairs firsts counts args first i) (8 * Size.own_bits) line line' → PairsAdded (row_by Ds firsts first head args) i line line'
pairs-are-added Ds firsts counts args first head i line line' k e a =
    let s = a.sum ∙ ap (add_terms line) (product-pairs Ds firsts counts args first i k) in
    rw e
    (record {
      same = ap length s ∙ add-length line _;
      entries = λ j u v. ap (λ xs. get_or xs j +0) s ∙ add-coefficient line _ j v ∙ ap (λ x. get_or line j +0 ⊕ x) (pairs-total i j _);
      small = a.small;
    })

-- a row without the bit has none
pub no-pairs-added : (Ds : List Bounds) (firsts counts : List ℕ) → BitCounts Ds counts → (first own head : ℕ) (args : List ℕ) (i n : ℕ) (row line : List ℤ) →
    own ≡ (row_by Ds firsts first head args).own → row ≡ dense n (row_by Ds firsts first head args).whole.terms → i < n → get_or row i +0 ≡ +0 →
    NotAmong first own i × IdleRow (NoBitOf firsts counts i) (row_of head args) → PairsAdded (row_by Ds firsts first head args) i line line
unfolding square_entry
no-pairs-added Ds firsts counts k first own head args i n row line e f l z h =
    let r = row_by Ds firsts first head args in record {
      same = refl;
      entries = λ j u v.
          let c = sym (dense-at n r.whole.terms i l) ∙ sym (ap (λ xs. get_or xs i +0) f) ∙ z in
          let a = zero-with (coefficient_of r.whole.terms) r.whole.constant i j c in
          let b = idle_row i Ds firsts counts k first own (row_of head args) e h.0 h.1 j in
          let p : sum_over (λ q. pair_entry q i j) r.pairs ≡ +0 = sym (zero-plus _) ∙ ap (λ x. x ⊕ sum_over (λ q. pair_entry q i j) r.pairs) (sym a) ∙ b in
          sym (second-zero (get_or line j +0) _ _ refl p);
      small = omega arith;
    }

-- the square, then the products of bits
pub both-added : (r : BitRow) {row line middle line' : List ℤ} {c : ℤ} {i n : ℕ} → length row ≡ n → length line ≡ n → i < n → FilledBy r row c → SquareAdded row c i line middle → PairsAdded r i middle line' →
    Added r i line line'
both-added r {row} {line} {middle} {line'} {c} {i} {n} k l v f s p = record {
  same = p.same ∙ s.same;
  entries = λ j a b. p.entries j a (omega (arith, b, s.same)) ∙ ap (λ x. x ⊕ sum_over (λ q. pair_entry q i j) r.pairs) (s.entries j a b ∙ ap (λ w. get_or line j +0 ⊕ w) (square_is r k v f j (omega (arith, b, l)))) ∙ ⊕_assoc _ _ _;
  small = omega (arith, s.small, p.small);
}
