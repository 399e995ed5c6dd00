-- The line of a bit, row after row: with what the rows left add, the list's numbers are the entries.
use Rattle.integers.specs.declared.Bounds.{Bounds}
use Rattle.std.proofs.Common.{◌≡◌, refl, sym, ap, ◌∙◌, true, false, List, ℕ, ◌+◌, ◌*◌, ◌<◌, ◌≤◌, arith, ℤ, length, get_or, replicate}
use lib.ListN.{length-replicate, get_or-replicate}
use Rattle.integers.specs.Number.{◌⊕◌, +0}
use Rattle.integers.specs.Lists.{all}
use Rattle.integers.proofs.Tests.{says-and}
use Rattle.integers.proofs.Sums.{⊕_assoc, plus-zero, first-zero, second-zero}
use Rattle.words.specs.Limit as Limit
use Rattle.rowsystems.specs.OneWord.{starts_row, row_of}
use Rattle.bitforms.specs.SumOver.{sum_over}
use Rattle.bitforms.specs.BitRow.{BitRow}
use Rattle.bitforms.specs.Matrix.{entry_of}
use Rattle.bitforms.specs.FormAnswer.{row_fits}
use Rattle.bitlines.specs.Sizes as Size
use Rattle.bitlines.specs.Dense.{peak}
use Rattle.bittables.specs.BitTables.{row_by, rows_by, BitCounts}
use Rattle.bitfilling.specs.Added.{LineAndRow, Added}
use Rattle.bitfilling.specs.Idle.{NotAmong, NoBitOf, IdleRow}
use Rattle.bitfilling.proofs.Filling.{zeros-peak}
use Rattle.bitfilling.proofs.Idle.{idle_row}
use Rattle.bitfilling.proofs.Walk.{rows_left, next_row, left-none, left_one, left_end}
use Rattle.bitwriting.specs.Lined.{LineOf}

-- a row without the bit adds nothing
pub none-added : (Ds : List Bounds) (firsts counts : List ℕ) → BitCounts Ds counts → (first own head : ℕ) (args : List ℕ) (i : ℕ) (line : List ℤ) →
    own ≡ (row_by Ds firsts first head args).own → NotAmong first own i × IdleRow (NoBitOf firsts counts i) (row_of head args) → Added (row_by Ds firsts first head args) i line line
none-added Ds firsts counts k first own head args i line e h = record {
  same = refl;
  entries = λ j u v. sym (second-zero (get_or line j +0) _ _ refl (idle_row i Ds firsts counts k first own (row_of head args) e h.0 h.1 j));
  small = omega arith;
}

-- ---- the walk over the rows

-- `entries` and `fits` speak of the rows left
pub record Lining (ws : List ℕ) (Ds : List Bounds) (firsts : List ℕ) (start i n : ℕ) (line row : List ℤ) (first at : ℕ) : Type 0 where
  pub place : at ≤ length ws
  pub near : first ≤ start + Size.own_bits * at
  pub fits : all (row_fits n) (rows_left Ds firsts ws first at) ≡ true
  pub entries : (j : ℕ) → i ≤ j → j < n → get_or line j +0 ⊕ entry_of (rows_left Ds firsts ws first at) i j ≡ entry_of (rows_by Ds firsts start ws) i j
  pub small : peak line ≤ at * Size.largest_row
  pub sized : LineAndRow n line row

pub lining_begun : (ws : List ℕ) (Ds : List Bounds) (firsts : List ℕ) (start i n : ℕ) (row : List ℤ) → all (row_fits n) (rows_by Ds firsts start ws) ≡ true → length row ≡ n → n ≤ Limit.bits →
    Lining ws Ds firsts start i n (replicate n +0) row start 0
lining_begun ws Ds firsts start i n row f r m = record {
  place = omega arith;
  near = omega arith;
  fits = f;
  entries = λ j h l. first-zero (get_or (replicate n +0) j +0) _ _ (get_or-replicate n j +0 +0 l) refl;
  small = omega (arith, zeros-peak n);
  sized = record { line_size = length-replicate n +0; row_size = r; few = m };
}

module _ {ws : List ℕ} {Ds : List Bounds} {firsts : List ℕ} {start i n : ℕ} {line row : List ℤ} {first at : ℕ} (k : Lining ws Ds firsts start i n line row first at) where
  module _ (h : at < length ws) (z : starts_row (get_or ws at 0) ≡ true) where
    abbrev this : BitRow
    this = next_row Ds firsts ws first at

    abbrev others : List BitRow
    others = rows_left Ds firsts ws (first + this.own) (at + 1)

    both-fit : (row_fits n this ≡ true) × (all (row_fits n) others ≡ true)
    unfolding all
    both-fit = (says-and {A = row_fits n this ≡ true} {B = all (row_fits n) others ≡ true} (λ p. p, λ p. p) (λ p. p, λ p. p)).0 (sym (ap (all (row_fits n)) (left_one Ds firsts ws first at h z)) ∙ k.fits)

    -- the row here fits
    pub row_here : row_fits n this ≡ true
    row_here = both-fit.0

    pub lining_one : {line' row' : List ℤ} {next : ℕ} → Added this i line line' → length row' ≡ length row → (next ≡ first + this.own) × (next ≤ first + Size.own_bits) →
        Lining ws Ds firsts start i n line' row' next (at + 1)
    unfolding entry_of sum_over
    lining_one {line'} {row'} {next} a r e = record {
      place = omega arith;
      near = omega (arith, k.near, e.1);
      fits = rw e.0 both-fit.1;
      entries = λ j u v. rw e.0 (ap (λ x. x ⊕ entry_of others i j) (a.entries j u (omega (arith, k.sized.line_size))) ∙ ⊕_assoc _ _ _ ∙ ap (λ rs. get_or line j +0 ⊕ entry_of rs i j) (sym (left_one Ds firsts ws first at h z)) ∙ k.entries j u v);
      small = omega (arith, a.small, k.small);
      sized = record { line_size = a.same ∙ k.sized.line_size; row_size = r ∙ k.sized.row_size; few = k.sized.few };
    }

  pub lining_none : at < length ws → starts_row (get_or ws at 0) ≡ false → Lining ws Ds firsts start i n line row first (at + 1)
  lining_none h z =
      let o = left-none Ds firsts ws first at h z in
      record {
        place = omega arith;
        near = omega (arith, k.near);
        fits = sym (ap (all (row_fits n)) o) ∙ k.fits;
        entries = λ j u v. ap (λ rs. get_or line j +0 ⊕ entry_of rs i j) (sym o) ∙ k.entries j u v;
        small = omega (arith, k.small);
        sized = k.sized;
      }

  pub lining_done : length ws ≤ at → LineOf (rows_by Ds firsts start ws) i line
  unfolding entry_of sum_over
  lining_done h j u v =
      sym (plus-zero (get_or line j +0)) ∙ ap (λ rs. get_or line j +0 ⊕ entry_of rs i j) (sym (left_end Ds firsts ws first at h)) ∙ k.entries j u (omega (arith, k.sized.line_size))
