-- What is said of one row over bits, and of all rows, one row more.
use Rattle.integers.specs.declared.Bounds.{Bounds}
use Rattle.std.proofs.Common.{◌≡◌, refl, sym, ap, ap₂, ◌∙◌, None, Some, Bool, true, false, ◌&&◌, List, ℕ, ◌+◌, ◌*◌, ◌≤◌, ◌<◌, arith, ℤ, pos, nat_abs, length, get_or}
use Rattle.std.proofs.lemmas.Option.{none-some, same_Some}
use Rattle.integers.specs.Choice.{◌if◌else◌}
use Rattle.integers.specs.Number.{◌⊕◌, ◌⊗◌}
use Rattle.integers.specs.Lists.{all}
use Rattle.integers.proofs.Fits.{plus-size, times-size, mul-le}
use Rattle.integers.proofs.Tests.{false-true}
use Rattle.integers.proofs.Sums.{⊕_assoc, zero-plus, plus-zero}
use Rattle.rowsystems.specs.OneWord.{starts_row}
use Rattle.bitforms.specs.SumOver.{sum_over}
use Rattle.bitforms.specs.BitRow.{BitRow}
use Rattle.bitforms.specs.Energy.{square}
use Rattle.bitforms.specs.BitForm.{constant_of}
use Rattle.bitforms.specs.FormAnswer.{row_fits}
use Rattle.bitlines.specs.Sizes as Size
use Rattle.bittables.specs.BitTables.{rows_by}
use Rattle.bitfilling.specs.Filled.{dense}
use Rattle.bitfilling.proofs.Filling.{row_fits-dense}
use Rattle.bitfilling.proofs.Lines.{fits-sizes}
use Rattle.bitfilling.proofs.Walk.{rows_left, next_row, left-none, left_one, left_end}
use Rattle.bitchecks.specs.Checked.{row_checked, rows_checked}
use Rattle.bitchecks.proofs.Limits.{fits}

-- ---- what is found, as a test and a number

pub record RowChecked (n : ℕ) (r : BitRow) (fits : Bool) (constant : ℤ) : Type 0 where
  pub tested : fits ≡ row_fits n r
  pub squared : fits ≡ true → constant ≡ square r.whole.constant

pub record RowsChecked (n : ℕ) (rs : List BitRow) (fits : Bool) (constant : ℤ) : Type 0 where
  pub tested : fits ≡ all (row_fits n) rs
  pub summed : fits ≡ true → constant ≡ constant_of rs

module _ {n : ℕ} {r : BitRow} where
  pub row_none : {k : ℤ} → RowChecked n r false k → None ≡ row_checked n r
  unfolding row_checked
  row_none s = rw (← s.tested) refl

  pub row_some : {k : ℤ} → RowChecked n r true k → Some k ≡ row_checked n r
  unfolding row_checked
  row_some s = rw (← s.tested, s.squared refl) refl

  pub from_none : None ≡ row_checked n r → RowChecked n r false (pos 0)
  unfolding row_checked
  from_none e = go (row_fits n r) refl e
    where
      go : (t : Bool) → row_fits n r ≡ t → None ≡ (Some (square r.whole.constant) if t else None) → RowChecked n r false (pos 0)
      go true q e = absurd (none-some _ e)
      go false q e = record { tested = sym q; squared = λ z. false-true z }

  pub from_some : {k : ℤ} → Some k ≡ row_checked n r → RowChecked n r true k
  unfolding row_checked
  from_some {k} e = go (row_fits n r) refl e
    where
      go : (t : Bool) → row_fits n r ≡ t → Some k ≡ (Some (square r.whole.constant) if t else None) → RowChecked n r true k
      go true q e = record { tested = sym q; squared = λ z. same_Some _ _ e }
      go false q e = absurd (none-some _ (sym e))

pub rows_some : {n : ℕ} {rs : List BitRow} {k : ℤ} → RowsChecked n rs true k → Some k ≡ rows_checked n rs
unfolding rows_checked
rows_some s = rw (← s.tested, s.summed refl) refl

pub rows_none : (n : ℕ) (rs : List BitRow) → false ≡ all (row_fits n) rs → None ≡ rows_checked n rs
unfolding rows_checked
rows_none n rs e = rw (← e) refl

-- ---- one row

module _ (n : ℕ) (r : BitRow) {c : ℤ} (e : c ≡ r.whole.constant) where
  pub constant-out : (k : ℤ) → fits c ≡ false → RowChecked n r false k
  constant-out k h = record { tested = sym (row_fits-dense n r ∙ rw (← e, h) refl); squared = λ z. false-true z }

  module _ (h : fits c ≡ true) {row : List ℤ} (g : row ≡ dense n r.whole.terms) where
    pub terms-out : (k : ℤ) → all fits row ≡ false → RowChecked n r false k
    terms-out k l = record { tested = sym (row_fits-dense n r ∙ rw (← e, h, ← g, l) refl); squared = λ z. false-true z }

    pub row_in : (k : ℤ) → k ≡ c ⊗ c → all fits row ≡ true → RowChecked n r true k
    unfolding square
    row_in k m l = record { tested = sym (row_fits-dense n r ∙ rw (← e, h, ← g, l) refl); squared = λ z. m ∙ ap (λ x. x ⊗ x) e }

-- the square of its constant is at most 16,384²
pub square-small : {n : ℕ} {r : BitRow} {f : Bool} {k : ℤ} → RowChecked n r f k → f ≡ true → nat_abs k ≤ 268435456
unfolding square
square-small {n} {r} s t =
    let l = (fits-sizes n r (sym s.tested ∙ t)).0 in
    rw (s.squared t) (omega (arith, times-size r.whole.constant r.whole.constant, mul-le l l))

-- ---- all rows

pub record Checking (ws : List ℕ) (Ds : List Bounds) (firsts : List ℕ) (start n : ℕ) (row : List ℤ) (constant : ℤ) (first at : ℕ) : Type 0 where
  pub place : at ≤ length ws
  pub small : first ≤ start + Size.own_bits * at
  pub size : nat_abs constant ≤ 268435456 * at
  pub long : length row ≡ n
  pub left : all (row_fits n) (rows_left Ds firsts ws first at) ≡ all (row_fits n) (rows_by Ds firsts start ws)
  pub sum : constant ⊕ constant_of (rows_left Ds firsts ws first at) ≡ constant_of (rows_by Ds firsts start ws)

pub checking_begun : (ws : List ℕ) (Ds : List Bounds) (firsts : List ℕ) (start : ℕ) (row : List ℤ) → Checking ws Ds firsts start (length row) row (pos 0) start 0
checking_begun ws Ds firsts start row = record {
  place = omega arith;
  small = omega arith;
  size = omega arith;
  long = refl;
  left = refl;
  sum = zero-plus _;
}

module _ {ws : List ℕ} {Ds : List Bounds} {firsts : List ℕ} {start n : ℕ} {row : List ℤ} {constant : ℤ} {first at : ℕ} (k : Checking ws Ds firsts start n row constant first at) where
  pub checking_none : at < length ws → starts_row (get_or ws at 0) ≡ false → Checking ws Ds firsts start n row constant first (at + 1)
  checking_none h z =
      let e = left-none Ds firsts ws first at h z in
      record {
        place = omega arith;
        small = omega (arith, k.small);
        size = omega (arith, k.size);
        long = k.long;
        left = ap (all (row_fits n)) (sym e) ∙ k.left;
        sum = ap (λ rs. constant ⊕ constant_of rs) (sym e) ∙ k.sum;
      }

  module _ (h : at < length ws) (z : starts_row (get_or ws at 0) ≡ true) where
    abbrev this : BitRow
    this = next_row Ds firsts ws first at

    abbrev others : List BitRow
    others = rows_left Ds firsts ws (first + this.own) (at + 1)

    fits_both : all (row_fits n) (rows_left Ds firsts ws first at) ≡ (row_fits n this && all (row_fits n) others)
    unfolding all
    fits_both = ap (all (row_fits n)) (left_one Ds firsts ws first at h z)

    sums-both : constant_of (rows_left Ds firsts ws first at) ≡ square this.whole.constant ⊕ constant_of others
    unfolding sum_over
    sums-both = ap constant_of (left_one Ds firsts ws first at h z)

    pub checking_fails : {f : Bool} → f ≡ row_fits n this → f ≡ false → f ≡ all (row_fits n) (rows_by Ds firsts start ws)
    checking_fails s e = e ∙ sym (fits_both ∙ rw (← s, e) refl) ∙ k.left

    pub checking_one : {f : Bool} {c d : ℤ} {own : ℕ} {after : List ℤ} → f ≡ true → RowChecked n this f c → own ≤ Size.own_bits → own ≡ this.own → length after ≡ length row →
        d ≡ constant ⊕ c → Checking ws Ds firsts start n after d (first + own) (at + 1)
    checking_one {f} {c} {d} {own} {after} t s l o g p =
        record {
          place = omega arith;
          small = omega (arith, k.small);
          size = rw p (omega (arith, plus-size constant c, k.size, square-small s t));
          long = g ∙ k.long;
          left = ap (λ m. all (row_fits n) (rows_left Ds firsts ws (first + m) (at + 1))) o ∙ sym (fits_both ∙ rw (← s.tested, t) refl) ∙ k.left;
          sum =
              ap₂ (λ x m. x ⊕ constant_of (rows_left Ds firsts ws (first + m) (at + 1))) (p ∙ ap (λ y. constant ⊕ y) (s.squared t)) o
              ∙ ⊕_assoc constant (square this.whole.constant) (constant_of others) ∙ ap (λ y. constant ⊕ y) (sym sums-both) ∙ k.sum;
        }

  pub checking_done : length ws ≤ at → RowsChecked n (rows_by Ds firsts start ws) true constant
  unfolding all sum_over
  checking_done h =
      let e = left_end Ds firsts ws first at h in
      record { tested = ap (all (row_fits n)) (sym e) ∙ k.left; summed = λ t. sym (plus-zero constant) ∙ ap (λ rs. constant ⊕ constant_of rs) (sym e) ∙ k.sum }
