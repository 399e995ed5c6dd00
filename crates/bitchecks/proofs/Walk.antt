-- The walk over the words that counts the bits of rows: what is left to count.
use Rattle.integers.specs.declared.Bounds.{Bounds}
use Rattle.std.proofs.Common.{◌≡◌, refl, sym, ap, ◌∙◌, true, false, List, ℕ, ◌+◌, ◌*◌, ◌≤◌, ◌<◌, arith, length, get_or}
use Rattle.rowsystems.specs.OneWord.{starts_row}
use Rattle.bitforms.specs.BitRow.{bits_with}
use Rattle.bitlines.specs.Sizes as Size
use Rattle.bittables.specs.BitTables.{rows_by}
use Rattle.bitfilling.proofs.Walk.{rows_left, next_row, left-none, left_one, left_end}

pub record Counting (ws : List ℕ) (Ds : List Bounds) (start first at : ℕ) : Type 0 where
  pub place : at ≤ length ws
  pub small : first ≤ start + Size.own_bits * at
  pub left : (firsts : List ℕ) → bits_with first (rows_left Ds firsts ws first at) ≡ bits_with start (rows_by Ds firsts start ws)

pub counting_begun : (ws : List ℕ) (Ds : List Bounds) (start : ℕ) → Counting ws Ds start start 0
counting_begun ws Ds start = record { place = omega arith; small = omega arith; left = λ firsts. refl }

module _ {ws : List ℕ} {Ds : List Bounds} {start first at : ℕ} (k : Counting ws Ds start first at) where
  pub counting_none : at < length ws → starts_row (get_or ws at 0) ≡ false → Counting ws Ds start first (at + 1)
  counting_none h z = record {
    place = omega arith;
    small = omega (arith, k.small);
    left = λ firsts. ap (bits_with first) (sym (left-none Ds firsts ws first at h z)) ∙ k.left firsts;
  }

  pub counting_one : {own : ℕ} → at < length ws → starts_row (get_or ws at 0) ≡ true → own ≤ Size.own_bits →
      ((firsts : List ℕ) (n : ℕ) → own ≡ (next_row Ds firsts ws n at).own) → Counting ws Ds start (first + own) (at + 1)
  unfolding bits_with
  counting_one {own} h z l e = record {
    place = omega arith;
    small = omega (arith, k.small);
    left = λ firsts.
        ap (λ n. bits_with (first + n) (rows_left Ds firsts ws (first + n) (at + 1))) (e firsts first)
        ∙ ap (bits_with first) (sym (left_one Ds firsts ws first at h z)) ∙ k.left firsts;
  }

  pub counting_done : length ws ≤ at → (firsts : List ℕ) → first ≡ bits_with start (rows_by Ds firsts start ws)
  unfolding bits_with
  counting_done h firsts = ap (bits_with first) (sym (left_end Ds firsts ws first at h)) ∙ k.left firsts
