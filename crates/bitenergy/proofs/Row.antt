-- What a row counts, from its sum over bits and its pairs of bits, up to 2^62.
use Rattle.std.proofs.Common.{◌≡◌, refl, sym, ap, ◌∙◌, Bool, true, false, ◌||◌, List, [], ℕ, ◌+◌, ◌*◌, min, arith, eqb, ℤ, pos, negsuc, nat_abs, get_or}
use Rattle.integers.specs.Number.{◌⊕◌, ◌⊗◌, count}
use Rattle.integers.proofs.Linear.{linear}
use Rattle.integers.proofs.Tests.{false-true}
use Rattle.words.specs.Kind as Kind
use Rattle.words.specs.Word.{kind}
use Rattle.rowsystems.specs.OneWord.{starts_sum}
use Rattle.rowsystems.specs.RowSystem.{variable_at}
use Rattle.bitforms.specs.SumOver.{sum_over}
use Rattle.bitforms.specs.OverBits.{evaluate}
use Rattle.bitforms.specs.BitRow.{bit_row, pairs_of}
use Rattle.bitforms.specs.Energy.{square, added, row_energy}
use Rattle.bittables.specs.BitTables.{firsts, counts, bits_of, BitCounts}
use Rattle.bitrows.proofs.Constant.{row_at_most, row-equal, row-product}
use Rattle.bitreading.specs.BitsGiven.{bits_in}
use Rattle.bitenergy.specs.Pairs.{grid_by}
use Rattle.bitenergy.specs.Reads.{row_at}
use Rattle.bittables.specs.declared.table.BitTable.{BitTable}
use Rattle.bitreading.specs.declared.bits.Bits.{Bits}
use Rattle.bitenergy.proofs.Pairs.{grid-energy}

square-size : (s : ℤ) → square s ≡ pos (nat_abs s * nat_abs s)
unfolding square ◌⊗◌
square-size (pos n) = refl
square-size (negsuc n) = refl

counted : (a p : ℕ) → count (pos a ⊕ pos p) ≡ a + p
counted = simp linear (omega arith)

module _ (b : Bits) (t : BitTable) (first head : ℕ) (args : List ℕ) where
  no_pairs : starts_sum head ≡ true → (row_at t first head args).pairs ≡ []
  unfolding starts_sum bit_row
  no_pairs h = go (eqb (kind head) Kind.at_most) refl (eqb (kind head) Kind.equal) refl h
    where
      go : (a : Bool) → eqb (kind head) Kind.at_most ≡ a → (d : Bool) → eqb (kind head) Kind.equal ≡ d → (a || d) ≡ true → (row_at t first head args).pairs ≡ []
      go true e d f h = rw (row_at_most head args e)
      go false e true f h = rw (row-equal head args e f)
      go false e false f h = false-true h

  the-pairs : starts_sum head ≡ false → (row_at t first head args).pairs ≡ pairs_of first (bits_of t.domains.now (firsts t.bits.now) (variable_at args 1)) (bits_of t.domains.now (firsts t.bits.now) (variable_at args 2))
  unfolding starts_sum bit_row
  the-pairs h = go (eqb (kind head) Kind.at_most) refl (eqb (kind head) Kind.equal) refl h
    where
      go : (a : Bool) → eqb (kind head) Kind.at_most ≡ a → (d : Bool) → eqb (kind head) Kind.equal ≡ d → (a || d) ≡ false →
          (row_at t first head args).pairs ≡ pairs_of first (bits_of t.domains.now (firsts t.bits.now) (variable_at args 1)) (bits_of t.domains.now (firsts t.bits.now) (variable_at args 2))
      go true e d f h = false-true (sym h)
      go false e true f h = false-true (sym h)
      go false e false f h = rw (row-product head args e f)

  row_counts : (s : ℤ) (p : ℕ) → s ≡ evaluate (bits_in b.bytes.now) (row_at t first head args).whole → pos p ≡ sum_over (added (bits_in b.bytes.now)) (row_at t first head args).pairs →
      nat_abs s * nat_abs s + p ≡ count (row_energy (bits_in b.bytes.now) (row_at t first head args))
  row_counts s p e f = sym (rw (← e, ← f, square-size s) (counted (nat_abs s * nat_abs s) p))

  pub sum-counts : {s : ℤ} {q : ℕ} → starts_sum head ≡ true → s ≡ evaluate (bits_in b.bytes.now) (row_at t first head args).whole → q ≡ min (nat_abs s * nat_abs s) 4611686018427387904 →
      q ≡ min (count (row_energy (bits_in b.bytes.now) (row_at t first head args))) 4611686018427387904
  unfolding sum_over
  sum-counts {s} {q} h e f =
      f ∙ ap (λ n. min n 4611686018427387904) ((let z : nat_abs s * nat_abs s ≡ nat_abs s * nat_abs s + 0 = omega arith in z) ∙ row_counts s 0 e (rw (no_pairs h) refl))

  pub product-counts : {s : ℤ} {q p r : ℕ} → starts_sum head ≡ false → BitCounts t.domains.now (counts t.bits.now) → s ≡ evaluate (bits_in b.bytes.now) (row_at t first head args).whole → q ≡ min (nat_abs s * nat_abs s) 4611686018427387904 →
      pos p ≡ grid_by (bits_in b.bytes.now) t first (variable_at args 1) (variable_at args 2) → r ≡ min (q + p) 4611686018427387904 →
      r ≡ min (count (row_energy (bits_in b.bytes.now) (row_at t first head args))) 4611686018427387904
  unfolding bits_of
  product-counts {s} {q} {p} {r} h k e f g l =
      let w = row_counts s p e (g ∙ rw (k (variable_at args 1), k (variable_at args 2)) (sym (ap (sum_over (added (bits_in b.bytes.now))) (the-pairs h) ∙ grid-energy (bits_in b.bytes.now) first (get_or (firsts t.bits.now) (variable_at args 1) 0) (get_or (firsts t.bits.now) (variable_at args 2) 0) _ _))) in
      let c : r ≡ min (nat_abs s * nat_abs s + p) 4611686018427387904 = omega (arith, f, l) in
      c ∙ ap (λ n. min n 4611686018427387904) w
