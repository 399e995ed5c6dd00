-- The sum over bits of a row or product, from the values that the bits read as.
use Rattle.std.proofs.Common.{◌≡◌, refl, List, ℕ, arith, ℤ, pos, get_or}
use Rattle.integers.specs.Bounds.{bounds_in}
use Rattle.integers.specs.Number.{◌⊕◌, ◌⊖◌, ◌⊗◌, neg, count}
use Rattle.integers.specs.Terms.{Term, sum}
use Rattle.integers.proofs.Linear.{linear}
use Rattle.bitforms.specs.Weights.{weights}
use Rattle.bitforms.specs.OverBits.{evaluate, weighted_bits}
use Rattle.bitforms.specs.BitRow.{least, slack_weights, product_whole}
use Rattle.bitforms.proofs.Sums.{sum-append, sum-scaled}
use Rattle.bittables.specs.BitTables.{firsts, span_in, bits_of}
use Rattle.bittables.specs.declared.table.BitTable.{BitTable}
use Rattle.bitrows.specs.Terms.{cross}
use Rattle.bitrows.proofs.Cross.{pairs-cross}
use Rattle.bitreading.specs.declared.bits.Bits.{Bits}
use Rattle.bitreading.specs.BitsGiven.{bits_in}
use Rattle.bitenergy.specs.Reads.{value_of, factors_less, product_over, slacked_sum}

module _ (b : Bits) (t : BitTable) where
  pub product-sum : (first r f g T : ℕ) → pos T ≡ neg (sum (bits_in b.bytes.now) (cross first (weights (span_in t.domains.now f)) (weights (span_in t.domains.now g)))) →
      value_of b t r ⊖ (factors_less b t f g ⊕ pos T) ≡ evaluate (bits_in b.bytes.now) (product_over t first r f g)
  unfolding evaluate product_whole bits_of
  product-sum first r f g T h =
      let γ = bits_in b.bytes.now in
      let Ds = t.domains.now in
      let fs = firsts t.bits.now in
      rw (sum-append γ, sum-append γ, sum-append γ, sum-scaled γ, sum-scaled γ, pairs-cross first (get_or fs f 0) (get_or fs g 0) (weights (span_in Ds f)) (weights (span_in Ds g)))
      (step (bounds_in Ds r).lower _ (bounds_in Ds f).lower _ (bounds_in Ds g).lower _ _ T h)
    where
      step : (rc r fc f gc g x : ℤ) (t : ℕ) → pos t ≡ neg x →
          rc ⊕ r ⊖ (fc ⊗ (gc ⊕ g) ⊕ gc ⊗ (fc ⊕ f ⊖ fc) ⊕ pos t) ≡ rc ⊖ fc ⊗ gc ⊕ (r ⊕ (neg fc ⊗ g ⊕ (neg gc ⊗ f ⊕ x)))
      step = simp linear (omega arith)

  pub slacked : (first : ℕ) (ts : List (Term ℕ)) (c s : ℤ) (w x : ℕ) → s ≡ sum (value_of b t) ts ⊕ c → w ≡ count (neg (least (bounds_in t.domains.now) ts c)) →
      pos x ≡ sum (bits_in b.bytes.now) (weighted_bits first (weights w)) → s ⊕ pos x ≡ slacked_sum b t first ts c
  unfolding slack_weights
  slacked first ts c s w x e f g = rw (e, g, f) refl
