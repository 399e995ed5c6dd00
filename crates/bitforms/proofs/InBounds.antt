-- Bits read as values inside the bounds, where no upper bound is below its lower one.
use Rattle.std.proofs.Common.{List, [], ◌∷◌, ℕ, zero, suc, ◌+◌, ◌<◌, arith, ℤ, pos, length}
use Rattle.integers.specs.Number.{◌⊕◌, ◌⊖◌, ◌⊗◌, count}
use Rattle.integers.specs.Bounds.{bounds_in}
use Rattle.integers.specs.Terms.{Valuation, sum}
use Rattle.integers.specs.declared.Bounds.{Bounds}
use Rattle.integers.proofs.Bits.{Bit, bits as zero_one}
use Rattle.integers.proofs.Linear.{◌⊑◌, linear, arith_z}
use Rattle.integers.proofs.Tests.{All, In}
use Rattle.rowsystems.proofs.Ordered.{Ordered}
use Rattle.bitforms.specs.OverBits.{evaluate, weighted_bits}
use Rattle.bitforms.specs.Encoding.{weights_of, encodings}
use Rattle.bitforms.specs.Weights.{weights}
use Rattle.bitforms.proofs.Bits.{Bits}
use Rattle.bitforms.proofs.Weights.{added-up, weights-total, weighted-positive}
use Rattle.bitforms.proofs.Numbers.{encoding_in}

weighted-most : {γ : Valuation} → Bits γ → (first : ℕ) (ws : List ℕ) → sum γ (weighted_bits first ws) ⊑ pos (added-up ws)
unfolding sum weighted_bits
weighted-most b first [] = omega arith_z
weighted-most {γ} b first (w ∷ ws) = step (γ first) (b first) w _ _ (weighted-most b (suc first) ws)
  where
    step : (y : ℤ) → Bit y → (w : ℕ) (s : ℤ) (n : ℕ) → s ⊑ pos n → pos w ⊗ y ⊕ s ⊑ pos (w + n)
    step = simp zero_one (simp linear (omega arith))

variable-inside : {γ : Valuation} → Bits γ → (first : ℕ) (B : Bounds) → Ordered B → In B (B.lower ⊕ sum γ (weighted_bits first (weights_of B)))
unfolding weights_of
variable-inside {γ} b first B o =
    let w = count (B.upper ⊖ B.lower) in
    inside B.lower B.upper (sum γ (weighted_bits first (weights w))) o (weighted-positive b first (weights w)) (rw (weights-total w) at (weighted-most b first (weights w)))
  where
    inside : (l u s : ℤ) → l ⊑ u → pos 0 ⊑ s → s ⊑ pos (count (u ⊖ l)) → (l ⊑ l ⊕ s) × (l ⊕ s ⊑ u)
    inside = simp linear (omega arith)

pub bits_inside : {γ : Valuation} → Bits γ → (first : ℕ) (Bs : List Bounds) → All Ordered Bs → (v : ℕ) → v < length Bs → In (bounds_in Bs v) (evaluate γ (encoding_in (encodings first Bs) v))
unfolding encodings bounds_in evaluate
bits_inside b first [] o v l = absurd (omega arith)
bits_inside b first (B ∷ Bs) o zero l = variable-inside b first B o.0
bits_inside b first (B ∷ Bs) o (suc v) l = bits_inside b (first + length (weights_of B)) Bs o.1 v (omega arith)
