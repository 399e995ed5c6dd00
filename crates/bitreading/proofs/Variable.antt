-- The value that a variable's bits read as, by the lists, and its size.
use Rattle.std.proofs.Common.{◌≡◌, List, ℕ, ◌≤◌, arith, ℤ, pos, nat_abs, get_or}
use Rattle.integers.specs.Number.{◌⊕◌}
use Rattle.integers.specs.Bounds.{bounds_in}
use Rattle.integers.specs.declared.Bounds.{Bounds}
use Rattle.integers.specs.Terms.{sum}
use Rattle.integers.proofs.Fits.{plus-size}
use Rattle.words.specs.Small.{Near}
use Rattle.bitforms.specs.Weights.{weights}
use Rattle.bitforms.specs.OverBits.{evaluate, weighted_bits}
use Rattle.bittables.specs.BitTables.{span_in, bits_of, encoding_by}
use Rattle.bitreading.specs.BitsGiven.{bits_in}

pub variable-reads : (bs : List ℕ) (Ds : List Bounds) (firsts : List ℕ) (v : ℕ) (first span w : ℕ) → first ≡ get_or firsts v 0 → span ≡ span_in Ds v →
    pos w ≡ sum (bits_in bs) (weighted_bits first (weights span)) → (bounds_in Ds v).lower ⊕ pos w ≡ evaluate (bits_in bs) (encoding_by Ds firsts v)
unfolding evaluate bits_of
variable-reads bs Ds firsts v first span w f g h = rw (h, f, g)

pub variable-size : (b : ℤ) (w : ℕ) → Near b → w ≤ 268435456 → nat_abs (b ⊕ pos w) ≤ 402653184
variable-size b w n l = omega (arith, plus-size b (pos w))
