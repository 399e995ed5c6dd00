-- The distance of a variable over its bits: what is added to the constant, and for each bit.
use Rattle.std.proofs.Common.{◌≡◌, refl, sym, ap, ap₂, ◌∙◌, to_z, of_z, w64, ◌+ℤ◌, List, [], ◌∷◌, ℕ, zero, suc, ◌+◌, ◌≤◌, ◌<◌, arith, eqb, ne_eqb, ℤ, pos, nat_abs, length, get_or, replicate}
use native.Mathlib.Decide.{dec_le}
use mir.Facts.{to_z_pos}
use Rattle.std.proofs.lemmas.List.{get_or_past}
use lib.ListN.{length-replicate, get_or-replicate}
use Rattle.integers.specs.Choice.{◌if◌else◌}
use Rattle.integers.specs.Number.{◌⊕◌, ◌⊖◌, ◌⊗◌, neg, count, +0, +1}
use Rattle.integers.specs.Bounds.{bounds_in}
use Rattle.integers.specs.Terms.{Term}
use Rattle.integers.specs.declared.Bounds.{Bounds}
use Rattle.integers.proofs.Linear.{◌⊑◌, ◌⊏◌, linear}
use Rattle.integers.proofs.Sums.{zero-plus}
use Rattle.integers.proofs.Tests.{All}
use Rattle.words.specs.Variables.{variables}
use Rattle.words.specs.Refusal.{accepted}
use Rattle.rowsystems.specs.Reading.{read_rows}
use Rattle.rowsystems.specs.RowSystem.{rows}
use Rattle.rowsystems.proofs.Ordered.{Ordered, accepted-ordered}
use Rattle.bitforms.specs.SumOver.{sum_over}
use Rattle.bitforms.specs.OverBits.{OverBits, scaled}
use Rattle.bitforms.specs.Matrix.{coefficient_of}
use Rattle.bestforms.specs.declared.Direction.{Direction}
use Rattle.bestforms.specs.declared.Direction.TheVariants.{Least, Greatest}
use Rattle.bitforms.specs.Weights.{weights}
use Rattle.bitforms.specs.Encoding.{encodings, bits_after}
use Rattle.bitforms.specs.BitRow.{bit_rows, bits_with}
use Rattle.bitforms.specs.BitForm.{encoding, bit_rows_of, bit_count}
use Rattle.bitforms.proofs.Weights.{weights-total}
use Rattle.bitforms.proofs.Numbers.{Below, encoding_in, encodings-below, below_more, with-grows, scaled-below}
use Rattle.bitlines.specs.Dense.{add_terms, peak}
use Rattle.bitlines.proofs.Dense.{add-length, add-coefficient}
use Rattle.bittables.specs.BitTables.{span_in, bits_of, encoding_by}
use Rattle.bitrows.proofs.Over.{peak-scaled}
use Rattle.bitfilling.proofs.Filling.{zeros-peak}
use Rattle.bittaking.specs.Taking.{NearTimes}
use Rattle.bittaking.proofs.Far.{near-back}
use Rattle.bestforms.specs.BestForm.{distance_over, factor_of, factor, objective}
use Rattle.bestbits.specs.Answered.{sign, start}

pub start-is : (d : Direction) (B : Bounds) (s : OverBits) → B.lower ⊑ B.upper → s.constant ≡ B.lower → start d (count (B.upper ⊖ B.lower)) ≡ (distance_over d B s).constant
unfolding distance_over
start-is Least B s o e = rw e (least B.lower)
  where
    least : (l : ℤ) → pos 0 ≡ l ⊖ l
    least = simp linear (omega arith)
start-is Greatest B s o e = rw e (greatest B.lower B.upper o)
  where
    greatest : (l u : ℤ) → l ⊑ u → pos (count (u ⊖ l)) ≡ u ⊖ l
    greatest = simp linear (omega arith)

coefficient-once : (ts : List (Term ℕ)) (i : ℕ) → coefficient_of (scaled +1 ts) i ≡ coefficient_of ts i
unfolding coefficient_of scaled sum_over
coefficient-once [] i = refl
coefficient-once (t ∷ ts) i = ap₂ (λ x y. (x if eqb t.variable i else +0) ⊕ y) (one t.coefficient) (coefficient-once ts i)
  where
    one : (k : ℤ) → +1 ⊗ k ≡ k
    one = simp linear (omega arith)

pub signed-terms : (d : Direction) (B : Bounds) (s : OverBits) (i : ℕ) → coefficient_of (scaled (sign d) s.terms) i ≡ coefficient_of (distance_over d B s).terms i
unfolding distance_over
signed-terms Least B s i = coefficient-once s.terms i
signed-terms Greatest B s i = refl

-- of a bit that no term has
pub coefficient-none : (n : ℕ) (ts : List (Term ℕ)) (i : ℕ) → All (λ t. t.variable < n) ts → n ≤ i → coefficient_of ts i ≡ +0
unfolding coefficient_of sum_over
coefficient-none n [] i h l = refl
coefficient-none n (t ∷ ts) i h l = rw (ne_eqb t.variable i (λ e. omega (arith, h.0)), coefficient-none n ts i h.1 l) (zero-plus +0)

pub ordered-at : (Bs : List Bounds) (v : ℕ) → All Ordered Bs → v < length Bs → (bounds_in Bs v).lower ⊑ (bounds_in Bs v).upper
unfolding bounds_in
ordered-at [] v o l = absurd (omega arith)
ordered-at (B ∷ Bs) zero o l = o.0
ordered-at (B ∷ Bs) (suc v) o l = ordered-at Bs v o.1 (omega arith)

-- ---- sizes

sign-size : (d : Direction) → nat_abs (sign d) ≡ 1
unfolding neg
sign-size Least = refl
sign-size Greatest = refl

pub sign-near : (d : Direction) → nat_abs (sign d) ≤ 134217728
sign-near d = omega (arith, sign-size d)

pub start-near : (d : Direction) (w : ℕ) → w ≤ 268435456 → nat_abs (start d w) ≤ 268435456
start-near Least w h = omega arith
start-near Greatest w h = omega arith

pub times-near : (w : ℕ) → w ≤ 268435456 → NearTimes (pos (w + 1))
times-near w h = record { positive = above w; few = omega arith }
  where
    above : (w : ℕ) → pos 0 ⊏ pos (w + 1)
    above = simp linear (omega arith)

pub width-back : (w : ℕ) → w ≤ 268435456 → to_z w64 (of_z w64 (to_z w64 w +ℤ pos 1)) ≡ pos (w + 1)
width-back w h = rw (to_z_pos w64 {n = w} (omega arith)) (near-back (pos (w + 1)) (omega arith))

pub added-peak : (d : Direction) (Ds : List Bounds) (firsts : List ℕ) (v n : ℕ) → span_in Ds v ≤ 268435456 →
    peak (add_terms (replicate n +0) (scaled (sign d) (bits_of Ds firsts v))) ≤ 268435456
unfolding bits_of
added-peak d Ds firsts v n h =
    let p = rw (sign-size d, weights-total (span_in Ds v)) at (peak-scaled (sign d) (get_or firsts v 0) (weights (span_in Ds v)) (replicate n +0)) in
    omega (arith, p, zeros-peak n)

-- ---- of a variable whose bounds and bits are listed

encoding-below : (ws : List ℕ) (v : ℕ) → Below (bit_count ws) (encoding ws v).terms
unfolding bit_count bit_rows_of encoding
encoding-below ws v =
    let Bs = variables ws in
    let first = bits_after 0 Bs in
    let E = encoding_in (encodings 0 Bs) in
    let rs = bit_rows (bounds_in Bs) E first (rows ws) in
    below_more first (bits_with first rs) (with-grows first rs) (E v).terms (encodings-below 0 Bs v)

dense-at : (n : ℕ) (ts : List (Term ℕ)) → Below n ts → (i : ℕ) → Dec (n ≤ i) → get_or (add_terms (replicate n +0) ts) i +0 ≡ coefficient_of ts i
dense-at n ts b i (yes l) =
    get_or_past (add_terms (replicate n +0) ts) i +0 (omega (arith, add-length (replicate n +0) ts, length-replicate n +0))
    ∙ sym (coefficient-none n ts i b l)
dense-at n ts b i (no l) =
    add-coefficient (replicate n +0) ts i (omega (arith, length-replicate n +0))
    ∙ ap (λ x. x ⊕ coefficient_of ts i) (get_or-replicate n i +0 +0 (omega arith))
    ∙ zero-plus _

module _ (ws : List ℕ) (v : ℕ) (d : Direction) (Ds : List Bounds) (firsts : List ℕ) (same_bounds : bounds_in Ds v ≡ bounds_in (variables ws) v) (same_encoding : encoding_by Ds firsts v ≡ encoding ws v) where
  pub factor-is : pos (span_in Ds v + 1) ≡ pos (factor ws v)
  unfolding span_in factor factor_of
  factor-is = ap (λ B. pos (count (B.upper ⊖ B.lower) + 1)) same_bounds

  pub constant-is : read_rows ws ≡ accepted → v < length (variables ws) → start d (span_in Ds v) ≡ (objective ws v d).constant
  unfolding span_in objective
  constant-is z h =
      ap (λ B. start d (count (B.upper ⊖ B.lower))) same_bounds
      ∙ start-is d (bounds_in (variables ws) v) (encoding ws v) (ordered-at (variables ws) v (accepted-ordered ws z) h) (ap (λ s. s.constant) (sym same_encoding) ∙ ap (λ B. B.lower) same_bounds)

  pub added-is : (i : ℕ) → get_or (add_terms (replicate (bit_count ws) +0) (scaled (sign d) (bits_of Ds firsts v))) i +0 ≡ coefficient_of (objective ws v d).terms i
  unfolding objective
  added-is i =
      rw (ap (λ s. s.terms) same_encoding)
      (dense-at (bit_count ws) (scaled (sign d) (encoding ws v).terms) (scaled-below (bit_count ws) (sign d) (encoding ws v).terms (encoding-below ws v)) i (dec_le (bit_count ws) i)
      ∙ signed-terms d (bounds_in (variables ws) v) (encoding ws v) i)
