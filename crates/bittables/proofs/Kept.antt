-- What the lists give, where they had zeros before and no variable is cut: the bits of the row system's variables.
use Rattle.std.proofs.Common.{◌≡◌, refl, sym, ap, ap₂, ◌∙◌, List, [], ◌∷◌, map, ℕ, zero, suc, ◌+◌, ◌≤◌, arith, length, get_or, replicate}
use mathlib.Core.Path.{fun_ext}
use lib.ListN.{length-map}
use Rattle.integers.specs.Number.{◌⊖◌, count, +0}
use Rattle.integers.specs.Lists.{list_of}
use Rattle.integers.specs.Bounds.{◌to◌, bounds_in}
use Rattle.integers.specs.declared.Bounds.{Bounds}
use Rattle.integers.proofs.Places.{bounds-listed}
use Rattle.words.specs.Overlay.{overlay}
use Rattle.words.specs.Variables.{variables}
use Rattle.rowsystems.specs.RowSystem.{rows}
use Rattle.integers.specs.Bounds.{bounds_in}
use Rattle.extremes.proofs.Kept.{over_zeros, kept-bounds}
use Rattle.variables.proofs.Small.{bounds-near}
use Rattle.bitforms.specs.Weights.{weights_from, weights}
use Rattle.bitforms.specs.OverBits.{OverBits, weighted_bits}
use Rattle.bitforms.specs.Encoding.{weights_of, encodings, bits_after}
use Rattle.bitforms.specs.BitRow.{bit_rows}
use Rattle.bitforms.specs.BitForm.{encoding, bit_rows_of}
use Rattle.bitforms.proofs.Numbers.{encoding_in, after-grows}
use Rattle.bittables.specs.BitTables.{span_in, bits_of, encoding_by, rows_by, NearFirsts, BitCounts}
use Rattle.bittables.specs.KeptBits.{firsts_from}
use Rattle.bittables.proofs.Keeping.{bits_in, firsts_length, weights-by, few-after}

-- ---- variable by variable, 0 past the last one

no-weights : weights_of (+0 to +0) ≡ []
unfolding weights_of weights weights_from count ◌⊖◌
no-weights = refl

counts-at : (Bs : List Bounds) (v : ℕ) → get_or (map (λ B. length (weights_of B)) Bs) v 0 ≡ length (weights_of (bounds_in Bs v))
unfolding bounds_in
counts-at [] v = ap length (sym no-weights)
counts-at (B ∷ Bs) zero = refl
counts-at (B ∷ Bs) (suc v) = counts-at Bs v

firsts_at : (first : ℕ) (Bs : List Bounds) (v : ℕ) → get_or (firsts_from first Bs) v 0 ≤ bits_after first Bs
unfolding firsts_from bits_after
firsts_at first [] v = omega arith
firsts_at first (B ∷ Bs) zero = omega (arith, after-grows (first + bits_in B) Bs)
firsts_at first (B ∷ Bs) (suc v) = firsts_at (first + bits_in B) Bs v

-- a variable over its bits
encodings-at : (first : ℕ) (Bs : List Bounds) (v : ℕ) →
    encoding_in (encodings first Bs) v ≡ record { constant = (bounds_in Bs v).lower; terms = weighted_bits (get_or (firsts_from first Bs) v 0) (weights_of (bounds_in Bs v)) }
unfolding encodings bounds_in firsts_from weighted_bits
encodings-at first [] v = rw no-weights refl
encodings-at first (B ∷ Bs) zero = refl
encodings-at first (B ∷ Bs) (suc v) = encodings-at (first + bits_in B) Bs v

-- what first bits and numbers of bits are, of variables with the bounds Ds
pub record BitTables (Ds : List Bounds) (firsts counts : List ℕ) : Type 0 where
  pub near_first : NearFirsts firsts
  pub counted : BitCounts Ds counts

-- ---- THE LAWS, of what `keep_bits` leaves in two lists of zeros that have room

abbrev pub firsts_kept : ℕ → List ℕ → List ℕ
firsts_kept size ws = overlay (replicate size 0) 0 (firsts_from 0 (variables ws))

abbrev pub counts_kept : ℕ → List ℕ → List ℕ
counts_kept size ws = overlay (replicate size 0) 0 (map (λ B. length (weights_of B)) (variables ws))

abbrev pub domains_kept : ℕ → List ℕ → List Bounds
domains_kept size ws = overlay (replicate size (+0 to +0)) 0 (variables ws)

-- the variables have few bits
pub kept-few : (ws : List ℕ) → length (variables ws) ≤ 4096 → bits_after 0 (variables ws) ≤ 253952
kept-few ws few = rw (bounds-listed (variables ws)) at (bounded (length (variables ws)) few)
  where
    bounded : (n : ℕ) → n ≤ 4096 → bits_after 0 (list_of (bounds_in (variables ws)) n) ≤ 253952
    bounded n l = omega (arith, few-after (variables ws) (bounds-near ws) n)

module _ (size : ℕ) (ws : List ℕ) (few : length (variables ws) ≤ 4096) (room : length (variables ws) ≤ size) where
  same-bounds : bounds_in (domains_kept size ws) ≡ bounds_in (variables ws)
  same-bounds = kept-bounds ws size room

  -- the bounds of the list are the variables
  pub kept-variables : list_of (bounds_in (domains_kept size ws)) (length (variables ws)) ≡ variables ws
  kept-variables = ap (λ β. list_of β (length (variables ws))) same-bounds ∙ bounds-listed (variables ws)

  first-kept : (v : ℕ) → get_or (firsts_kept size ws) v 0 ≡ get_or (firsts_from 0 (variables ws)) v 0
  first-kept v = over_zeros 0 size (firsts_from 0 (variables ws)) (omega (arith, room, firsts_length 0 (variables ws))) v

  count-kept : (v : ℕ) → get_or (counts_kept size ws) v 0 ≡ bits_in (bounds_in (variables ws) v)
  count-kept v = over_zeros 0 size (map bits_in (variables ws)) (omega (arith, room, length-map (variables ws) bits_in)) v ∙ counts-at (variables ws) v

  weights-kept : (v : ℕ) → weights_of (bounds_in (variables ws) v) ≡ weights (span_in (domains_kept size ws) v)
  weights-kept v = ap (λ β. weights_of (β v)) (sym same-bounds) ∙ weights-by (domains_kept size ws) v

  pub kept_tables : BitTables (domains_kept size ws) (firsts_kept size ws) (counts_kept size ws)
  kept_tables = record {
    near_first = λ v. rw (first-kept v) (omega (arith, firsts_at 0 (variables ws) v, kept-few ws few));
    counted = λ v. count-kept v ∙ ap length (weights-kept v);
  }

  pub kept-encoding : encoding_by (domains_kept size ws) (firsts_kept size ws) ≡ encoding ws
  unfolding encoding bits_of
  kept-encoding = fun_ext (λ v. sym (encodings-at 0 (variables ws) v ∙ same v))
    where
      same : (v : ℕ) → ◌≡◌ {A = OverBits} (record { constant = (bounds_in (variables ws) v).lower; terms = weighted_bits (get_or (firsts_from 0 (variables ws)) v 0) (weights_of (bounds_in (variables ws) v)) })
          (encoding_by (domains_kept size ws) (firsts_kept size ws) v)
      same v = rw (weights-kept v, first-kept v) (ap (λ β. record { constant = (β v).lower; terms = weighted_bits (get_or (firsts_from 0 (variables ws)) v 0) (weights (span_in (domains_kept size ws) v)) }) (sym same-bounds))

  -- and the rows over bits by them are the row system's
  pub kept-rows : rows_by (domains_kept size ws) (firsts_kept size ws) (bits_after 0 (variables ws)) ws ≡ bit_rows_of ws
  unfolding bit_rows_of
  kept-rows = ap₂ (λ β E. bit_rows β E (bits_after 0 (variables ws)) (rows ws)) same-bounds kept-encoding
