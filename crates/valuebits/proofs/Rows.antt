-- The own bits of rows by the lists, and the walk over the words that puts them.
use Rattle.std.proofs.Common.{◌≡◌, sym, ap, Bool, true, false, List, [], ◌∷◌, ℕ, zero, suc, ◌+◌, ◌*◌, ◌≤◌, ◌<◌, arith, eqb, leb, ℤ, length, get_or, drop}
use mathlib.Core.List.{flat_map}
use Rattle.integers.specs.Choice.{◌if◌else◌}
use Rattle.integers.specs.Number.{◌⊕◌, neg, count}
use Rattle.integers.specs.Terms.{sum, value}
use Rattle.integers.specs.Bounds.{bounds_in}
use Rattle.integers.specs.declared.Bounds.{Bounds}
use Rattle.words.specs.Kind as Kind
use Rattle.words.specs.LaidAt.{LaidAt}
use Rattle.words.specs.Overlay.{overlay}
use Rattle.words.specs.Word.{kind}
use Rattle.words.proofs.Rest.{Rest, lay-part, same_rest, none_left}
use Rattle.rowsystems.specs.OneWord.{starts_row, row_of}
use Rattle.rowsystems.specs.Row.{Row, product}
use Rattle.rowsystems.specs.RowSystem.{rows, term_count, terms_in, constant_in, variable_at}
use Rattle.rowsystems.proofs.Walk.{starts_none, starts-one, none_left as no_rows}
use Rattle.bitforms.specs.BitRow.{least, slack_weights}
use Rattle.bitforms.specs.Chosen.{left_of, chosen}
use Rattle.bitforms.specs.Encoding.{weights_of}
use Rattle.bitforms.specs.ValueBits.{bits_of_value, own_bits, rows_bits}
use Rattle.bitforms.specs.Weights.{weights}
use Rattle.bitreading.specs.FineBits.{FineBits}
use Rattle.bitrows.proofs.Constant.{row_at_most, row-equal, row-product}

-- ---- chosen bits are 0 or 1

chosen-fine : (ws : List ℕ) (x : ℕ) → FineBits (chosen ws x)
unfolding chosen
chosen-fine [] x i = omega arith
chosen-fine (w ∷ ws) x zero = either (leb w (left_of ws x))
  where
    either : (t : Bool) → (1 if t else 0) < 2
    either true = omega arith
    either false = omega arith
chosen-fine (w ∷ ws) x (suc i) = chosen-fine ws x i

pub value-fine : (B : Bounds) (x : ℤ) → FineBits (bits_of_value B x)
unfolding bits_of_value
value-fine B x = chosen-fine (weights_of B) _

-- ---- the own bits of the row with a head

module _ (Ds : List Bounds) (vs : List ℤ) (head : ℕ) (args : List ℕ) where
  abbrev own : Row ℕ → List ℕ
  own q = own_bits (bounds_in Ds) (value vs) q

  pub own_at_most : {n w x : ℕ} → eqb (kind head) Kind.at_most ≡ true → n ≡ term_count head →
      w ≡ count (neg (least (bounds_in Ds) (terms_in args n) (constant_in args n))) → x ≡ count (neg (sum (value vs) (terms_in args n) ⊕ constant_in args n)) →
      chosen (weights w) x ≡ own (row_of head args)
  unfolding own_bits slack_weights
  own_at_most k e f g = rw (row_at_most head args k, f, g, e)

  pub own-equal : eqb (kind head) Kind.at_most ≡ false → eqb (kind head) Kind.equal ≡ true → [] ≡ own (row_of head args)
  unfolding own_bits
  own-equal k l = rw (row-equal head args k l)

  pub own-product : eqb (kind head) Kind.at_most ≡ false → eqb (kind head) Kind.equal ≡ false →
      own (product (variable_at args 0) (variable_at args 1) (variable_at args 2)) ≡ own (row_of head args)
  own-product k l = ap own (sym (row-product head args k l))

-- ---- the walk

module _ (β : ℕ → Bounds) (σ : ℕ → ℤ) where
  pub record Walking (ws before now : List ℕ) (start to at : ℕ) : Type 0 where
    pub place : at ≤ length ws
    pub small : to ≤ start + 3844 * at
    pub rest : Rest before start (rows_bits β σ (rows ws)) now to (rows_bits β σ (rows (drop at ws)))

  module _ {ws before now : List ℕ} {start to at : ℕ} (s : Walking ws before now start to at) where
    pub walking_none : at < length ws → starts_row (get_or ws at 0) ≡ false → Walking ws before now start to (at + 1)
    walking_none h z = record { place = omega arith; small = omega (arith, s.small); rest = same_rest (ap (rows_bits β σ) (starts_none ws at h z)) s.rest }

    pub walking_one : {later : List ℕ} {end : ℕ} → at < length ws → starts_row (get_or ws at 0) ≡ true →
        LaidAt now to (own_bits β σ (row_of (get_or ws at 0) (drop (at + 1) ws))) later end → end ≤ to + 3844 → Walking ws before later start end (at + 1)
    unfolding flat_map
    walking_one h z d l = record {
      place = omega arith;
      small = omega (arith, s.small);
      rest = lay-part (same_rest (ap (rows_bits β σ) (starts-one ws at h z)) s.rest) d;
    }

    pub walking_done : length ws ≤ at → now ≡ overlay before start (rows_bits β σ (rows ws))
    unfolding flat_map
    walking_done h = (none_left (same_rest (ap (rows_bits β σ) (no_rows ws at h)) s.rest)).over
