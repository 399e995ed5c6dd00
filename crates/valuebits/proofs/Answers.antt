-- What each outcome says of the call's answer; the values in wider numbers; the bits by the lists are the row system's.
use Rattle.std.proofs.Common.{◌≡◌, refl, ◌∙◌, false, List, ◌++◌, ℕ, ◌≤◌, ◌<◌, arith, ℤ, nat_abs, length, get_or, lt-ltb, le-ltb}
use native.Mathlib.Decide.{dec_le}
use lib.ListN.{get_or-eq_default}
use Rattle.integers.specs.Number.{+0}
use Rattle.integers.specs.Bounds.{bounds_in}
use Rattle.integers.specs.Terms.{value}
use Rattle.integers.proofs.Linear.{◌⊑◌, linear}
use Rattle.integers.specs.declared.Bounds.{Bounds}
use Rattle.integers.proofs.Tests.{says-within}
use Rattle.words.specs.LaidAt.{LaidAt}
use Rattle.words.specs.Overlay.{overlay}
use Rattle.words.proofs.LaidThen.{laid_then}
use Rattle.words.proofs.Rest.{laid-part}
use Rattle.words.specs.Variables.{variables}
use Rattle.words.specs.Refusal.{room_fault, ◌else_refuse◌}
use Rattle.words.specs.Answer.{Answer, holds, refused, written, is_holds, ◌else_answer◌}
use Rattle.words.specs.Small.{Small}
use Rattle.rowsystems.specs.RowSystem.{rows}
use Rattle.rowsystems.specs.JudgeRows.{judge_rows}
use Rattle.variables.proofs.Small.{bounds-near}
use Rattle.bitforms.specs.BitForm.{bit_count}
use Rattle.bitforms.specs.FormAnswer.{size_fault}
use Rattle.bitforms.specs.ValueBits.{rows_bits, variable_bits, value_bits}
use Rattle.bitanswers.specs.BitsAnswer.{value_bits_fault, value_bits_answer, value_bits_written}
use Rattle.bitanswers.proofs.ValueBits.{Holding}
use Rattle.bittables.specs.declared.table.BitVariable.{BitVariable}
use Rattle.bitreading.specs.BitsGiven.{BitsKept}
use Rattle.valuebits.specs.Answered.{Answered}

module _ (ws : List ℕ) (vs : List ℤ) (out : List ℕ) where
  -- judge-rows' answer, where it is not "holds"
  pub not-held : (a : Answer) → a ≡ judge_rows ws vs → is_holds a ≡ false → Answered ws vs out out a
  unfolding value_bits_answer value_bits_written
  not-held a e f = record { says = e ∙ rw (← e, f); holds = rw (← e, f) }

  module _ (j : judge_rows ws vs ≡ holds) where
    pub too_many : 1024 < bit_count ws → Answered ws vs out out (refused 23 0)
    unfolding value_bits_answer value_bits_written value_bits_fault size_fault ◌else_refuse◌ ◌else_answer◌ is_holds
    too_many l = let k = lt-ltb 1024 (bit_count ws) l in record { says = rw (j, k); holds = rw (j, k) }

    pub too_short : bit_count ws ≤ 1024 → length out < bit_count ws → Answered ws vs out out (refused 16 0)
    unfolding value_bits_answer value_bits_written value_bits_fault size_fault room_fault ◌else_refuse◌ ◌else_answer◌ is_holds
    too_short l s =
        let k = le-ltb 1024 (bit_count ws) l in
        let r = lt-ltb (length out) (bit_count ws) s in
        record { says = rw (j, k, r); holds = rw (j, k, r) }

    pub writes : bit_count ws ≤ 1024 → bit_count ws ≤ length out → Answered ws vs out (overlay out 0 (value_bits ws vs)) (written (bit_count ws))
    unfolding value_bits_answer value_bits_written value_bits_fault size_fault room_fault ◌else_refuse◌ ◌else_answer◌ is_holds
    writes l s =
        let k = le-ltb 1024 (bit_count ws) l in
        let r = le-ltb (length out) (bit_count ws) s in
        record { says = rw (j, k, r); holds = rw (j, k, r) }

-- values that satisfy the row system keep bounds near 0
pub small-values : (ws : List ℕ) (vs : List ℤ) → Holding ws vs → Small vs
unfolding value
small-values ws vs h v = go (dec_le (length vs) v)
  where
    near : (l u x : ℤ) → nat_abs l ≤ 134217728 → nat_abs u ≤ 134217728 → (l ⊑ x) × (x ⊑ u) → nat_abs x ≤ 134217728
    near = simp linear (omega arith)

    go : Dec (length vs ≤ v) → nat_abs (get_or vs v +0) ≤ 134217728
    go (yes l) = rw (get_or-eq_default vs +0 l) (omega arith)
    go (no l) =
        let b = bounds-near ws v in
        let m : v < length (variables ws) = omega (arith, h.inside.one_each) in
        let i = (says-within (bounds_in (variables ws) v) (value vs v)).0 (h.inside.in_bounds v m) in
        near (bounds_in (variables ws) v).lower (bounds_in (variables ws) v).upper (get_or vs v +0) b.0 b.1 i

-- the bits by the lists are the row system's
pub bits_are : (ws : List ℕ) (vs : List ℤ) {Ds : List Bounds} {bits : List BitVariable} {n start all : ℕ} → BitsKept ws Ds bits n start all →
    variable_bits (bounds_in Ds) (value vs) n ++ rows_bits (bounds_in Ds) (value vs) (rows ws) ≡ value_bits ws vs
unfolding value_bits
bits_are ws vs k = rw (k.same_bounds, k.as_many) refl

-- the variables' bits, then those of the rows
pub both-laid : (out : List ℕ) (xs ys : List ℕ) {a b : List ℕ} {end : ℕ} → LaidAt out 0 xs a end → b ≡ overlay a end ys → b ≡ overlay out 0 (xs ++ ys)
both-laid out xs ys d e = e ∙ (laid_then d (laid-part _ _ ys _ refl)).over
