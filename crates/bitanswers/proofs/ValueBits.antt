-- The bits of values that judge-rows says "holds" of read as these values, and the form is 0 at them.
use Rattle.std.proofs.Common.{◌<◌, le-ltb, ◌≡◌, refl, sym, ap, ◌∙◌, Bool, true, false, ◌&&◌, List, [], ◌∷◌, map, ℕ, zero, suc, ◌+◌, ◌≤◌, arith, eqb, ℤ, pos, length, take, eq-eqb, eqb-true}
use lib.ListN.{length-map}
use Rattle.std.proofs.lemmas.List.{ext_get_or}
use Rattle.integers.specs.Number.{+0}
use Rattle.integers.specs.Choice.{◌if◌else◌}
use Rattle.integers.specs.Lists.{all}
use Rattle.integers.specs.Bounds.{within}
use Rattle.integers.specs.Terms.{Valuation, value}
use Rattle.integers.specs.declared.Bounds.{Bounds}
use Rattle.integers.proofs.Bits.{Bit, bit_case}
use Rattle.integers.proofs.Tests.{All, false-true}
use Rattle.words.specs.Fault as Fault
use Rattle.words.specs.Limit as Limit
use Rattle.words.specs.Variables.{variables}
use Rattle.words.specs.Overlay.{overlay}
use Rattle.words.specs.Refusal.{accepted, ◌at_place◌, count_fault, room_fault, ◌else_refuse◌}
use Rattle.words.specs.Answer.{Answer, holds, out_of_bounds, is_false, written, refused_or, is_holds, ◌else_answer◌}
use Rattle.words.specs.Judge.{first_false, first_out_of_bounds, judge}
use Rattle.words.proofs.Answers.{is-holds}
use Rattle.words.proofs.Judge.{judge-holds}
use Rattle.words.proofs.Overlay.{front-over}
use Rattle.rowsystems.specs.Row.{satisfied}
use Rattle.rowsystems.specs.RowSystem.{rows}
use Rattle.rowsystems.specs.Reading.{read_rows}
use Rattle.rowsystems.specs.JudgeRows.{judge_accepted, judge_rows}
use Rattle.bitforms.specs.BitForm.{bit_count}
use Rattle.bitforms.specs.FormAnswer.{size_fault}
use Rattle.bitforms.specs.ValueBits.{value_bits}
use Rattle.bitforms.specs.SameSolutions.{InBounds}
use Rattle.bitforms.proofs.Theorem.{value-bits, all-bits, form-energy, witness}
use Rattle.bitanswers.specs.BitFaults.{bit_count_fault, bits_fault}
use Rattle.bitanswers.specs.ReadValues.{read_values, bit_values_fault, bit_values, bit_valued}
use Rattle.bitanswers.specs.BitEnergy.{energy_at, energy_fault, bit_energy}
use Rattle.bitanswers.specs.BitsAnswer.{value_bits_fault, value_bits_answer, value_bits_written, ReadBy, ComesBack, BitsRead}
use Rattle.bitanswers.proofs.Faults.{AllFine, accepts, few_bits, fine-none, first-passed, room_enough, counted}
use Rattle.bitanswers.proofs.ReadValues.{values_length, values-at}

-- ---- what "holds" says

answered : (k p : ℕ) (after : Answer) → refused_or k p after ≡ holds → (k ≡ 0) × (after ≡ holds)
unfolding is_holds
answered zero p after e = (refl, e)
answered (suc k) p after e = false-true (ap is_holds e)

same_count : (ws : List ℕ) (vs : List ℤ) → (count_fault ws vs).number ≡ 0 → length vs ≡ length (variables ws)
unfolding count_fault
same_count ws vs e = go (eqb (length vs) (length (variables ws))) refl e
  where
    go : (t : Bool) → eqb (length vs) (length (variables ws)) ≡ t → (accepted if t else Fault.wrong_value_count at_place 0).number ≡ 0 → length vs ≡ length (variables ws)
    go true q e = eqb-true (length vs) (length (variables ws)) q
    go false q e = absurd (omega arith)

pub record Holding (ws : List ℕ) (vs : List ℤ) : Type 0 where
  pub read : read_rows ws ≡ accepted
  pub inside : InBounds ws vs
  pub all_true : all (satisfied (value vs)) (rows ws) ≡ true

pub holding : (ws : List ℕ) (vs : List ℤ) → judge_rows ws vs ≡ holds → Holding ws vs
unfolding judge_rows judge_accepted ◌else_answer◌
holding ws vs e =
    let a = answered _ _ (judge_accepted ws vs) e in
    let f = first-passed (read_rows ws) (count_fault ws vs) a.0 in
    let j = (judge-holds (value vs) (variables ws) (satisfied (value vs)) (rows ws)).0 a.1 in
    record { read = accepts ws f.0; inside = record { one_each = same_count ws vs f.1; in_bounds = j.0 }; all_true = j.1 }

-- ---- a judge counts nothing

false-counts : {A : Type 0} (t : A → Bool) (k : ℕ) (xs : List A) (n : ℕ) → first_false t k xs ≡ written n → ⊥
unfolding first_false
false-counts t k [] n e = let z : ◌≡◌ {A = ℕ} 0 1 = cc in omega arith
false-counts t k (x ∷ xs) n e = go (t x) e (false-counts t (k + 1) xs n)
  where
    go : (b : Bool) → (first_false t (k + 1) xs if b else is_false k) ≡ written n → (first_false t (k + 1) xs ≡ written n → ⊥) → ⊥
    go true e r = r e
    go false e r = let z : ◌≡◌ {A = ℕ} 0 1 = cc in omega arith

outside-counts : (σ : Valuation) (k : ℕ) (Bs : List Bounds) (after : Answer) (n : ℕ) → (after ≡ written n → ⊥) → first_out_of_bounds σ k Bs after ≡ written n → ⊥
unfolding first_out_of_bounds
outside-counts σ k [] after n f e = f e
outside-counts σ k (B ∷ Bs) after n f e = go (within B (σ k)) e (outside-counts σ (k + 1) Bs after n f)
  where
    go : (b : Bool) → (first_out_of_bounds σ (k + 1) Bs after if b else out_of_bounds k) ≡ written n → (first_out_of_bounds σ (k + 1) Bs after ≡ written n → ⊥) → ⊥
    go true e r = r e
    go false e r = let z : ◌≡◌ {A = ℕ} 0 1 = cc in omega arith

never-written : (ws : List ℕ) (vs : List ℤ) (n : ℕ) → judge_rows ws vs ≡ written n → ⊥
unfolding judge_rows judge_accepted judge ◌else_answer◌
never-written ws vs n e = go (read_rows ws else_refuse count_fault ws vs).number e
  where
    go : (k : ℕ) → refused_or k (read_rows ws else_refuse count_fault ws vs).place (judge_accepted ws vs) ≡ written n → ⊥
    go zero e = outside-counts (value vs) 0 (variables ws) _ n (false-counts (satisfied (value vs)) 0 (rows ws) n) e
    go (suc k) e = let z : ◌≡◌ {A = ℕ} 0 1 = cc in omega arith

-- ---- the bits

-- bits of 0 and 1 are bytes without a fault
all-fine : (bs : List ℕ) → All Bit (map pos bs) → AllFine bs
all-fine [] h = tt
all-fine (b ∷ bs) h = (bit_case h.0 (λ e. let z : b ≡ 0 = cc in omega arith) (λ e. let z : b ≡ 1 = cc in omega arith), all-fine bs h.1)

module _ (ws : List ℕ) (vs : List ℤ) (h : Holding ws vs) where
  abbrev bytes : List ℕ
  bytes = value_bits ws vs

  pub read_by : ReadBy ws bytes vs
  unfolding energy_at
  read_by =
      let w = witness ws vs h.inside h.all_true in
      let bs = map pos bytes in
      record { are_bits = w.0; read_as = w.1; form_zero = sym (form-energy ws (value bs) (value-bits bs ((all-bits bs).0 w.0.zero_or_one))) ∙ w.2 }

  pub bits-length : length bytes ≡ bit_count ws
  bits-length = sym (length-map bytes pos) ∙ read_by.are_bits.one_each

  -- the values that they read as
  values-are : read_values ws (map pos bytes) ≡ vs
  unfolding value
  values-are =
      let l = values_length ws (map pos bytes) in
      ext_get_or +0 (read_values ws (map pos bytes)) vs (l ∙ sym h.inside.one_each)
      (λ v m. let k : v < length (variables ws) = omega (arith, l) in sym (values-at ws (map pos bytes) v k) ∙ read_by.read_as v k)

  module _ (few : bit_count ws ≤ Limit.bits) where
    no-bits-fault : bits_fault ws bytes ≡ accepted
    unfolding bits_fault size_fault bit_count_fault ◌else_refuse◌
    no-bits-fault =
        rw (h.read, le-ltb 1024 (bit_count ws) few, eq-eqb (length bytes) (bit_count ws) bits-length)
        (fine-none 0 bytes (all-fine bytes ((all-bits (map pos bytes)).0 read_by.are_bits.zero_or_one)))

    pub comes-back : ComesBack ws bytes vs
    unfolding bit_values bit_valued bit_values_fault bit_energy energy_fault room_fault ◌else_refuse◌ ◌else_answer◌
    comes-back = record {
      answer_back = λ room l. let k : length (variables ws) ≤ room = omega (arith, h.inside.one_each) in rw (no-bits-fault, le-ltb room (length (variables ws)) k, h.inside.one_each) refl;
      values_back = λ out l. let k : length (variables ws) ≤ length out = omega (arith, h.inside.one_each) in rw (no-bits-fault, le-ltb (length out) (length (variables ws)) k, values-are) refl;
      energy_back = rw (no-bits-fault, read_by.form_zero) refl;
    }

pub bits-read : (ws : List ℕ) (vs : List ℤ) (out : List ℕ) → BitsRead ws vs (value_bits_answer ws vs (length out)) (value_bits_written ws vs out)
unfolding value_bits_answer value_bits_written value_bits_fault ◌else_answer◌
bits-read ws vs out n e = go (is_holds (judge_rows ws vs)) refl e
  where
    go : (t : Bool) → is_holds (judge_rows ws vs) ≡ t → ((value_bits_fault ws (length out) else_answer written (bit_count ws)) if t else judge_rows ws vs) ≡ written n →
        let bs = take n (overlay out 0 (value_bits ws vs) if t && eqb (value_bits_fault ws (length out)).number Fault.none else out) in ReadBy ws bs vs × ComesBack ws bs vs
    go true q e =
        let h = holding ws vs (is-holds _ q) in
        let c = counted _ _ (bit_count ws) n e in
        let f = first-passed (size_fault ws) (room_fault (length out) (bit_count ws)) c.0 in
        let l = bits-length ws vs h in
        rw (eq-eqb _ 0 c.0, ← c.1, ← l, front-over out (value_bits ws vs) (rw l (room_enough (length out) (bit_count ws) f.1)))
        (read_by ws vs h, comes-back ws vs h (few_bits ws f.0))
    go false q e = absurd (never-written ws vs n e)

-- of an answer and an output that are the definitions'
pub bits_read_of : (ws : List ℕ) (vs : List ℤ) (out : List ℕ) {after : List ℕ} {answer : Answer} → answer ≡ value_bits_answer ws vs (length out) → after ≡ value_bits_written ws vs out → BitsRead ws vs answer after
bits_read_of ws vs out e f = rw (e, f) (bits-read ws vs out)
