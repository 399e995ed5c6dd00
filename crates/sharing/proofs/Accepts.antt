-- What a model that passes the check gives: its words are read without a fault, and so much of each block.
use Rattle.std.proofs.Common.{◌≡◌, refl, ap, Bool, true, false, List, [], ◌∷◌, ℕ, ◌+◌, ◌≤◌, arith, ltb, length, ltb-false}
use Rattle.integers.specs.Choice.{◌if◌else◌}
use Rattle.integers.specs.declared.Bounds.{Bounds}
use Rattle.words.specs.Fault as Fault
use Rattle.words.specs.Limit as Limit
use Rattle.words.specs.Variables.{variables}
use Rattle.words.specs.Refusal.{◌at_place◌, accepted, ◌else_refuse◌, first_fault}
use Rattle.words.specs.Refusals.{Refusal}
use Rattle.words.proofs.Reading.{read-without, passed-number}
use Rattle.models.specs.Reading.{after, ended, begin, read_model, read_model_in}
use Rattle.models.specs.InRange.{fault}
use Rattle.models.specs.Model.{Constraint, constraints}
use Rattle.rules.specs.InRange.{outside, block_fault, blocks_fault}
use Rattle.rules.specs.Shared.{choice, encodes, Encoded, none_yet, encoded_after}
use Rattle.rules.specs.Translation.{bounds, shared, block_of}
use Rattle.rules.specs.Check.{too_wide, block_fault_in, blocks_fault_in, check_fault_in}
use Rattle.sharing.specs.SharedSolutions.{Passes}

-- ---- a reading without a fault is `accepted`

pub read-zero : (ws : List ℕ) → (read_model ws).number ≡ 0 → read_model ws ≡ accepted
unfolding read_model_in
read-zero ws = go (ltb Limit.model_words (length ws))
  where
    rest : Refusal
    rest = first_fault fault after ended begin 0 ws

    go : (t : Bool) → (1 at_place 0 if t else rest).number ≡ 0 → (1 at_place 0 if t else rest) ≡ accepted
    go true e = absurd (omega (arith, e))
    go false e = read-without fault after ended begin 0 ws e

-- ---- blocks without a fault

-- of each block, the auxiliaries numbered from `first` on: 12, 13 and 14 do not hold
abbrev pub Fine : (ℕ → Bounds) → (ℕ → Bool) → ℕ → Encoded → List Constraint → Type 0
Fine β s first e [] = Unit {0}
Fine β s first e (c ∷ cs) =
    (too_wide β s c ≡ false)
    × (outside (block_of β s e c) ≡ false)
    × (first + length (block_of β s e c).auxiliaries ≤ Limit.in_all)
    × Fine β s (first + length (block_of β s e c).auxiliaries) (encoded_after s first e (encodes (choice c))) cs

pub one-fine : (β : ℕ → Bounds) (s : ℕ → Bool) (first : ℕ) (e : Encoded) (c : Constraint) → block_fault β s first e c ≡ 0 →
    (too_wide β s c ≡ false) × (outside (block_of β s e c) ≡ false) × (first + length (block_of β s e c).auxiliaries ≤ Limit.in_all)
unfolding block_fault_in
one-fine β s first e c = go (too_wide β s c) (outside (block_of β s e c)) (ltb Limit.in_all (first + length (block_of β s e c).auxiliaries)) refl
  where
    go : (t u v : Bool) → ltb Limit.in_all (first + length (block_of β s e c).auxiliaries) ≡ v →
        ◌≡◌ {A = ℕ} (Fault.set_too_wide if t else Fault.number_outside if u else Fault.too_many_in_all if v else Fault.none) 0 →
        (t ≡ false) × (u ≡ false) × (first + length (block_of β s e c).auxiliaries ≤ Limit.in_all)
    go true u v p f = absurd (omega (arith, f))
    go false true v p f = absurd (omega (arith, f))
    go false false true p f = absurd (omega (arith, f))
    go false false false p f = (refl, refl, ltb-false _ _ p)

pub all-fine : (β : ℕ → Bounds) (s : ℕ → Bool) (first : ℕ) (e : Encoded) (cs : List Constraint) → (blocks_fault β s first e cs).number ≡ 0 → Fine β s first e cs
unfolding blocks_fault_in
all-fine β s first e [] h = tt
all-fine β s first e (c ∷ cs) h =
    let n = first + length (block_of β s e c).auxiliaries in
    let d = encoded_after s first e (encodes (choice c)) in
    let f = passed-number (block_fault β s first e c) c.place (blocks_fault β s n d cs) h in
    let o = one-fine β s first e c f.0 in
    (o.0, o.1, o.2, all-fine β s n d cs f.1)

-- ---- the whole

pub passes-read : (ws : List ℕ) → Passes ws → read_model ws ≡ accepted
unfolding check_fault_in ◌else_refuse◌
passes-read ws h = read-zero ws (passed-number (read_model ws).number (read_model ws).place _ (ap (λ (r : Refusal). r.number) h)).0

pub passes-fine : (ws : List ℕ) → Passes ws → Fine (bounds ws) (shared ws) (length (variables ws)) none_yet (constraints ws)
unfolding check_fault_in ◌else_refuse◌
passes-fine ws h =
    all-fine (bounds ws) (shared ws) (length (variables ws)) none_yet (constraints ws)
    (passed-number (read_model ws).number (read_model ws).place _ (ap (λ (r : Refusal). r.number) h)).1
