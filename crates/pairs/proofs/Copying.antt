-- What copying a candidate's model answers in each of its cases.
use Rattle.std.proofs.Common.{◌≡◌, sym, ap, ◌∙◌, List, ℕ, ◌+◌, ◌-◌, ◌<◌, ◌≤◌, arith, Ok, Err, length, eq-eqb, ne_eqb}
use Rattle.words.specs.Answer.{refused}
use Rattle.words.specs.Faults.{fault_number}
use Rattle.words.specs.Overlay.{overlay}
use Rattle.words.specs.Refusals.{Refusal}
use Rattle.words.specs.declared.fault.Fault.TheVariants as f
use Rattle.words.specs.declared.fault.Refusal as error
use Rattle.words.proofs.Faulty.{fault-number}
use Rattle.pairs.specs.Pair.{separates, ends_table, before, first_model, second_model, model_of}
use Rattle.pairs.specs.Copied.{copy_fault, Copies}
use Rattle.pairs.proofs.Models.{first-length, second-length, place_inside}
use Rattle.pairs.proofs.Long.{no-separator, too_long, no-fault}

-- a refusal of copying is the pair's or that of a model that is too long; else there is none
module _ {candidate : ℕ} {ws out later : List ℕ} where
  pub refusal-is : {r : error.Refusal} → Copies candidate ws (Err r) out later →
      (refused (fault_number r.fault) r.place ≡ refused (copy_fault candidate ws).number (copy_fault candidate ws).place) × ((copy_fault candidate ws).number ≡ 0 → ⊥)
  refusal-is {r} k = (ap (λ (x : Refusal). refused x.number x.place) k.refusal, λ z. fault-number r.fault (ap (λ (x : Refusal). x.number) k.refusal ∙ z))

  pub no-refusal : {n : ℕ} → Copies candidate ws (Ok n) out later → (copy_fault candidate ws).number ≡ 0
  no-refusal k = ap (λ (x : Refusal). x.number) (sym k.refusal)

module _ (candidate : ℕ) (ws out : List ℕ) (d : ℕ) (e : d ≡ before separates ws) where
  pub without : d ≡ length ws → Copies candidate ws (Err (record { fault = f.WordsEnd; place = d })) out out
  without h = record { refusal = sym (no-separator candidate ws d e h); model = tt }

  module _ (some : d ≡ length ws → ⊥) where
    pub stands : before separates ws < length ws
    stands = omega (arith, place_inside ws)

    module _ (n : ℕ) (g : n ≡ length (model_of candidate ws)) where
      pub long : 8192 < n → Copies candidate ws (Err (record { fault = f.TooManyWords; place = 0 })) out out
      long l = record { refusal = sym (too_long candidate ws n stands g l); model = tt }

      pub copied : n ≤ 8192 → (later : List ℕ) → later ≡ overlay out 0 (model_of candidate ws) → Copies candidate ws (Ok n) out later
      copied l later h = record { refusal = sym (no-fault candidate ws n stands g l); model = record { count = g; fits = omega arith; laid = h } }

    -- the first candidate, and every other
    pub is-first : candidate ≡ 1 → model_of candidate ws ≡ first_model ws
    unfolding model_of
    is-first h = rw (eq-eqb candidate 1 h)

    pub is-second : (candidate ≡ 1 → ⊥) → model_of candidate ws ≡ second_model ws
    unfolding model_of
    is-second h = rw (ne_eqb candidate 1 h)

    pub first_count : candidate ≡ 1 → d + 1 ≡ length (model_of candidate ws)
    first_count h = rw (is-first h) (omega (arith, first-length ws))

    pub second-count : (candidate ≡ 1 → ⊥) → (t : ℕ) → t ≡ before ends_table ws → length ws - (d + 1) + t ≡ length (model_of candidate ws)
    second-count h t g = rw (is-second h) (omega (arith, second-length ws))
