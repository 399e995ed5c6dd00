-- One constraint: its fault by what its block counts, what it costs, and that its place plays no part in that.
use Rattle.std.proofs.Common.{◌≡◌, sym, ap, subst, ◌∙◌, Bool, true, false, ℕ, ◌+◌, ◌≤◌, ltb, Result, Ok, Err}
use mathlib.Core.Bool.{true≢false}
use Rattle.std.specs.Prelude.{MatchResult, IsErrAnd, is_ok}
use Rattle.integers.specs.Choice.{◌if◌else◌}
use Rattle.integers.specs.declared.Bounds.{Bounds}
use Rattle.words.specs.Fault as Fault
use Rattle.words.specs.Faults.{fault_number}
use Rattle.words.specs.declared.fault.Fault.{Fault}
use Rattle.words.specs.declared.fault.Fault.TheVariants as f
use Rattle.words.specs.Limit as Limit
use Rattle.models.specs.Model.{Constraint, builtin}
use Rattle.rules.specs.Shared.{Encoded, choice}
use Rattle.rules.specs.Translation.{block_of}
use Rattle.rules.specs.Check.{too_wide, block_fault_in}
use Rattle.rules.specs.InRange.{block_fault}
use Rattle.laying.specs.Appends.{some_outside}
use Rattle.laying.specs.declared.Laid.{Laid}
use Rattle.blocks.specs.Coded.{constraint_of}
use Rattle.blocks.proofs.OneBlock.{Told}
use Rattle.checking.specs.Walk.{Costs}
use Rattle.words.specs.declared.fault.Refusal.{Refusal}

fault-told : (β : ℕ → Bounds) (s : ℕ → Bool) (first : ℕ) (e : Encoded) (c : Constraint) {r : Laid} → too_wide β s c ≡ false → Told first (block_of β s e c) r →
    ◌≡◌ {A = ℕ} (Fault.number_outside if some_outside r else Fault.too_many_in_all if ltb Limit.in_all (first + r.auxiliaries) else Fault.none) (block_fault β s first e c)
unfolding block_fault_in
fault-told β s first e c t n = rw (t, n.outside-is, n.auxiliaries)

pub wide_costs : {β : ℕ → Bounds} {s : ℕ → Bool} {first : ℕ} {e : Encoded} {c : Constraint} → too_wide β s c ≡ true → Costs β s first e c (Err f.SetTooWide)
unfolding block_fault_in
wide_costs t = record { fault = rw t; counted = tt; small = tt }

module _ {β : ℕ → Bounds} {s : ℕ → Bool} {first : ℕ} {e : Encoded} {c : Constraint} {b : Laid} (t : too_wide β s c ≡ false) (n : Told first (block_of β s e c) b) where
  pub refused_costs : {x : Fault} →
      fault_number x ≡ (Fault.number_outside if some_outside b else Fault.too_many_in_all if ltb Limit.in_all (first + b.auxiliaries) else Fault.none) → Costs β s first e c (Err x)
  refused_costs q = record { fault = q ∙ fault-told β s first e c t n; counted = tt; small = tt }

  pub laid_costs : b.words + b.auxiliaries + b.rows ≤ 1000000 →
      Fault.none ≡ (Fault.number_outside if some_outside b else Fault.too_many_in_all if ltb Limit.in_all (first + b.auxiliaries) else Fault.none) →
      Costs β s first e c (Ok b)
  laid_costs l q = record {
    fault = q ∙ fault-told β s first e c t n;
    counted = record { auxiliaries = n.auxiliaries; rows = n.rows; words = n.words };
    small = l;
  }

-- the place of a constraint plays no part
pub placed_costs : (β : ℕ → Bounds) (s : ℕ → Bool) (c : Constraint) (first : ℕ) (e : Encoded) (r : Result Laid Fault) → Costs β s first e (constraint_of c.code c.arguments) r → Costs β s first e c r
unfolding block_fault_in too_wide block_of builtin choice
placed_costs β s c first e (Ok b) x = record {
  fault = x.fault;
  counted = record { auxiliaries = x.counted.auxiliaries; rows = x.counted.rows; words = x.counted.words };
  small = x.small;
}
placed_costs β s c first e (Err f) x = record { fault = x.fault; counted = tt; small = tt }

-- what a result has, or b
ok_of : Laid → Result Laid Refusal → Laid
ok_of b (Ok x) = x
ok_of b (Err y) = b

-- what a refusal at a place keeps of a constraint's fault, and what it keeps of the rest
module _ {β : ℕ → Bounds} {s : ℕ → Bool} {first : ℕ} {e : Encoded} {c : Constraint} (Q : Fault → Refusal → Type 0) where
  pub placed_fault : (place : ℕ) (r : Result Laid Fault) (m : Result Laid Refusal) → MatchResult r (λ x. m ≡ Ok x) (λ f. IsErrAnd m (Q f)) →
      ((f : Fault) (y : Refusal) → Q f y → y ≡ record { fault = f; place = place }) → Costs β s first e c r →
      {y : Refusal} → m ≡ Err y → Costs β s first e c (Err y.fault) × (y.place ≡ place)
  placed_fault place (Ok x) m q w z h = absurd (true≢false (sym (ap is_ok (rw h at q))))
  placed_fault place (Err f) m q w z h = let p = w f _ (rw h at q) in (rw p z, rw p)

  pub counted_cost : (r : Result Laid Fault) (m : Result Laid Refusal) → MatchResult r (λ x. m ≡ Ok x) (λ f. IsErrAnd m (Q f)) → Costs β s first e c r →
      {b : Laid} → m ≡ Ok b → Costs β s first e c (Ok b)
  unfolding ok_of
  counted_cost (Ok x) m q z h = subst (λ t. Costs β s first e c (Ok t)) (ap (ok_of x) (sym q ∙ h)) z
  counted_cost (Err f) m q z h = absurd (rw h at q)
