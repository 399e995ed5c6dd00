-- Every block of a model without a fault is well formed over what stands before it, 01's own blocks over the model's variables.
use Rattle.std.proofs.Common.{◌≡◌, refl, Bool, true, false, List, [], ◌∷◌, ℕ, ◌+◌, ◌≤◌, ◌<◌, arith, length}
use Rattle.integers.specs.Choice.{◌if◌else◌}
use Rattle.integers.specs.Bounds.{bit, bounds_in}
use Rattle.integers.specs.declared.Bounds.{Bounds}
use Rattle.integers.proofs.Lists.{all_implies}
use Rattle.integers.proofs.Tests.{All}
use Rattle.models.specs.Model.{Constraint, builtin}
use Rattle.models.proofs.Arguments.{integer_arguments, boolean_arguments}
use Rattle.rules.specs.Shared.{choice, shares, Encoded, shared_rule, rule_after}
use Rattle.rules.specs.Rule.{rule}
use Rattle.rules.specs.Check.{too_wide}
use Rattle.rules.specs.Translation.{block_of}
use Rattle.sharing.proofs.Formed.{Formed}
use Rattle.sharing.proofs.Codes.{laws, sized}
use Rattle.sharing.proofs.Assembly.{after, AllFormed}
use Rattle.sharing.proofs.Choices.{view}
use Rattle.sharing.proofs.ChoicesFormed.{Declared, declared-after, narrow, shared-formed}
use Rattle.sharing.proofs.Shared.{Typed}
use Rattle.sharing.proofs.Accepts.{Fine}

module _ (Vs : List Bounds) (s : ℕ → Bool) where
  declared-of : (c : Constraint) → Typed Vs c → All (λ v. v < length Vs) (boolean_arguments (builtin c))
  declared-of c t = all_implies (λ v. (v < length Vs) × (bounds_in Vs v ≡ bit)) (λ v. v < length Vs) (λ v h. h.0) (boolean_arguments (builtin c)) t.1

  plain-one : (c : Constraint) → Typed Vs c → too_wide (bounds_in Vs) s c ≡ false → Formed (length Vs) (rule (bounds_in Vs) (builtin c))
  plain-one c t w = (laws (bounds_in Vs) (builtin c)).formed (sized (bounds_in Vs) s c w) (length Vs) t.0 (declared-of c t)

  pub plain-all : (first : ℕ) (e : Encoded) (cs : List Constraint) → All (Typed Vs) cs → Fine (bounds_in Vs) s first e cs → All (λ c. Formed (length Vs) (rule (bounds_in Vs) (builtin c))) cs
  plain-all first e [] t f = tt
  plain-all first e (c ∷ cs) t f = (plain-one c t.0 f.0, plain-all (first + length (block_of (bounds_in Vs) s e c).auxiliaries) (after (bounds_in Vs) s first e c) cs t.1 f.3)

  -- 01's own block names only the model's variables, of which there are no more than what stands before
  one-formed : (first : ℕ) (e : Encoded) (c : Constraint) → length Vs ≤ first → Declared (bounds_in Vs) first e → Typed Vs c → too_wide (bounds_in Vs) s c ≡ false →
      Formed first (block_of (bounds_in Vs) s e c)
  unfolding block_of rule_after
  one-formed first e c l d t w = go (shares s (choice c)) refl
    where
      ints : All (λ v. v < first) (integer_arguments (builtin c))
      ints = all_implies (λ v. v < length Vs) (λ v. v < first) (λ v h. omega arith) (integer_arguments (builtin c)) t.0

      bools : All (λ v. v < first) (boolean_arguments (builtin c))
      bools = all_implies (λ v. v < length Vs) (λ v. v < first) (λ v h. omega arith) (boolean_arguments (builtin c)) (declared-of c t)

      go : (u : Bool) → shares s (choice c) ≡ u → Formed first (shared_rule (bounds_in Vs) e (choice c) if u else rule (bounds_in Vs) (builtin c))
      go true h = shared-formed first (bounds_in Vs) e s (view c) h d (narrow (bounds_in Vs) s c w h) ints bools
      go false h = (laws (bounds_in Vs) (builtin c)).formed (sized (bounds_in Vs) s c w) first ints bools

  shared-count : (e : Encoded) (c : Constraint) → shares s (choice c) ≡ true →
      length (block_of (bounds_in Vs) s e c).auxiliaries ≡ length (shared_rule (bounds_in Vs) e (choice c)).auxiliaries
  unfolding block_of rule_after
  shared-count e c h = rw h

  pub all-formed : (first : ℕ) (e : Encoded) (cs : List Constraint) → length Vs ≤ first → Declared (bounds_in Vs) first e → All (Typed Vs) cs → Fine (bounds_in Vs) s first e cs →
      AllFormed (bounds_in Vs) s first e cs
  all-formed first e [] l d t f = tt
  all-formed first e (c ∷ cs) l d t f =
      let m = length (block_of (bounds_in Vs) s e c).auxiliaries in (
        one-formed first e c l d t.0 f.0,
        all-formed (first + m) (after (bounds_in Vs) s first e c) cs (omega arith)
            (declared-after (bounds_in Vs) s first e (view c) m (shared-count e c) d) t.1 f.3,
      )
