-- What the calls after check have of a model that was read without a fault: what the reading kept, the bounds of the variables, which of them are
-- shared; and L and U of the constraints.
use Rattle.std.specs.Prelude.{◌≡◌, List, ℕ, replicate}
use Rattle.integers.specs.Number.{+0}
use Rattle.integers.specs.Bounds.{◌to◌, bounds_in}
use Rattle.integers.specs.declared.Bounds.{Bounds}
use Rattle.words.specs.Limit as Limit
use Rattle.modelreading.specs.Seen.{Seen, Kept, model_read}
use Rattle.modelreading.specs.declared.Model.{Model}
use Rattle.rules.specs.Translation.{bounds, shared}
use Rattle.linearsums.specs.Places.{sums_up_to, SumsKept}
use Rattle.encodings.specs.Uses.{shared_by}

-- lists for the bounds of the variables, and for L and U of the constraints
abbrev pub no_bounds : List Bounds
no_bounds = replicate Limit.variables (+0 to +0)

abbrev pub no_ends : List Bounds
no_ends = replicate Limit.constraints (+0 to +0)

pub record ModelBounds (ws hs : List ℕ) (m : Model) (Ds : List Bounds) (uses : List ℕ) : Type 0 where
  pub kept : Kept ws hs (model_read m)
  pub seen : Seen ws hs (model_read m)
  pub same : bounds_in Ds ≡ bounds ws
  pub shares : shared_by uses ≡ shared ws

-- L and U of each constraint
abbrev pub ModelSums : List ℕ → List ℕ → Model → List Bounds → List Bounds → Type 0
ModelSums ws hs m Ds sums = SumsKept sums m.constraints (sums_up_to ws hs (bounds_in Ds) m.constraints)
