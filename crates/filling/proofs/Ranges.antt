-- What fill writes of a model that passes the check, where the values satisfy it: numbers in the range, at places that do not wrap.
use Rattle.std.proofs.Common.{◌≡◌, List, ◌++◌, ℕ, ◌+◌, ◌<◌, arith, ℤ, length}
use Rattle.integers.specs.Bounds.{bounds_in}
use Rattle.integers.specs.declared.Bounds.{Bounds}
use Rattle.integers.specs.Terms.{value}
use Rattle.words.proofs.ReadBack.{range-near}
use Rattle.words.specs.Overlay.{overlay}
use Rattle.words.specs.Small.{Small}
use Rattle.models.specs.Model.{Constraint, builtin}
use Rattle.rules.specs.Shared.{Encoded, choice}
use Rattle.rules.specs.Translation.{block_of, picks}
use Rattle.sharing.specs.SharedSolutions.{Passes, SatisfiesModel}
use Rattle.sharing.proofs.Theorem.{few_in_all, fill-counts}
use Rattle.sharing.proofs.Assembly.{picked}
use Rattle.sharing.proofs.Ranges.{fill_in_range}
use Rattle.encodings.specs.Uses.{choice_of, shared_by}
use Rattle.picking.specs.Output.{Ranged}
use Rattle.picking.specs.Picked.{picks_after}
use Rattle.picking.proofs.Picks.{values-then}
use Rattle.picking.proofs.Writing.{value-ranged, ranged-left, ranged-right}

module _ (ws : List ℕ) (passes : Passes ws) (vs : List ℤ) (s : SatisfiesModel ws vs) where
  all-ranged : Ranged (vs ++ picks ws vs)
  all-ranged = value-ranged _ (fill_in_range ws passes vs s)

  pub values-small : Small vs
  values-small x = range-near _ (ranged-left vs (picks ws vs) all-ranged x)

  pub picks-ranged : Ranged (picks ws vs)
  picks-ranged = ranged-right vs (picks ws vs) all-ranged

  pub picks-fit : length vs + length (picks ws vs) < 1099511627776
  picks-fit = omega (arith, s.one_each, fill-counts ws passes vs, few_in_all ws passes)

-- a block's picks are as many as its auxiliaries
pub block-picks : (Ds : List Bounds) (uses : List ℕ) (e : Encoded) (vs : List ℤ) (c : Constraint) →
    length (picks_after Ds uses e vs c.code c.arguments) ≡ length (block_of (bounds_in Ds) (shared_by uses) e c).auxiliaries
unfolding block_of builtin choice_of choice
block-picks Ds uses e vs c = picked (bounds_in Ds) (shared_by uses) e (value vs) (choice c) (builtin c)

-- the picks go after the values
pub after_values : (out vs ps : List ℤ) → overlay (overlay out 0 vs) (length vs) ps ≡ overlay out 0 (vs ++ ps)
after_values = values-then
