-- What fill picks for all constraints, as a loop over them writes it: the state `Filling`, and its laws `begun`, `picked`, `ended`.
use Rattle.integers.specs.declared.Bounds.{Bounds}
use Rattle.std.proofs.Common.{◌≡◌, refl, sym, ap₂, ◌∙◌, List, ◌∷◌, ◌++◌, ℕ, ◌+◌, ◌≤◌, zero-add, arith, ℤ, length, drop, length-append, drop_of_length-le}
use Rattle.integers.specs.Terms.{value}
use Rattle.words.specs.LaidAt.{LaidAt}
use Rattle.words.specs.Overlay.{overlay}
use Rattle.words.proofs.Overlay.{overlay-append}
use Rattle.words.specs.Variables.{variables}
use Rattle.models.specs.Model.{Constraint, constraints, builtin}
use Rattle.rules.specs.Block.{Block}
use Rattle.rules.specs.Shared.{Encoded, none_yet, choice, encodes, encoded_after, pick_after}
use Rattle.rules.specs.Translation.{bounds, shared, block_of, each_block, picks}
use Rattle.encodings.specs.Uses.{choice_of, shared_by}
use Rattle.encodings.proofs.Record.{none-many, length-after}
use Rattle.integers.specs.Bounds.{bounds_in}
use Rattle.picking.specs.Output.{Ranged}
use Rattle.picking.specs.Picked.{picks_after}
use Rattle.picking.proofs.Writing.{ranged-left, ranged-right}

-- for constraints, one after another, the first auxiliary numbered `first`
unfoldable pub picks_from : List Bounds → List ℕ → List ℤ → ℕ → Encoded → List Constraint → List ℤ
picks_from Ds uses vs first e cs =
    each_block (bounds_in Ds) (shared_by uses) (λ n d c. pick_after (bounds_in Ds) (shared_by uses) d (value vs) (choice c) (builtin c)) first e cs

-- of a model, where the lists hold the bounds of the variables and their uses
pub picks-from : (Ds : List Bounds) (uses : List ℕ) (vs : List ℤ) (ws : List ℕ) → bounds_in Ds ≡ bounds ws → shared_by uses ≡ shared ws →
    picks ws vs ≡ picks_from Ds uses vs (length (variables ws)) none_yet (constraints ws)
unfolding picks_from picks
picks-from Ds uses vs ws e f =
    ap₂ (λ β s. each_block β s (λ n d c. pick_after β s d (value vs) (choice c) (builtin c)) (length (variables ws)) none_yet (constraints ws)) (sym e) (sym f)

-- ---- the loop: the first k constraints are done, `at` is the place of the next pick, which is the number of the next auxiliary, and d is the record; the
-- picks of all go over out₀ from `start` on
pub record Filling (Ds : List Bounds) (uses : List ℕ) (vs : List ℤ) (cs : List Constraint) (start : ℕ) (out₀ out : List ℤ) (k at : ℕ) (d : Encoded) : Type 0 where
  pub many : at + length (picks_from Ds uses vs at d (drop k cs)) ≡ start + length (picks_from Ds uses vs start none_yet cs)
  pub over : overlay out at (picks_from Ds uses vs at d (drop k cs)) ≡ overlay out₀ start (picks_from Ds uses vs start none_yet cs)
  pub ranged : Ranged (picks_from Ds uses vs at d (drop k cs))
  pub length-is : length d ≡ 256

pub begun : (Ds : List Bounds) (uses : List ℕ) (vs : List ℤ) (cs : List Constraint) (start : ℕ) (out : List ℤ) → Ranged (picks_from Ds uses vs start none_yet cs) →
    Filling Ds uses vs cs start out out 0 start none_yet
begun Ds uses vs cs start out h = record { many = refl; over = refl; ranged = h; length-is = none-many }

module _ {Ds : List Bounds} {uses : List ℕ} {vs : List ℤ} {cs : List Constraint} {start : ℕ} {out₀ out : List ℤ} {k at : ℕ} {d : Encoded} (f : Filling Ds uses vs cs start out₀ out k at d) where
  -- a constraint: what its picks owe, and the state after them
  module _ {c : Constraint} (e : drop k cs ≡ c ∷ drop (k + 1) cs) where
    abbrev here : List ℤ
    here = picks_after Ds uses d vs c.code c.arguments

    abbrev next : Encoded
    next = encoded_after (shared_by uses) at d (encodes (choice c))

    abbrev block : Block
    block = block_of (bounds_in Ds) (shared_by uses) d c

    -- as many as the block has auxiliaries
    module _ (filled : length here ≡ length block.auxiliaries) where
      abbrev rest : List ℤ
      rest = picks_from Ds uses vs (at + length here) next (drop (k + 1) cs)

      split : picks_from Ds uses vs at d (drop k cs) ≡ here ++ rest
      unfolding picks_from each_block builtin choice_of choice
      split = rw (e, filled) refl

      pub here-ranged : Ranged here
      here-ranged = ranged-left here rest (rw split at f.ranged)

      pub picked : {r : ℕ} {out' : List ℤ} {d' : Encoded} → LaidAt out at here out' r → d' ≡ next → Filling Ds uses vs cs start out₀ out' (k + 1) r d'
      picked w g =
          rw (g, w.ends)
          record {
            many = omega (arith, length-append here rest, rw split at f.many);
            over = rw w.over (overlay-append out at here rest ∙ rw split at f.over);
            ranged = ranged-right here rest (rw split at f.ranged);
            length-is = length-after (shared_by uses) at d (encodes (choice c)) ∙ f.length-is;
          }

  -- the place of the next pick is not past the last one
  pub place-le : at ≤ start + length (picks_from Ds uses vs start none_yet cs)
  place-le = omega (arith, f.many)

  -- no constraint is left
  pub ended : length cs ≤ k → out ≡ overlay out₀ start (picks_from Ds uses vs start none_yet cs)
  unfolding overlay picks_from each_block
  ended l = rw (drop_of_length-le cs l) at f.over

  pub all_picked : length cs ≤ k → LaidAt out₀ start (picks_from Ds uses vs start none_yet cs) out at
  unfolding picks_from each_block
  all_picked l = record { over = ended l; ends = omega (arith, rw (drop_of_length-le cs l) at f.many) }

-- the values in front of the picks
pub values-then : (out vs ps : List ℤ) → overlay (overlay out 0 vs) (length vs) ps ≡ overlay out 0 (vs ++ ps)
values-then out vs ps = rw (zero-add (length vs)) at (overlay-append out 0 vs ps)
