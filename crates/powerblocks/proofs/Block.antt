-- What is written of int_pow counts as the parts of its block and is them where they fit.
use Rattle.std.proofs.Common.{◌≡◌, refl, sym, ap, ◌∙◌, [], ◌∷◌, ◌++◌, ℕ, zero, suc, ◌≤◌, arith}
use mathlib.Core.List.{flat_map}
use Rattle.integers.specs.Number.{+0, +1, -1}
use Rattle.integers.specs.declared.Bounds.{Bounds}
use Rattle.integers.proofs.Lists.{flat_map_append}
use Rattle.words.specs.Kind as Kind
use Rattle.words.specs.Small.{Near}
use Rattle.rules.specs.Block.{Ref, source, numbered}
use Rattle.rules.specs.Parts.{◌─◌=0}
use Rattle.rules.specs.Power.{chain}
use Rattle.rules.specs.Rule.{powered}
use Rattle.laying.specs.Part.{bound_parts, term_parts, row_parts, block_parts}
use Rattle.laying.specs.Lists.{many, term_of, row_parts_of}
use Rattle.laying.proofs.Alike.{Alike, alike_then}
use Rattle.powerblocks.specs.Cut.{cut_ranges}
use Rattle.powerblocks.proofs.CutBounds.{near_not_cut, cut_ranges-auxiliaries, alike-bounds}

module _ (first : ℕ) (β : ℕ → Bounds) (x : ℕ) where
  -- k=0
  pub none-parts : (z : ℕ) → row_parts_of Kind.equal (term_of +1 z ∷ []) -1 ≡ block_parts first (powered β x 0 z)
  unfolding row_parts_of many block_parts bound_parts powered flat_map row_parts term_parts numbered
  none-parts z = refl

  last_row : (r : Ref) (z : ℕ) → row_parts_of Kind.equal (term_of +1 (numbered first r) ∷ term_of -1 z ∷ []) +0 ≡ flat_map (row_parts first) ((r ─ source z =0) ∷ [])
  unfolding row_parts_of many ◌─◌=0 flat_map row_parts term_parts numbered
  last_row r z = refl

  -- the parts of the block: those of the bounds, of the products, of the last row
  block-parts : (k z : ℕ) → let c = chain (β x) x (suc k) in
      block_parts first (powered β x (suc k) z)
      ≡ bound_parts c.auxiliaries ++ (flat_map (row_parts first) c.products ++ row_parts_of Kind.equal (term_of +1 (numbered first c.result) ∷ term_of -1 z ∷ []) +0)
  unfolding block_parts powered
  block-parts k z =
      let c = chain (β x) x (suc k) in
      ap (λ l. bound_parts c.auxiliaries ++ l)
      (flat_map_append (row_parts first) c.products ((c.result ─ source z =0) ∷ []) ∙ ap (λ l. flat_map (row_parts first) c.products ++ l) (sym (last_row c.result z)))

  -- with the bounds cut
  pub power-alike : (k z held : ℕ) → 1 ≤ k → Near (β x).lower → Near (β x).upper → let c = chain (β x) x k in held ≡ numbered first c.result →
      Alike (block_parts first (powered β x k z))
      (bound_parts (cut_ranges (β x) k).auxiliaries ++ (flat_map (row_parts first) c.products ++ row_parts_of Kind.equal (term_of +1 held ∷ term_of -1 z ∷ []) +0))
  power-alike zero z held l h i e = absurd (omega arith)
  power-alike (suc k) z held l h i e =
      let c = chain (β x) x (suc k) in
      let rest = flat_map (row_parts first) c.products ++ row_parts_of Kind.equal (term_of +1 (numbered first c.result) ∷ term_of -1 z ∷ []) +0 in
      rw (e, block-parts k z, cut_ranges-auxiliaries (β x) x (near_not_cut (β x) h i) (suc k) l) (alike_then (alike-bounds c.auxiliaries) rest)
