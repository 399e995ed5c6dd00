-- Translate's walk over the constraints: writing the blocks that are left from here gives what writing them all gives.
use Rattle.std.proofs.Common.{◌≡◌, refl, ap, sym, ◌∙◌, subst, Bool, false, List, ◌∷◌, ◌++◌, ℕ, ◌+◌, ◌≤◌, arith, length, drop, length-append, drop_of_length-le}
use Rattle.integers.specs.declared.Bounds.{Bounds}
use Rattle.words.specs.Overlay.{overlay}
use Rattle.words.proofs.Overlay.{length-overlay, overlay-none, overlay-append}
use Rattle.models.specs.Model.{Constraint, constraints}
use Rattle.modelreading.specs.declared.Model.{Model}
use Rattle.rules.specs.Block.{block_words}
use Rattle.rules.specs.InRange.{outside}
use Rattle.rules.specs.Shared.{Encoded, none_yet, choice, encodes, encoded_after}
use Rattle.rules.specs.Translation.{block_of, each_block, blocks_words, all_blocks}
use Rattle.rules.specs.Check.{too_wide}
use Rattle.laying.specs.declared.Laid.{Laid}
use Rattle.integers.specs.Bounds.{bounds_in}
use Rattle.encodings.specs.Uses.{shared_by, Recorded}
use Rattle.encodings.proofs.Record.{none-many, recorded-none, recorded-after, length-after}
use Rattle.sharing.specs.SharedSolutions.{Passes}
use Rattle.sharing.proofs.Accepts.{Fine, passes-fine}
use Rattle.checking.specs.ModelBounds.{ModelBounds}
use Rattle.blocks.proofs.OneBlock.{Told}

-- the blocks of the first k constraints are written, up to place `at` of the output; the next auxiliary is `first`, and d is the record
pub record Writing (β : ℕ → Bounds) (s : ℕ → Bool) (v : ℕ) (cs : List Constraint) (o₀ : List ℕ) (start : ℕ) (o : List ℕ) (k first at : ℕ) (d : Encoded) : Type 0 where
  pub room : first ≤ 4096
  pub recorded : Recorded d
  pub many : length d ≡ 256
  pub fine : Fine β s first d (drop k cs)
  pub total : at + length (blocks_words β s first d (drop k cs)) ≡ start + length (blocks_words β s v none_yet cs)
  pub over : overlay o at (blocks_words β s first d (drop k cs)) ≡ overlay o₀ start (blocks_words β s v none_yet cs)
  pub same : length o ≡ length o₀

pub begun : (β : ℕ → Bounds) (s : ℕ → Bool) (v : ℕ) (cs : List Constraint) (o : List ℕ) (start : ℕ) → v ≤ 256 → Fine β s v none_yet cs → Writing β s v cs o start o 0 v start none_yet
begun β s v cs o start h f = record { room = omega arith; recorded = recorded-none; many = none-many; fine = f; total = refl; over = refl; same = refl }

module _ {β : ℕ → Bounds} {s : ℕ → Bool} {v : ℕ} {cs : List Constraint} {o₀ : List ℕ} {start : ℕ} {o : List ℕ} {k first at : ℕ} {d : Encoded} (l : Writing β s v cs o₀ start o k first at d) where
  module _ {c : Constraint} (e : drop k cs ≡ c ∷ drop (k + 1) cs) where
    here : Fine β s first d (c ∷ drop (k + 1) cs)
    here = subst (Fine β s first d) e l.fine

    pub not_wide : too_wide β s c ≡ false
    not_wide = here.0

    pub not-outside : outside (block_of β s d c) ≡ false
    not-outside = here.1

    pub more : {b : Laid} {o' : List ℕ} {d' : Encoded} → Told first (block_of β s d c) b → o' ≡ overlay o at (block_words first (block_of β s d c)) →
        d' ≡ encoded_after s first d (encodes (choice c)) → Writing β s v cs o₀ start o' (k + 1) (first + b.auxiliaries) (at + b.words) d'
    unfolding blocks_words each_block
    more {b} {o'} {d'} t q m =
        let B = block_of β s d c in
        let xs = encodes (choice c) in
        let left = blocks_words β s (first + length B.auxiliaries) (encoded_after s first d xs) (drop (k + 1) cs) in
        let f : blocks_words β s first d (drop k cs) ≡ block_words first B ++ left = ap (blocks_words β s first d) e in
        rw (t.words, t.auxiliaries, q, m)
        record {
          room = here.2;
          recorded = recorded-after s first d xs (omega (arith, l.room)) l.recorded;
          many = length-after s first d xs ∙ l.many;
          fine = here.3;
          total = omega (arith, l.total, ap length f, length-append (block_words first B) left);
          over = overlay-append o at (block_words first B) left ∙ rw (← f) l.over;
          same = length-overlay o at (block_words first B) ∙ l.same;
        }

  pub done : length cs ≤ k → (at ≡ start + length (blocks_words β s v none_yet cs)) × (o ≡ overlay o₀ start (blocks_words β s v none_yet cs))
  unfolding blocks_words each_block
  done h = let e = drop_of_length-le cs h in (omega (arith, rw e at l.total), sym (overlay-none o at) ∙ rw e at l.over)

-- ---- the whole

module _ {ws hs : List ℕ} {r : Model} {Ds : List Bounds} {uses : List ℕ} (m : ModelBounds ws hs r Ds uses) where
  pub blocks-are : blocks_words (bounds_in Ds) (shared_by uses) r.variables none_yet (constraints ws) ≡ all_blocks ws
  blocks-are = rw (m.same, m.shares, m.seen.variables_counted)

  pub all-fine : Passes ws → Fine (bounds_in Ds) (shared_by uses) r.variables none_yet (constraints ws)
  all-fine h = rw (m.same, m.shares, m.seen.variables_counted) (passes-fine ws h)
