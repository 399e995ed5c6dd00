-- The words that translate writes for a model that passes the check are read back, by judge-rows' own reader, as the model's variables, all
-- auxiliaries and all rows.
use Rattle.std.proofs.Common.{◌≡◌, Bool, true, false, List, [], ◌∷◌, ◌++◌, append_assoc, ℕ, ◌+◌, ◌≤◌, ◌<◌, arith, length}
use borrow.Author.Tests.{not-false}
use Rattle.integers.specs.Terms.{Term}
use Rattle.integers.specs.declared.Bounds.{Bounds}
use Rattle.integers.proofs.Lists.{all_implies}
use Rattle.integers.proofs.Tests.{says_all, All}
use Rattle.words.specs.Word.{word, in_range}
use Rattle.words.specs.Kind as Kind
use Rattle.models.specs.Model.{Constraint}
use Rattle.rowsystems.specs.Row.{Row, sum≤0, sum=0, product}
use Rattle.rowsystems.proofs.ReadBack.{Items, Declared, Ranged, end, block}
use Rattle.rules.specs.Block.{Ref, source, aux, Block, numbered, block_words, block_numbers, outside_in}
use Rattle.rules.specs.InRange.{outside}
use Rattle.rules.specs.Shared.{choice, encodes, Encoded, encoded_after}
use Rattle.rules.specs.Translation.{block_of, each_block, blocks_words}
use Rattle.sharing.proofs.Formed.{RefIn, RowIn}
use Rattle.sharing.proofs.Assembly.{auxiliaries_from, rows_from, AllFormed}
use Rattle.sharing.proofs.Accepts.{Fine}

-- ---- a well-formed row names only variables that are declared

module _ (n first : ℕ) (later : n ≤ first) where
  ref_below : (m : ℕ) (r : Ref) → RefIn n m r → numbered first r < first + m
  unfolding numbered
  ref_below m (source v) h = omega arith
  ref_below m (aux k) h = omega arith

  terms-below : (m : ℕ) (ts : List (Term Ref)) → All (λ t. RefIn n m t.variable) ts → All (λ t. numbered first t.variable < first + m) ts
  terms-below m ts h = all_implies (λ t. RefIn n m t.variable) (λ t. numbered first t.variable < first + m) (λ t. ref_below m t.variable) ts h

  pub declared : (m : ℕ) (r : Row Ref) → RowIn n m r → Declared (numbered first) (first + m) r
  unfolding numbered
  declared m (sum≤0 ts c) h = (h.0, terms-below m ts h.1)
  declared m (sum=0 ts c) h = (h.0, terms-below m ts h.1)
  declared m (product (source v) f g) h = absurd h
  declared m (product (aux k) f g) h = (omega (arith, h.0), ref_below k f h.1, ref_below k g h.2)

-- ---- block after block

pub ranged-block_numbers : (B : Block) → outside B ≡ false → Ranged (block_numbers B)
unfolding outside_in
ranged-block_numbers B h = (says_all in_range (λ z. in_range z ≡ true) (λ z. (λ e. e, λ e. e)) (block_numbers B)).0 (not-false _ h)

pub items : (β : ℕ → Bounds) (s : ℕ → Bool) (first : ℕ) (e : Encoded) (cs : List Constraint) → AllFormed β s first e cs → Fine β s first e cs →
    Items first (blocks_words β s first e cs ++ (word Kind.rows_end 0 ∷ [])) (auxiliaries_from β s first e cs) (rows_from β s first e cs)
unfolding blocks_words each_block block_words block_numbers
items β s first e [] h f = end first
items β s first e (c ∷ cs) h f =
    let B = block_of β s e c in
    rw append_assoc
    (block (numbered first) B.auxiliaries B.rows f.2 (ranged-block_numbers B f.1) h.0.0
    (all_implies (RowIn first (length B.auxiliaries)) (Declared (numbered first) (first + length B.auxiliaries)) (declared first first (omega arith) (length B.auxiliaries)) B.rows h.0.1)
    (items β s (first + length B.auxiliaries) (encoded_after s first e (encodes (choice c))) cs h.1 f.3))
