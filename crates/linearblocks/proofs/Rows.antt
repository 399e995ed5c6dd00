-- A row laid as a head, terms and a constant; rows after those of a block; int_eq_reif as int_lin_eq_reif, int_ne_reif as int_lin_ne_reif.
use Rattle.std.proofs.Common.{◌≡◌, refl, sym, ◌∙◌, Bool, List, [], ◌∷◌, ◌++◌, append_assoc, append-nil, ℕ, ◌+◌, add-zero, ℤ, length}
use mathlib.Core.List.{flat_map}
use Rattle.integers.specs.Lists.{list_of}
use Rattle.integers.specs.Number.{◌⊕◌, neg, +0, +1, -1}
use Rattle.integers.specs.Terms.{Term, ◌·◌}
use Rattle.integers.specs.declared.Bounds.{Bounds}
use Rattle.integers.proofs.Lists.{flat_map_append}
use Rattle.words.specs.Kind as Kind
use Rattle.words.specs.Word.{payload, signed, word_at}
use Rattle.models.specs.Model.{var, num, size, past, terms, past_terms}
use Rattle.rowsystems.specs.Row.{Row}
use Rattle.rules.specs.Block.{Ref, aux, Block, numbered, block}
use Rattle.rules.specs.Rule.{only_negative, zero_reified}
use Rattle.linearsums.specs.Sum.{linear_sum, equal_sum}
use Rattle.laying.specs.Part.{Part, head, term, constant, bound_parts, term_parts, row_parts, block_parts}
use Rattle.laying.specs.Lists.{many, term_of, row_parts_of}
use Rattle.laying.specs.Writes.{Writes}
use Rattle.laying.specs.declared.Writer.{Writer}
use Rattle.laying.proofs.Written.{wrote-then}
use Rattle.laying.proofs.Lists.{terms-append}
use Rattle.linearblocks.specs.Rows.{terms_reified}

module _ (first : ℕ) where
  -- the parts of a row of terms, written one after the other
  pub row-wrote : {s a b r : Writer} {k n : ℕ} {ps : List Part} {c : ℤ} (ts : List (Term Ref)) → length ts ≡ n → term_parts first ts ≡ ps →
      Writes s a (head k n ∷ []) → Writes a b ps → Writes b r (constant c ∷ []) → Writes s r (head k (length ts) ∷ (term_parts first ts ++ (constant c ∷ [])))
  row-wrote ts e f u v w = rw (e, f) (wrote-then u (wrote-then v w))

  -- a block of one row; more rows after those of a block
  pub one-row : (q : Row Ref) → row_parts first q ≡ block_parts first (block [] (q ∷ []))
  unfolding block_parts bound_parts flat_map
  one-row q = sym (append-nil (row_parts first q))

  pub rows_then : {s a r : Writer} (B : Block) (rs : List (Row Ref)) →
      Writes s a (block_parts first B) → Writes a r (flat_map (row_parts first) rs) → Writes s r (block_parts first (block B.auxiliaries (B.rows ++ rs)))
  unfolding block_parts
  rows_then B rs v w = rw (flat_map_append (row_parts first) B.rows rs, ← append_assoc) (wrote-then v w)

  -- one term more
  pub last-term : (ts : List (Term Ref)) (t : Term Ref) {ps : List Part} → term_parts first ts ≡ ps →
      term_parts first (ts ++ (t ∷ [])) ≡ ps ++ (term t.coefficient (numbered first t.variable) ∷ [])
  unfolding term_parts
  last-term ts t e = terms-append first ts (t ∷ []) ∙ rw e

  -- the row of the sign bit
  pub sign-row : (u : ℤ) → row_parts_of Kind.at_most (term_of +1 first ∷ term_of (u ⊕ +1) (first + 1) ∷ []) (neg u) ≡ flat_map (row_parts first) (only_negative (aux 0) (aux 1) u ∷ [])
  unfolding only_negative flat_map row_parts term_parts numbered row_parts_of many
  sign-row u = rw (add-zero first)

-- the words that `two_reif` lends for its three variables
pub two-terms : (β : ℕ → Bounds) (equal : Bool) (a b r : ℕ) →
    terms_reified β equal (2 ∷ 1 ∷ 268435455 ∷ a ∷ b ∷ 0 ∷ r ∷ []) ≡ zero_reified β equal (+1 · payload a ∷ -1 · payload b ∷ []) +0 (payload r)
unfolding terms num var size past past_terms payload signed word_at list_of
two-terms β equal a b r = refl

pub two-sum : (β : ℕ → Bounds) (args : List ℕ) (r : ℕ) → equal_sum β args ≡ linear_sum β (2 ∷ 1 ∷ 268435455 ∷ word_at args 0 ∷ word_at args 1 ∷ 0 ∷ r ∷ [])
unfolding equal_sum linear_sum terms num var size past past_terms payload signed word_at list_of
two-sum β args r = refl
