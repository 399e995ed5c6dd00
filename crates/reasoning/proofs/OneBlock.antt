-- The words of one block and an end word are read, by judge-rows' own reader, as the block's auxiliaries and then its rows: so that one block can be
-- judged by itself.
use Rattle.std.proofs.Common.{◌≡◌, sym, ap, ◌∙◌, Bool, false, List, [], ◌∷◌, ◌++◌, map, append-nil, append_assoc, ℕ, ◌+◌, ◌*◌, ◌≤◌, arith, add-zero, length, length-append, drop}
use mathlib.Core.List.{flat_map}
use lib.Seq.{drop-append_seam}
use Rattle.integers.specs.declared.Bounds.{Bounds}
use Rattle.integers.proofs.Lists.{all_implies}
use Rattle.words.specs.Word.{word}
use Rattle.words.specs.Kind as Kind
use Rattle.words.specs.Limit as Limit
use Rattle.words.specs.Variables.{variables}
use Rattle.models.specs.Model.{Constraint}
use Rattle.rowsystems.specs.Row.{rename}
use Rattle.rowsystems.specs.RowWords.{bound_words, row_words, bound_numbers, row_numbers}
use Rattle.rowsystems.specs.RowSystem.{rows}
use Rattle.rowsystems.proofs.ReadBack.{Items, Ranged, Declared, end, block}
use Rattle.rowreading.specs.Onward.{onward}
use Rattle.rules.specs.Block.{Block, block_words, block_numbers, numbered}
use Rattle.rules.specs.InRange.{outside}
use Rattle.rules.specs.Shared.{Encoded}
use Rattle.rules.specs.Translation.{block_of}
use Rattle.rules.specs.Check.{too_wide}
use Rattle.sharing.proofs.Formed.{RowIn, Formed}
use Rattle.sharing.proofs.ChoicesSizes.{block-short}
use Rattle.sharing.proofs.Written.{declared, ranged-block_numbers}
use Rattle.reasoning.specs.Walks.{block_and_end, rows_at, ReadsBack}

bounds-length : (As : List Bounds) → length (flat_map bound_words As) ≡ 2 * length As
unfolding flat_map bound_words
bounds-length [] = omega arith
bounds-length (A ∷ As) = omega (arith, bounds-length As)

ranged-rows : (As : List Bounds) {X : Type 0} (qs : List (Rattle.rowsystems.specs.Row.Row X)) → Ranged (flat_map bound_numbers As ++ flat_map row_numbers qs) → Ranged (flat_map row_numbers qs)
unfolding flat_map bound_numbers
ranged-rows [] qs h = h
ranged-rows (A ∷ As) qs h = ranged-rows As qs h.1.1

module _ (first : ℕ) (B : Block) (few : first + length B.auxiliaries ≤ Limit.in_all) (fits : outside B ≡ false) (formed : Formed first B) where
  abbrev m : ℕ
  m = length B.auxiliaries

  abbrev E : List ℕ
  E = word Kind.rows_end 0 ∷ []

  abbrev rest : List ℕ
  rest = flat_map (λ r. row_words (rename (numbered first) r)) B.rows ++ E

  ranged : Ranged (flat_map bound_numbers B.auxiliaries ++ flat_map row_numbers B.rows)
  unfolding block_numbers
  ranged = ranged-block_numbers B fits

  rows-declared : Rattle.integers.proofs.Tests.All (Declared (numbered first) (first + m)) B.rows
  rows-declared = all_implies (RowIn first m) (Declared (numbered first) (first + m)) (declared first first (omega arith) m) B.rows formed.1

  whole : Items first (block_and_end first B) (B.auxiliaries ++ []) (map (rename (numbered first)) B.rows ++ [])
  unfolding block_words
  whole = block (numbered first) B.auxiliaries B.rows few ranged formed.0 rows-declared (end (first + m))

  after-bounds : Items (first + m) rest [] (map (rename (numbered first)) B.rows ++ [])
  unfolding flat_map
  after-bounds =
      block (numbered first) [] B.rows (omega (arith, few)) (ranged-rows B.auxiliaries B.rows ranged) tt
      (all_implies (Declared (numbered first) (first + m)) (Declared (numbered first) (first + m + 0)) (λ r h. rw add-zero h) B.rows rows-declared) (end (first + m + 0))

  dropped : drop (2 * m) (block_and_end first B) ≡ rest
  unfolding block_words
  dropped =
      let W = flat_map bound_words B.auxiliaries in
      let R = flat_map (λ r. row_words (rename (numbered first) r)) B.rows in
      ap (λ (l : List ℕ). drop (2 * m) l) (append_assoc W R E)
      ∙ ap (λ (k : ℕ). drop k (W ++ (R ++ E))) (sym (bounds-length B.auxiliaries))
      ∙ drop-append_seam W (R ++ E)

  room : 2 * length B.auxiliaries ≤ length (block_words first B)
  unfolding block_words
  room = omega (arith, bounds-length B.auxiliaries, length-append (flat_map bound_words B.auxiliaries) (flat_map (λ r. row_words (rename (numbered first) r)) B.rows))

  read : length (block_words first B) ≤ 2800 → ReadsBack first B
  unfolding onward
  read short = record {
    few = short;
    fits = fits;
    the_bounds = whole.1.the_bounds ∙ append-nil B.auxiliaries;
    bounds_first = room;
    no_more = ap variables dropped ∙ after-bounds.1.the_bounds;
    the_rows = ap rows dropped ∙ after-bounds.1.the_rows ∙ append-nil (rows_at first B);
    accepts = rw dropped (after-bounds.1.accepts (2 * m));
  }

pub reads : (β : ℕ → Bounds) (s : ℕ → Bool) (first : ℕ) (e : Encoded) (c : Constraint) → too_wide β s c ≡ false → outside (block_of β s e c) ≡ false →
    first + length (block_of β s e c).auxiliaries ≤ Limit.in_all → Formed first (block_of β s e c) → ReadsBack first (block_of β s e c)
reads β s first e c narrow fits few formed = read first (block_of β s e c) few fits formed (block-short first β s e c narrow)
