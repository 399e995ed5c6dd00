-- 02, wish 2: "Models without the lowest number in words or rows translate as before". In two ranges check, translate and fill answer and write
-- alike where the model's words and the numbers of its blocks are in both or in none; so it is for 01's range and 02's where neither holds the
-- lowest number, or the words of the model and of its row system do not, and where check accepts.
use Rattle.std.proofs.Common.{◌≡◌, refl, sym, ap, ◌∙◌, ◌≢◌, Bool, true, false, List, [], ◌∷◌, ◌++◌, map, ℕ, ◌+◌, arith, ℤ, pos, negsuc, length, ne_eqb}
use mathlib.Core.List.{flat_map}
use borrow.Author.Tests.{not-false}
use Rattle.integers.specs.Lists.{all}
use Rattle.integers.specs.Bounds.{within}
use Rattle.integers.specs.Terms.{Term}
use Rattle.integers.specs.declared.Bounds.{Bounds}
use Rattle.integers.proofs.Linear.{◌⊑◌, arith_z}
use Rattle.integers.proofs.Lists.{all_implies, all_append}
use Rattle.integers.proofs.Tests.{All, says-within, says_all, same_test}
use Rattle.words.specs.Word.{kind, payload, in_range, complement, number_word}
use Rattle.words.specs.Kind as Kind
use Rattle.words.specs.Limit as Limit
use Rattle.words.specs.Variables.{variables}
use Rattle.words.specs.Refusal.{accepted}
use Rattle.words.proofs.ReadBack.{before, never_too_low, kind-number, payload-word}
use Rattle.words.proofs.Range.{is_signed, NumberIn, lowest-alone, in_range_low}
use Rattle.models.specs.Model.{Constraint, constraints, source_words}
use Rattle.models.proofs.Numbers.{Alike, reads-alike, all-number_in}
use Rattle.rowsystems.specs.Row.{Row, sum≤0, sum=0, product, rename_terms, rename}
use Rattle.rowsystems.specs.RowWords.{bound_words, term_words, sum_words, row_words, bound_numbers, row_numbers}
use Rattle.rules.specs.Block.{Block, numbered, block_words, block_numbers, outside_in}
use Rattle.rules.specs.InRange.{outside}
use Rattle.rules.specs.Shared.{Encoded, none_yet}
use Rattle.rules.specs.Translation.{bounds, shared, block_of, each_block, blocks_words, of_blocks, system_words}
use Rattle.rules.specs.Check.{block_fault_in, blocks_fault_in, check_fault_in, check_in}
use Rattle.rules.specs.Translate.{translate_fault_in, translate_in, translated_in}
use Rattle.rules.specs.Fill.{fill_fault_in, fill_in, filled_in}
use Rattle.sharing.specs.SharedSolutions.{Passes}
use Rattle.sharing.proofs.Assembly.{after}
use Rattle.sharing.proofs.Accepts.{Fine, passes-read, passes-fine}

-- ---- two ranges

module _ (r r' : Bounds) where
  -- the answers of check, translate and fill, and what the lent lists hold afterwards
  pub record SameAnswers (ws : List ℕ) : Type 0 where
    pub faults : check_fault_in r ws ≡ check_fault_in r' ws
    pub check : check_in r ws ≡ check_in r' ws
    pub translate : (room : ℕ) → translate_in r ws room ≡ translate_in r' ws room
    pub translated : (out : List ℕ) → translated_in r ws out ≡ translated_in r' ws out
    pub fill : (vs : List ℤ) (room : ℕ) → fill_in r ws vs room ≡ fill_in r' ws vs room
    pub filled : (vs out : List ℤ) → filled_in r ws vs out ≡ filled_in r' ws vs out

  module _ (β : ℕ → Bounds) (s : ℕ → Bool) where
    -- 13 says the same of every block
    abbrev BlocksAlike : ℕ → Encoded → List Constraint → Type 0
    BlocksAlike first e [] = Unit {0}
    BlocksAlike first e (c ∷ cs) =
        (outside_in r (block_of β s e c) ≡ outside_in r' (block_of β s e c))
        × BlocksAlike (first + length (block_of β s e c).auxiliaries) (after β s first e c) cs

    blocks-alike : (first : ℕ) (e : Encoded) (cs : List Constraint) → BlocksAlike first e cs → blocks_fault_in r β s first e cs ≡ blocks_fault_in r' β s first e cs
    unfolding blocks_fault_in block_fault_in
    blocks-alike first e [] h = refl
    blocks-alike first e (c ∷ cs) h = rw (h.0, blocks-alike (first + length (block_of β s e c).auxiliaries) (after β s first e c) cs h.1) refl

  alike : (ws : List ℕ) → All (Alike r r') ws → BlocksAlike (bounds ws) (shared ws) (length (variables ws)) none_yet (constraints ws) → SameAnswers ws
  unfolding check_fault_in check_in translate_fault_in translate_in translated_in fill_fault_in fill_in filled_in
  alike ws words blocks =
      let reads = reads-alike r r' ws words in
      let faults = blocks-alike (bounds ws) (shared ws) (length (variables ws)) none_yet (constraints ws) blocks in
      record {
        faults = rw (reads, faults) refl;
        check = rw (reads, faults) refl;
        translate = λ room. rw (reads, faults) refl;
        translated = λ out. rw (reads, faults) refl;
        fill = λ vs room. rw (reads, faults) refl;
        filled = λ vs out. rw (reads, faults) refl;
      }

-- ---- 01's range and 02's

-- the number of a word is not the lowest 28-bit one, if it has one
abbrev pub NotLowest : ℕ → Type 0
NotLowest w = is_signed (kind w) ≡ true → payload w ≢ Limit.half

-- none of the model's words holds it, and none of the rows and auxiliary bounds that the rules lay down
pub record WithoutLowest (ws : List ℕ) : Type 0 where
  pub words : All NotLowest ws
  pub rows : All (λ z. z ≢ before.lower) (of_blocks ws (λ first e c. block_numbers (block_of (bounds ws) (shared ws) e c)))

word-alike : (w : ℕ) → NotLowest w → Alike before Limit.range w
word-alike w h s = never_too_low w ∙ sym (lowest-alone w ∙ ne_eqb _ _ (h s))

above-lowest : (z : ℤ) → before.lower ⊑ z → z ≢ before.lower → Limit.lowest ⊑ z
above-lowest (pos n) h l = omega arith_z
above-lowest (negsuc n) h l = let k : n ≢ 134217727 = λ e. l (ap negsuc e) in omega (arith_z, h, k)

number-alike : (z : ℤ) → z ≢ before.lower → within before z ≡ within Limit.range z
number-alike z n = same_test (says-within before z) (says-within Limit.range z) (λ h. (above-lowest z h.0 n, h.1), λ h. (omega (arith_z, h.0), h.1))

numbers-alike : (zs : List ℤ) → All (λ z. z ≢ before.lower) zs → all (within before) zs ≡ all (within Limit.range) zs
unfolding all
numbers-alike [] h = refl
numbers-alike (z ∷ zs) h = rw (number-alike z h.0, numbers-alike zs h.1) refl

numbers-blocks : (β : ℕ → Bounds) (s : ℕ → Bool) (first : ℕ) (e : Encoded) (cs : List Constraint) →
    All (λ z. z ≢ before.lower) (each_block β s (λ first e c. block_numbers (block_of β s e c)) first e cs) → BlocksAlike before Limit.range β s first e cs
unfolding each_block outside_in
numbers-blocks β s first e [] h = tt
numbers-blocks β s first e (c ∷ cs) h =
    let k = (all_append (λ z. z ≢ before.lower) (block_numbers (block_of β s e c)) _).0 h in
    (rw (numbers-alike (block_numbers (block_of β s e c)) k.0) refl, numbers-blocks β s (first + length (block_of β s e c).auxiliaries) (after β s first e c) cs k.1)

pub as_before : (ws : List ℕ) → WithoutLowest ws → SameAnswers before Limit.range ws
as_before ws h =
    alike before Limit.range ws
    (all_implies NotLowest (Alike before Limit.range) word-alike ws h.words)
    (numbers-blocks (bounds ws) (shared ws) (length (variables ws)) none_yet (constraints ws) h.rows)

-- ---- the same of the words that the rules lay down

abbrev Other : ℤ → Type 0
Other z = z ≢ before.lower

flat : {A B C : Type 0} (P : B → Type 0) (Q : C → Type 0) (f : A → List B) (g : A → List C) → ((x : A) → All P (f x) → All Q (g x)) → (xs : List A) → All P (flat_map f xs) → All Q (flat_map g xs)
unfolding flat_map
flat P Q f g one [] h = tt
flat P Q f g one (x ∷ xs) h =
    let k = (all_append P (f x) (flat_map f xs)).0 h in
    (all_append Q (g x) (flat_map g xs)).1 (one x k.0, flat P Q f g one xs k.1)

number-other : (k : ℕ) (z : ℤ) → is_signed k ≡ true → NotLowest (number_word k z) → Other z
unfolding number_word complement
number-other k z s h e = h (ap is_signed (kind-number k z) ∙ s) (rw e (payload-word k Limit.half (omega arith)))

bounds-other : (B : Bounds) → All NotLowest (bound_words B) → All Other (bound_numbers B)
unfolding bound_words bound_numbers is_signed
bounds-other B h = (number-other Kind.auxiliary_lower B.lower refl h.0, (number-other Kind.auxiliary_upper B.upper refl h.1.0, tt))

module _ {X : Type 0} (f : X → ℕ) where
  terms-other : (ts : List (Term X)) → All NotLowest (flat_map term_words (rename_terms f ts)) → All Other (map (λ t. t.coefficient) ts)
  unfolding flat_map term_words rename_terms is_signed
  terms-other [] h = tt
  terms-other (t ∷ ts) h = (number-other Kind.number t.coefficient refl h.1.0, terms-other ts h.1.1)

  sum-other : (k : ℕ) (ts : List (Term X)) (c : ℤ) → All NotLowest (sum_words k (rename_terms f ts) c) → All Other (map (λ t. t.coefficient) ts ++ (c ∷ []))
  unfolding sum_words is_signed
  sum-other k ts c h =
      let q = (all_append NotLowest (flat_map term_words (rename_terms f ts)) (number_word Kind.number c ∷ [])).0 h.1 in
      (all_append Other (map (λ t. t.coefficient) ts) (c ∷ [])).1 (terms-other ts q.0, (number-other Kind.number c refl q.1.0, tt))

  row_other : (q : Row X) → All NotLowest (row_words (rename f q)) → All Other (row_numbers q)
  unfolding row_words rename row_numbers
  row_other (sum≤0 ts c) h = sum-other Kind.at_most ts c h
  row_other (sum=0 ts c) h = sum-other Kind.equal ts c h
  row_other (product x y z) h = tt

block-other : (first : ℕ) (B : Block) → All NotLowest (block_words first B) → All Other (block_numbers B)
unfolding block_words block_numbers
block-other first B h =
    let k = (all_append NotLowest (flat_map bound_words B.auxiliaries) _).0 h in
    (all_append Other (flat_map bound_numbers B.auxiliaries) (flat_map row_numbers B.rows)).1 (
      flat NotLowest Other bound_words bound_numbers bounds-other B.auxiliaries k.0,
      flat NotLowest Other (λ q. row_words (rename (numbered first) q)) row_numbers (row_other (numbered first)) B.rows k.1,
    )

blocks-other : (β : ℕ → Bounds) (s : ℕ → Bool) (first : ℕ) (e : Encoded) (cs : List Constraint) → All NotLowest (blocks_words β s first e cs) →
    All Other (each_block β s (λ first e c. block_numbers (block_of β s e c)) first e cs)
unfolding blocks_words each_block
blocks-other β s first e [] h = tt
blocks-other β s first e (c ∷ cs) h =
    let k = (all_append NotLowest (block_words first (block_of β s e c)) _).0 h in
    (all_append Other (block_numbers (block_of β s e c)) _).1 (block-other first (block_of β s e c) k.0, blocks-other β s (first + length (block_of β s e c).auxiliaries) (after β s first e c) cs k.1)

-- no word of the model and of its row system holds the lowest number
pub words_as_before : (ws : List ℕ) → All NotLowest ws → All NotLowest (system_words ws) → SameAnswers before Limit.range ws
unfolding system_words
words_as_before ws h k =
    let n = length (variables ws) in
    let q = ((all_append NotLowest (source_words ws) _).0 k).1 in
    let blocks = ((all_append NotLowest (blocks_words (bounds ws) (shared ws) n none_yet (constraints ws)) _).0 q).0 in
    as_before ws (record { words = h; rows = blocks-other (bounds ws) (shared ws) n none_yet (constraints ws) blocks })

-- ---- models that pass the check

word-passes : (w : ℕ) → NumberIn w → Alike before Limit.range w
word-passes w h s = never_too_low w ∙ sym (in_range_low w (h s))

block-passes : (B : Block) → outside B ≡ false → outside_in before B ≡ outside_in Limit.range B
unfolding outside_in
block-passes B e = let h : all in_range (block_numbers B) ≡ true = not-false _ e in rw (wider (block_numbers B) h, h) refl
  where
    wider : (zs : List ℤ) → all in_range zs ≡ true → all (within before) zs ≡ true
    wider zs h = (says_all (within before) (λ z. within before z ≡ true) (λ z. (λ e. e, λ e. e)) zs).1
        (all_implies (λ z. in_range z ≡ true) (λ z. within before z ≡ true) (λ z i. let k = (says-within Limit.range z).0 i in (says-within before z).1 (omega (arith_z, k.0), k.1)) zs
        ((says_all in_range (λ z. in_range z ≡ true) (λ z. (λ e. e, λ e. e)) zs).0 h))

fine-alike : (β : ℕ → Bounds) (s : ℕ → Bool) (first : ℕ) (e : Encoded) (cs : List Constraint) → Fine β s first e cs → BlocksAlike before Limit.range β s first e cs
fine-alike β s first e [] f = tt
fine-alike β s first e (c ∷ cs) f = (block-passes (block_of β s e c) f.1, fine-alike β s (first + length (block_of β s e c).auxiliaries) (after β s first e c) cs f.3)

-- where check accepts, it accepted in 01's range, and every answer is the same
pub passes-alike : (ws : List ℕ) → Passes ws → SameAnswers before Limit.range ws
passes-alike ws passes =
    alike before Limit.range ws
    (all_implies NumberIn (Alike before Limit.range) word-passes ws (all-number_in ws (passes-read ws passes)))
    (fine-alike (bounds ws) (shared ws) (length (variables ws)) none_yet (constraints ws) (passes-fine ws passes))

pub passed-before : (ws : List ℕ) → Passes ws → check_fault_in before ws ≡ accepted
passed-before ws passes = (passes-alike ws passes).faults ∙ passes
