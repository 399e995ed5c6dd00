-- The row of the bits left out, as the code lays it: a variable's bits are consecutive.
use Rattle.std.proofs.Common.{◌≡◌, refl, sym, ap, ap₂, ◌∙◌, Bool, true, false, not, ◌&&◌, List, [], ◌∷◌, ◌++◌, map, append-nil, ℕ, zero, suc, ◌+◌, arith, eqb, ℤ, pos, ne_eqb, length}
use mathlib.Core.List.{flat_map}
use lib.ListN.{length-map}
use Rattle.integers.specs.Choice.{◌if◌else◌}
use Rattle.integers.specs.Number.{◌⊕◌, ◌⊖◌, count, +0, +1}
use Rattle.integers.specs.Lists.{list_of, all}
use Rattle.integers.specs.Bounds.{width, values}
use Rattle.integers.specs.Terms.{Term, ◌·◌}
use Rattle.integers.specs.declared.Bounds.{Bounds}
use Rattle.integers.proofs.Sums.{count-from}
use Rattle.words.specs.Kind as Kind
use Rattle.rowsystems.specs.Row.{sum=0}
use Rattle.rules.specs.Block.{Ref, source, aux, numbered}
use Rattle.rules.specs.Shared.{keep, Encoded, first_of, value_bit, kept, left_out}
use Rattle.laying.specs.Part.{Part, head, term, constant, term_parts, row_parts}
use Rattle.laying.specs.Lists.{many}
use Rattle.laying.proofs.Parts.{many-same}
use Rattle.sharedblocks.specs.LeftOut.{keeps, left_at, left_count, left_row}
use Rattle.sharedblocks.specs.Pieces.{bits_from}

-- the number of a value's bit
pub bit-number : (β : ℕ → Bounds) (e : Encoded) (first x : ℕ) (v : ℤ) → numbered first (value_bit β e x v) ≡ bits_from e first x + count (v ⊖ (β x).lower)
unfolding value_bit numbered
bit-number β e first x v = go (eqb (first_of e x) 0)
  where
    k : ℕ
    k = count (v ⊖ (β x).lower)

    go : (b : Bool) → numbered first (aux k if b else source (first_of e x + k)) ≡ (first if b else first_of e x) + k
    go true = refl
    go false = refl

-- the terms of the values that pass a test, the bit of place k being variable b + k
kept-many : (first b : ℕ) (g : ℤ → Ref) (t : ℤ → Bool) (f : ℕ → ℤ) (n : ℕ) → ((k : ℕ) → numbered first (g (f k)) ≡ b + k) →
    term_parts first (map (λ v. +1 · g v) (keep t (list_of f n))) ≡ many (λ k. term +1 (b + k) ∷ [] if t (f k) else []) n
unfolding term_parts list_of many
kept-many first b g t f zero h = refl
kept-many first b g t f (suc n) h =
    go (t (f 0))
    (kept-many first (suc b) g t (λ k. f (suc k)) n (λ k. h (suc k) ∙ over k)
    ∙ many-same _ _ (λ k. ap (λ (j : ℕ). term +1 j ∷ [] if t (f (suc k)) else []) (sym (over k))) n)
  where
    over : (k : ℕ) → b + suc k ≡ suc b + k
    over k = omega arith

    K : List ℤ
    K = keep t (list_of (λ k. f (suc k)) n)

    Q : List Part
    Q = many (λ k. term +1 (b + suc k) ∷ [] if t (f (suc k)) else []) n

    go : (c : Bool) → term_parts first (map (λ v. +1 · g v) K) ≡ Q →
        term_parts first (map (λ v. +1 · g v) (f 0 ∷ K if c else K)) ≡ (term +1 (b + 0) ∷ [] if c else []) ++ Q
    go true e = ap₂ (λ (j : ℕ) ps. term +1 j ∷ ps) (h 0) e
    go false e = e

-- nothing is left out where all pass
none_left_out : (t : ℤ → Bool) (vs : List ℤ) → eqb (length (keep (λ v. not (t v)) vs)) 0 ≡ all t vs
unfolding all
none_left_out t [] = refl
none_left_out t (v ∷ vs) = go (t v) (none_left_out t vs)
  where
    K : List ℤ
    K = keep (λ v. not (t v)) vs

    go : (b : Bool) → eqb (length K) 0 ≡ all t vs → eqb (length (v ∷ K if not b else K)) 0 ≡ (b && all t vs)
    go true e = e
    go false e = ne_eqb (suc (length K)) 0 (λ z. omega (arith, z))

-- the row of the definition is what lay_left_row lays
pub row_parts-left_out : (β : ℕ → Bounds) (e : Encoded) (first x code : ℕ) (args : List ℕ) →
    flat_map (row_parts first) (left_out β e (keeps code args) x) ≡ left_row code args (β x).lower (bits_from e first x) (width (β x))
unfolding left_out left_row left_count kept values flat_map row_parts
row_parts-left_out β e first x code args = rw (none_left_out t (list_of f n)) (go (all t (list_of f n)))
  where
    t : ℤ → Bool
    t = keeps code args

    f : ℕ → ℤ
    f k = (β x).lower ⊕ pos k

    n : ℕ
    n = width (β x)

    out : List ℤ
    out = keep (λ v. not (t v)) (list_of f n)

    ts : List (Term Ref)
    ts = map (λ v. +1 · value_bit β e x v) out

    numbered-value_bit : (k : ℕ) → numbered first (value_bit β e x (f k)) ≡ bits_from e first x + k
    numbered-value_bit k = bit-number β e first x (f k) ∙ ap (λ (j : ℕ). bits_from e first x + j) (count-from (β x).lower k)

    go : (b : Bool) → flat_map (row_parts first) ([] if b else sum=0 ts +0 ∷ [])
        ≡ ([] if b else head Kind.equal (length out) ∷ (many (left_at code args (β x).lower (bits_from e first x)) n ++ (constant +0 ∷ [])))
    go true = refl
    go false =
        append-nil _
        ∙ ap₂ (λ (m : ℕ) ps. head Kind.equal m ∷ (ps ++ (constant +0 ∷ []))) (length-map out _) (kept-many first (bits_from e first x) (value_bit β e x) (λ v. not (t v)) f n numbered-value_bit)

-- ---- one value more

kept_more : {A : Type 0} (t : A → Bool) (f : ℕ → A) (k : ℕ) → length (keep t (list_of f (suc k))) ≡ length (keep t (list_of f k)) + (1 if t (f k) else 0)
unfolding list_of
kept_more t f zero = go (t (f 0))
  where
    go : (b : Bool) → length (f 0 ∷ [] if b else []) ≡ 0 + (1 if b else 0)
    go true = refl
    go false = refl
kept_more {A} t f (suc k) = go (t (f 0)) (kept_more t (λ j. f (suc j)) k)
  where
    K : List A
    K = keep t (list_of (λ j. f (suc j)) k)

    M : List A
    M = keep t (list_of (λ j. f (suc j)) (suc k))

    go : (b : Bool) → length M ≡ length K + (1 if t (f (suc k)) else 0) → length (f 0 ∷ M if b else M) ≡ length (f 0 ∷ K if b else K) + (1 if t (f (suc k)) else 0)
    go true e = omega arith
    go false e = e

pub left-more : (code : ℕ) (args : List ℕ) (from : ℤ) (k : ℕ) →
    left_count code args from (k + 1) ≡ left_count code args from k + (1 if not (keeps code args (from ⊕ pos k)) else 0)
unfolding left_count
left-more code args from k = let e : k + 1 ≡ suc k = omega arith in rw e (kept_more (λ v. not (keeps code args v)) (λ j. from ⊕ pos j) k)
