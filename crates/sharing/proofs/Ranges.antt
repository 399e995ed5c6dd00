-- What fill writes fits 32 bits: every value and every pick is in the range of signed payloads.
use Rattle.std.proofs.Common.{◌≡◌, sym, subst, Bool, true, List, [], ◌∷◌, ◌++◌, ℕ, ◌+◌, ◌<◌, ℤ, length}
use mathlib.Core.List.{flat_map}
use Rattle.integers.specs.Bounds.{bounds_in}
use Rattle.integers.specs.Terms.{value}
use Rattle.integers.specs.declared.Bounds.{Bounds}
use Rattle.integers.proofs.Linear.{arith_z}
use Rattle.integers.proofs.Lists.{all_append, all_implies, all-at}
use Rattle.integers.proofs.Tests.{In, says-within, All}
use Rattle.words.specs.Word.{in_range}
use Rattle.words.specs.Variables.{variables}
use Rattle.words.proofs.ReadBack.{says_range}
use Rattle.words.proofs.Sources.{Ordered}
use Rattle.models.specs.Model.{Constraint, constraints}
use Rattle.models.proofs.Accepted as Accepted
use Rattle.rowsystems.specs.RowWords.{bound_numbers, row_numbers}
use Rattle.rowsystems.proofs.ReadBack.{Ranged}
use Rattle.rules.specs.Block.{block_numbers}
use Rattle.rules.specs.Shared.{Encoded, none_yet}
use Rattle.rules.specs.Translation.{shared, block_of, each_block, system_words, picks}
use Rattle.sharing.specs.SharedSolutions.{Passes, SatisfiesModel, SatisfiesRows}
use Rattle.sharing.proofs.Assembly.{after, auxiliaries_from}
use Rattle.sharing.proofs.Accepts.{Fine, passes-read}
use Rattle.sharing.proofs.Written.{ranged-block_numbers}
use Rattle.sharing.proofs.Theorem.{fine, same-bounds, fill-satisfies}

-- both bounds are in the range
abbrev BothIn : Bounds → Type 0
BothIn B = (in_range B.lower ≡ true) × (in_range B.upper ≡ true)

-- the bounds of a block's auxiliaries are among its numbers
all-both_in : (Bs : List Bounds) → Ranged (flat_map bound_numbers Bs) → All BothIn Bs
unfolding flat_map bound_numbers
all-both_in [] h = tt
all-both_in (B ∷ Bs) h = ((h.0, h.1.0), all-both_in Bs h.1.1)

blocks_in : (β : ℕ → Bounds) (s : ℕ → Bool) (first : ℕ) (e : Encoded) (cs : List Constraint) → Fine β s first e cs → All BothIn (auxiliaries_from β s first e cs)
unfolding block_numbers each_block
blocks_in β s first e [] f = tt
blocks_in β s first e (c ∷ cs) f =
    let B = block_of β s e c in
    (all_append BothIn B.auxiliaries (auxiliaries_from β s _ _ cs)).1 (
      all-both_in B.auxiliaries ((all_append (λ z. in_range z ≡ true) (flat_map bound_numbers B.auxiliaries) (flat_map row_numbers B.rows)).0 (ranged-block_numbers B f.1)).0,
      blocks_in β s (first + length (block_of β s e c).auxiliaries) (after β s first e c) cs f.3,
    )

value_in : (B : Bounds) (x : ℤ) → BothIn B → In B x → in_range x ≡ true
value_in B x h k =
    let l = (says_range B.lower).0 h.0 in
    let u = (says_range B.upper).0 h.1 in
    (says_range x).1 (omega (arith_z, l.0, k.0), omega (arith_z, u.1, k.1))

-- every value of a list that satisfies a row system of such bounds
pub values_in : (system : List ℕ) (ys : List ℤ) → All BothIn (variables system) → SatisfiesRows system ys → (v : ℕ) → v < length ys → in_range (value ys v) ≡ true
unfolding bounds_in
values_in system ys h s v l =
    let k : v < length (variables system) = subst (λ (n : ℕ). v < n) s.one_each l in
    value_in (bounds_in (variables system) v) (value ys v) (all-at BothIn _ (variables system) v k h) ((says-within (bounds_in (variables system) v) (value ys v)).0 (s.in_bounds v k))

pub fill_in_range : (ws : List ℕ) → Passes ws → (vs : List ℤ) → SatisfiesModel ws vs → (v : ℕ) → v < length (vs ++ picks ws vs) → in_range (value (vs ++ picks ws vs) v) ≡ true
fill_in_range ws passes vs s =
    values_in (system_words ws) (vs ++ picks ws vs)
    (subst (All BothIn) (sym (same-bounds ws passes))
    ((all_append BothIn (variables ws) _).1 (
      all_implies Ordered BothIn (λ B o. (o.lower_in, o.upper_in)) (variables ws) (Accepted.ordered ws (passes-read ws passes)),
      blocks_in (bounds_in (variables ws)) (shared ws) (length (variables ws)) none_yet (constraints ws) (fine ws passes),
    )))
    (fill-satisfies ws passes vs s)
