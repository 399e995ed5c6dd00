-- What items with a code are rewritten as: clauses without constants, others as they are; and set_in of a range.
use Rattle.std.proofs.Common.{◌≡◌, refl, ap, ap₂, ◌∙◌, Bool, true, false, List, [], ◌∷◌, ◌++◌, ℕ, ◌+◌, arith, ℤ, length, get_or, leb, Option, Some, None}
use lib.ListN.{get_or-append}
use Rattle.std.specs.Prelude.{option_and_then}
use Rattle.std.proofs.lemmas.List.{get_or-append-add}
use Rattle.integers.specs.Choice.{◌if◌else◌}
use Rattle.integers.specs.Number.{+0}
use Rattle.integers.specs.Bounds.{◌to◌, width, values}
use Rattle.integers.proofs.Places.{map-list_of, by-places}
use Rattle.words.specs.Limit as Limit
use Rattle.models.specs.Table.{Sort, Argument, Takes}
use Rattle.models.specs.Builtin.{Builtin, bool_clause}
use Rattle.models.specs.declared.code.Code.{Code}
use Rattle.models.specs.declared.code.Code.TheVariants.{IntEq, IntLe, IntLt, IntNe, IntLeReif, IntPlus, IntTimes, IntAbs, IntMax, IntLinEq, IntLinLe, IntLinNe, IntLinEqReif, IntEqReif, IntLinLeReif, Bool2int, BoolNot, BoolAnd, BoolOr, BoolXor, BoolClause, ArrayBoolAnd, ArrayBoolXor, ArrayIntElement, ArrayVarIntElement, ArrayIntMaximum, SetIn, SetInReif, IntMin, IntLtReif, IntNeReif, IntLinNeReif, ArrayIntMinimum, BoolEqReif, BoolLeReif, BoolLtReif, IntDiv, IntMod, IntPow}
use Rattle.flatzinc.specs.declared.Atom.{Atom}
use Rattle.flatzinc.specs.declared.Atom.TheVariants.{Whole}
use Rattle.flatzinc.specs.Seen.{row}
use Rattle.flatzinc.specs.Items.{Value, many, Placed, places_from, Taken, taken, placed_from, placed, coded, set_in_range}
use Rattle.flatrewriting.specs.Range.{short_values}
use Rattle.flatrewriting.specs.Arguments.{list_in}
use Rattle.flatrewriting.specs.Rewritten.{at_places, clauses, clause_by, by_numbers, by_ends, plain, simplified_as, simplified, rewritten}
use Rattle.flatrewriting.proofs.Placing.{list-same}

-- ---- clauses

first_places : (xs ys : List Atom) → at_places (xs ++ ys) (places_from [] xs) ≡ xs
first_places xs ys =
    map-list_of (λ k. get_or (xs ++ ys) k (Whole +0)) (λ k. 0 + k) (length xs)
    ∙ list-same _ _ (length xs) (λ k l. ap (λ (i : ℕ). get_or (xs ++ ys) i (Whole +0)) (omega arith) ∙ get_or-append xs ys (Whole +0) k l)
    ∙ by-places (Whole +0) xs

later_places : (xs ys : List Atom) → at_places (xs ++ ys) (places_from xs ys) ≡ ys
later_places xs ys =
    map-list_of (λ k. get_or (xs ++ ys) k (Whole +0)) (λ k. length xs + k) (length ys)
    ∙ list-same _ _ (length ys) (λ k l. get_or-append-add xs ys k (Whole +0)) ∙ by-places (Whole +0) ys

pub clause-rewritten : (vs : List Value) → rewritten (coded (row BoolClause) vs) ≡ clause_by vs
unfolding rewritten clause_by placed placed_from taken simplified_as list_in
clause-rewritten [] = refl
clause-rewritten (many xs ∷ []) = refl
clause-rewritten (v ∷ []) = refl
clause-rewritten (many xs ∷ many ys ∷ []) = ap₂ (λ (as₁ bs : List Atom). Some (clauses as₁ bs)) (first_places xs ys) (later_places xs ys)
clause-rewritten (many xs ∷ w ∷ []) = refl
clause-rewritten (v ∷ many ys ∷ []) = refl
clause-rewritten (v ∷ w ∷ []) = refl
clause-rewritten (many xs ∷ many ys ∷ u ∷ us) = refl
clause-rewritten (many xs ∷ w ∷ u ∷ us) = refl
clause-rewritten (v ∷ w ∷ u ∷ us) = refl

-- ---- the other builtins

is_clause : Builtin → Bool
is_clause (bool_clause xs ys) = true
is_clause b = false

Never : (ss : List Sort) → Takes ss → Type 0
Never [] b = is_clause b ≡ false
Never (s ∷ ss) f = (a : Argument s) → Never ss (f a)

row-never : (c : Code) → (c ≡ BoolClause → ⊥) → Never (row c).sorts (row c).make
unfolding Never is_clause
row-never IntEq h = λ a b. refl
row-never IntLe h = λ a b. refl
row-never IntLt h = λ a b. refl
row-never IntNe h = λ a b. refl
row-never IntLeReif h = λ a b c. refl
row-never IntPlus h = λ a b c. refl
row-never IntTimes h = λ a b c. refl
row-never IntAbs h = λ a b. refl
row-never IntMax h = λ a b c. refl
row-never IntLinEq h = λ a b. refl
row-never IntLinLe h = λ a b. refl
row-never IntLinNe h = λ a b. refl
row-never IntLinEqReif h = λ a b c. refl
row-never IntEqReif h = λ a b c. refl
row-never IntLinLeReif h = λ a b c. refl
row-never Bool2int h = λ a b. refl
row-never BoolNot h = λ a b. refl
row-never BoolAnd h = λ a b c. refl
row-never BoolOr h = λ a b c. refl
row-never BoolXor h = λ a b c. refl
row-never BoolClause h = absurd (h refl)
row-never ArrayBoolAnd h = λ a b. refl
row-never ArrayBoolXor h = λ a. refl
row-never ArrayIntElement h = λ a b c. refl
row-never ArrayVarIntElement h = λ a b c. refl
row-never ArrayIntMaximum h = λ a b. refl
row-never SetIn h = λ a b. refl
row-never SetInReif h = λ a b c. refl
row-never IntMin h = λ a b c. refl
row-never IntLtReif h = λ a b c. refl
row-never IntNeReif h = λ a b c. refl
row-never IntLinNeReif h = λ a b c. refl
row-never ArrayIntMinimum h = λ a b. refl
row-never BoolEqReif h = λ a b c. refl
row-never BoolLeReif h = λ a b c. refl
row-never BoolLtReif h = λ a b c. refl
row-never IntDiv h = λ a b c. refl
row-never IntMod h = λ a b c. refl
row-never IntPow h = λ a b c. refl

as-it-is : (as₁ : List Atom) (b : Builtin) → is_clause b ≡ false → simplified_as as₁ b ≡ record { builtin = b; atoms = as₁ } ∷ []
unfolding simplified_as is_clause
as-it-is as₁ (bool_clause xs ys) e = absurd cc
as-it-is as₁ b e = refl

never_placed : (as₁ : List Atom) (ss : List Sort) (f : Takes ss) (vs : List Value) (p : Placed) → Never ss f → placed_from as₁ ss f vs ≡ Some p → is_clause p.builtin ≡ false
unfolding placed_from Never
never_placed as₁ [] b [] p n e = let h : record { builtin = b; atoms = as₁ } ≡ p = cc in rw (← h) n
never_placed as₁ [] b (v ∷ vs) p n e = absurd cc
never_placed as₁ (s ∷ ss) f vs p n e = go (taken s as₁ vs) e (λ t k. never_placed t.atoms ss (f t.argument) t.values p (n t.argument) k)
  where
    go : (o : Option (Taken s)) → option_and_then (λ t. placed_from t.atoms ss (f t.argument) t.values) o ≡ Some p →
        ((t : Taken s) → placed_from t.atoms ss (f t.argument) t.values ≡ Some p → is_clause p.builtin ≡ false) → is_clause p.builtin ≡ false
    go None e h = absurd cc
    go (Some t) e h = h t e

pub plain-rewritten : (c : Code) → (c ≡ BoolClause → ⊥) → (vs : List Value) → rewritten (coded (row c) vs) ≡ plain (row c) vs
unfolding rewritten placed
plain-rewritten c h vs = go (placed_from [] (row c).sorts (row c).make vs) (λ p e. never_placed [] (row c).sorts (row c).make vs p (row-never c h) e)
  where
    go : (o : Option Placed) → ((p : Placed) → o ≡ Some p → is_clause p.builtin ≡ false) → option_and_then (λ p. Some (simplified p)) o ≡ option_and_then (λ p. Some (p ∷ [])) o
    go None n = refl
    go (Some p) n = ap Some (as-it-is p.atoms p.builtin (n p refl))

-- ---- a range

pub short-rewritten : (x : Atom) (lo hi : ℤ) (ns : List ℤ) → short_values (lo to hi) ≡ Some ns → by_numbers x ns ≡ rewritten (set_in_range x lo hi)
unfolding rewritten
short-rewritten x lo hi ns e = go (leb (width (lo to hi)) Limit.list_length) e
  where
    go : (t : Bool) → (Some (values (lo to hi)) if t else None) ≡ Some ns → by_numbers x ns ≡ (by_numbers x (values (lo to hi)) if t else by_ends x lo hi)
    go true e = let h : values (lo to hi) ≡ ns = cc in rw h refl
    go false e = absurd cc

pub long-rewritten : (x : Atom) (lo hi : ℤ) → short_values (lo to hi) ≡ None → by_ends x lo hi ≡ rewritten (set_in_range x lo hi)
unfolding rewritten
long-rewritten x lo hi e = go (leb (width (lo to hi)) Limit.list_length) e
  where
    go : (t : Bool) → (Some (values (lo to hi)) if t else None) ≡ None → by_ends x lo hi ≡ (by_numbers x (values (lo to hi)) if t else by_ends x lo hi)
    go true e = absurd cc
    go false e = refl
