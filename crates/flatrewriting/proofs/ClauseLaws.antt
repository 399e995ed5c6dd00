-- Clauses, step by step; what is placed of calls, with one more.
use Rattle.std.proofs.Common.{◌≡◌, refl, ap, ◌∙◌, Bool, true, false, List, [], ◌∷◌, ◌++◌, append_assoc, append-nil, map, ℕ, ◌+◌, ◌<◌, ◌≤◌, add-one, length, get_or, drop, drop-cons, drop_of_length-le, Option, Some, None}
use Rattle.std.specs.Prelude.{option_and_then}
use Rattle.integers.specs.Lists.{any}
use Rattle.models.specs.declared.code.Code.TheVariants.{BoolClause}
use Rattle.flatzinc.specs.declared.Atom.{Atom}
use Rattle.flatzinc.specs.declared.Call.{Call}
use Rattle.flatzinc.specs.Seen.{row}
use Rattle.flatzinc.specs.Items.{Placed}
use Rattle.flatzinc.specs.Calls.{placed_call, placed_all}
use Rattle.flatrewriting.specs.Arguments.{atoms, given, at_given, placed_given, placed_of}
use Rattle.flatrewriting.specs.Made.{and_more, and_one}
use Rattle.flatrewriting.specs.Rewritten.{is_constant, without, clauses, each_clause}
use Rattle.flatrewriting.proofs.Placing.{seen}

from : {A : Type 0} (xs : List A) (i : ℕ) (d : A) → i < length xs → drop i xs ≡ get_or xs i d ∷ drop (i + 1) xs
from xs i d l = drop-cons xs i d l ∙ rw add-one refl

module _ (b : Bool) (xs : List Atom) (i : ℕ) (d : Atom) (l : i < length xs) where
  pub any_here : is_constant b (get_or xs i d) ≡ true → any (is_constant b) (drop i xs) ≡ true
  unfolding any
  any_here e = ap (any (is_constant b)) (from xs i d l) ∙ rw e refl

  pub any-later : is_constant b (get_or xs i d) ≡ false → any (is_constant b) (drop i xs) ≡ any (is_constant b) (drop (i + 1) xs)
  unfolding any
  any-later e = ap (any (is_constant b)) (from xs i d l) ∙ rw e refl

  pub without_here : is_constant b (get_or xs i d) ≡ true → without b (drop i xs) ≡ without b (drop (i + 1) xs)
  unfolding without
  without_here e = ap (without b) (from xs i d l) ∙ rw e refl

  pub without-more : is_constant b (get_or xs i d) ≡ false → without b (drop i xs) ≡ get_or xs i d ∷ without b (drop (i + 1) xs)
  unfolding without
  without-more e = ap (without b) (from xs i d l) ∙ rw e refl

pub none-left : (b : Bool) (xs : List Atom) (i : ℕ) → length xs ≤ i → any (is_constant b) (drop i xs) ≡ false
unfolding any
none-left b xs i l = ap (any (is_constant b)) (drop_of_length-le xs l)

pub all-kept : (b : Bool) (done xs : List Atom) (i : ℕ) → length xs ≤ i → done ++ without b (drop i xs) ≡ done
unfolding without
all-kept b done xs i l = ap (λ (ys : List Atom). done ++ without b ys) (drop_of_length-le xs l) ∙ append-nil done

-- ---- what is placed, with more

pub and_more-nil : (o : Option (List Placed)) → and_more o [] ≡ o
and_more-nil None = refl
and_more-nil (Some ps) = ap Some (append-nil ps)

pub and_more-more : (o : Option (List Placed)) (ps qs : List Placed) → and_more (and_more o ps) qs ≡ and_more o (ps ++ qs)
and_more-more None ps qs = refl
and_more-more (Some rs) ps qs = ap Some (append_assoc rs ps qs)

pub placed-more : (cs : List Call) (c : Call) → placed_all (cs ++ c ∷ []) ≡ and_one (placed_all cs) (placed_call c)
unfolding placed_all
placed-more [] c = go (placed_call c)
  where
    go : (p : Option Placed) → option_and_then (λ q. option_and_then (λ ps. Some (q ∷ ps)) (Some [])) p ≡ option_and_then (λ q. Some ([] ++ q ∷ [])) p
    go None = refl
    go (Some q) = refl
placed-more (d ∷ cs) c = go (placed_call d) (placed_all cs) (placed_call c) (placed_all (cs ++ c ∷ [])) (placed-more cs c)
  where
    go : (p : Option Placed) (o : Option (List Placed)) (q : Option Placed) (r : Option (List Placed)) → r ≡ and_one o q →
        option_and_then (λ x. option_and_then (λ xs. Some (x ∷ xs)) r) p ≡ and_one (option_and_then (λ x. option_and_then (λ xs. Some (x ∷ xs)) o) p) q
    go None o q r e = refl
    go (Some x) None q r e = rw e refl
    go (Some x) (Some xs) None r e = rw e refl
    go (Some x) (Some xs) (Some y) r e = rw e refl

pub placed_call-of : (c : Call) → placed_call c ≡ placed_of (row c.code) (map given c.arguments.items)
unfolding placed_call
placed_call-of c = seen [] (row c.code).sorts (row c.code).make c.arguments.items

-- ---- a clause

pub clause-put : (o : Option (List Placed)) (pos neg p n : List Atom) → any (is_constant true) pos ≡ false → any (is_constant false) neg ≡ false →
    p ≡ without false pos → n ≡ without true neg → and_one o (placed_of (row BoolClause) (atoms p ∷ atoms n ∷ [])) ≡ and_more o (clauses pos neg)
unfolding clauses placed_given at_given
clause-put o pos neg p n e f g h = rw (g, h, e, f) refl

pub each-at : (r : Atom) (xs : List Atom) (i : ℕ) (d : Atom) → i < length xs → each_clause r (drop i xs) ≡ clauses (r ∷ []) (get_or xs i d ∷ []) ++ each_clause r (drop (i + 1) xs)
unfolding each_clause
each-at r xs i d l = ap (each_clause r) (from xs i d l)

pub each-left : (r : Atom) (xs : List Atom) (i : ℕ) (o : Option (List Placed)) → length xs ≤ i → and_more o (each_clause r (drop i xs)) ≡ o
unfolding each_clause
each-left r xs i o l = ap (λ (ys : List Atom). and_more o (each_clause r ys)) (drop_of_length-le xs l) ∙ and_more-nil o
