-- Calls one after another are placed one after another.
use Rattle.std.proofs.Common.{◌≡◌, refl, sym, ap, ◌∙◌, List, [], ◌∷◌, ◌++◌, append_assoc, append-nil, arith, ℕ, suc, ◌+◌, length, Option, Some, None}
use Rattle.std.specs.Prelude.{option_and_then}
use Rattle.flatzinc.specs.declared.Call.{Call}
use Rattle.flatzinc.specs.Items.{Placed, Item, Declared}
use Rattle.flatzinc.specs.Calls.{placed_call, placed_all}
use Rattle.flatrewriting.specs.Rewritten.{rewritten}
use Rattle.flatrewriting.specs.Variables.{all_items}
use Rattle.flattening.specs.Flattened.{joined, constraint_items, variable_items}

front-joined : (p : Option Placed) (o r : Option (List Placed)) →
    option_and_then (λ q. option_and_then (λ qs. Some (q ∷ qs)) (joined o r)) p ≡ joined (option_and_then (λ q. option_and_then (λ qs. Some (q ∷ qs)) o) p) r
front-joined None o r = refl
front-joined (Some q) None r = refl
front-joined (Some q) (Some qs) None = refl
front-joined (Some q) (Some qs) (Some rs) = refl

pub placed_append : (cs ds : List Call) → placed_all (cs ++ ds) ≡ joined (placed_all cs) (placed_all ds)
unfolding placed_all
placed_append [] ds = nothing (placed_all ds)
  where
    nothing : (o : Option (List Placed)) → o ≡ joined (Some []) o
    nothing None = refl
    nothing (Some qs) = refl
placed_append (c ∷ cs) ds =
    ap (λ o. option_and_then (λ q. option_and_then (λ qs. Some (q ∷ qs)) o) (placed_call c)) (placed_append cs ds)
    ∙ front-joined (placed_call c) (placed_all cs) (placed_all ds)

pub joined-assoc : (o p r : Option (List Placed)) → joined (joined o p) r ≡ joined o (joined p r)
joined-assoc None p r = refl
joined-assoc (Some qs) None r = refl
joined-assoc (Some qs) (Some rs) None = refl
joined-assoc (Some qs) (Some rs) (Some ss) = ap Some (append_assoc qs rs ss)

-- ---- of constraints and of variables, one after another

joined-nothing : (o : Option (List Placed)) → joined o (Some []) ≡ o
joined-nothing None = refl
joined-nothing (Some qs) = ap Some (append-nil qs)

nothing-joined : (o : Option (List Placed)) → joined (Some []) o ≡ o
nothing-joined None = refl
nothing-joined (Some qs) = refl

constraints_append : (xs ys : List Item) → constraint_items (xs ++ ys) ≡ joined (constraint_items xs) (constraint_items ys)
unfolding constraint_items
constraints_append [] ys = sym (nothing-joined (constraint_items ys))
constraints_append (x ∷ xs) ys =
    ap (joined (rewritten x)) (constraints_append xs ys) ∙ sym (joined-assoc (rewritten x) (constraint_items xs) (constraint_items ys))

pub constraint_more : (xs : List Item) (x : Item) → constraint_items (xs ++ x ∷ []) ≡ joined (constraint_items xs) (rewritten x)
unfolding constraint_items
constraint_more xs x = constraints_append xs (x ∷ []) ∙ ap (joined (constraint_items xs)) (joined-nothing (rewritten x))

variables_append : (v : ℕ) (xs ys : List Declared) → variable_items v (xs ++ ys) ≡ joined (variable_items v xs) (variable_items (v + length xs) ys)
unfolding variable_items
variables_append v [] ys = let e : v + 0 ≡ v = omega arith in rw e (sym (nothing-joined (variable_items v ys)))
variables_append v (x ∷ xs) ys =
    ap (joined (all_items v x)) (variables_append (v + 1) xs ys)
    ∙ sym (joined-assoc (all_items v x) (variable_items (v + 1) xs) (variable_items (v + 1 + length xs) ys))
    ∙ ap (λ n. joined (joined (all_items v x) (variable_items (v + 1) xs)) (variable_items n ys)) (moved v (length xs))
  where
    moved : (v n : ℕ) → v + 1 + n ≡ v + suc n
    moved v n = omega arith

pub variable_more : (v : ℕ) (xs : List Declared) (x : Declared) → variable_items v (xs ++ x ∷ []) ≡ joined (variable_items v xs) (all_items (v + length xs) x)
unfolding variable_items
variable_more v xs x = variables_append v xs (x ∷ []) ∙ ap (joined (variable_items v xs)) (joined-nothing (all_items (v + length xs) x))
