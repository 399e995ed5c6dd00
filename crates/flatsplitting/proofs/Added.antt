-- What is added to a model, in builtins; lists of variables that are put into calls are built as they were.
use Rattle.std.proofs.Common.{◌≡◌, refl, sym, ap, ap₂, ◌∙◌, subst, List, [], ◌∷◌, ◌++◌, map, append_assoc, append-nil, ℕ, Option, Some, Result, Ok, Err, OnOk, Vec, Global}
use Rattle.std.proofs.lemmas.List.{map-append}
use Rattle.integers.specs.Number.{+0}
use Rattle.integers.specs.declared.Bounds.{Bounds}
use Rattle.models.specs.Builtin.{Builtin, int_lin_eq, bool_clause, array_bool_and, array_int_maximum, array_int_minimum}
use Rattle.models.specs.declared.code.Code.{Code}
use Rattle.models.specs.declared.code.Code.TheVariants as c
use Rattle.flatzinc.specs.declared.Atom.{Atom}
use Rattle.flatzinc.specs.declared.Atom.TheVariants.{Variable}
use Rattle.flatzinc.specs.declared.Product.{Product}
use Rattle.flatzinc.specs.declared.Argument.{Argument}
use Rattle.flatzinc.specs.declared.Argument.TheVariants.{One, Number, Many, Sum}
use Rattle.flatzinc.specs.declared.Call.{Call}
use Rattle.flatzinc.specs.declared.trouble.Trouble.{Trouble}
use Rattle.flatzinc.specs.Numbers.{limits}
use Rattle.flatzinc.specs.Calls.{numbers_of, terms_of, built_argument, built_arguments, built_call}
use Rattle.flatsplitting.specs.declared.Parted.{Parted}
use Rattle.flatsplitting.specs.declared.Weighted.{Weighted}
use Rattle.flatsplitting.specs.Added.{built, built_of, term, product, weighted, product_term, bounds, Adds}

pub one-call : (old new : Parted) (k : Call) (code : Code) (gs : List Argument) → new.variables.items ≡ old.variables.items → new.calls.items ≡ old.calls.items ++ k ∷ [] → k.code ≡ code →
    k.arguments.items ≡ gs → Adds old new [] (built_of code gs ∷ [])
unfolding built_call
one-call old new k code gs v e c a = record {
  parts = ap (map limits) v ∙ sym (append-nil (bounds old));
  calls = ap built e ∙ map-append built_call old.calls.items (k ∷ []) ∙ ap₂ (λ x l. built old.calls.items ++ built_of x l ∷ []) c a;
}

-- ---- as they were

pub numbers-back : (ns : List ℕ) → numbers_of (map Variable ns) ≡ Some ns
unfolding numbers_of
numbers-back [] = refl
numbers-back (n ∷ ns) = rw (numbers-back ns) refl

pub terms-back : (ws : List Weighted) → terms_of (map product ws) ≡ Some (map term ws)
unfolding terms_of numbers_of
terms-back [] = refl
terms-back (w ∷ ws) = rw (terms-back ws) refl

pub equation : (v : Vec Product Global) (ws : List Weighted) → v.items ≡ map product ws → built_of c.IntLinEq (Sum v ∷ Number +0 ∷ []) ≡ Some (int_lin_eq (map term ws) +0)
unfolding built_arguments built_argument
equation v ws e = rw (e, terms-back ws) refl

pub conjunction : (v : Vec Atom Global) (ns : List ℕ) (r : ℕ) → v.items ≡ map Variable ns → built_of c.ArrayBoolAnd (Many v ∷ One (Variable r) ∷ []) ≡ Some (array_bool_and ns r)
unfolding built_arguments built_argument
conjunction v ns r e = rw (e, numbers-back ns) refl

pub clause : (v w : Vec Atom Global) (ns ms : List ℕ) → v.items ≡ map Variable ns → w.items ≡ map Variable ms → built_of c.BoolClause (Many v ∷ Many w ∷ []) ≡ Some (bool_clause ns ms)
unfolding built_arguments built_argument
clause v w ns ms e f = rw (e, f, numbers-back ns, numbers-back ms) refl

pub largest : (v : Vec Atom Global) (ns : List ℕ) (m : ℕ) → v.items ≡ map Variable ns → built_of c.ArrayIntMaximum (One (Variable m) ∷ Many v ∷ []) ≡ Some (array_int_maximum m ns)
unfolding built_arguments built_argument
largest v ns m e = rw (e, numbers-back ns) refl

pub least : (v : Vec Atom Global) (ns : List ℕ) (m : ℕ) → v.items ≡ map Variable ns → built_of c.ArrayIntMinimum (One (Variable m) ∷ Many v ∷ []) ≡ Some (array_int_minimum m ns)
unfolding built_arguments built_argument
least v ns m e = rw (e, numbers-back ns) refl

-- the same builtin by another name
pub named : (r : Result (Unit {0}) Trouble) (old new : Parted) (o p : Option Builtin) → o ≡ p → OnOk r (Adds old new [] (o ∷ [])) → OnOk r (Adds old new [] (p ∷ []))
named r old new o p e h = subst (λ (x : Option Builtin). OnOk r (Adds old new [] (x ∷ []))) e h

-- ---- one after another

pub adds-then : (a b d : Parted) (Ps Qs : List Bounds) (os qs : List (Option Builtin)) → Adds a b Ps os → Adds b d Qs qs → Adds a d (Ps ++ Qs) (os ++ qs)
adds-then a b d Ps Qs os qs h k = record {
  parts = k.parts ∙ ap (λ l. l ++ Qs) h.parts ∙ append_assoc (bounds a) Ps Qs;
  calls = k.calls ∙ ap (λ l. l ++ qs) h.calls ∙ append_assoc (built a.calls.items) os qs;
}

pub adds-none : (a : Parted) → Adds a a [] []
adds-none a = record { parts = sym (append-nil (bounds a)); calls = sym (append-nil (built a.calls.items)) }

-- an answer after calls that went well
pub after : (r : Result (Unit {0}) Trouble) (a b d : Parted) (Ps Qs : List Bounds) (os qs : List (Option Builtin)) → Adds a b Ps os → OnOk r (Adds b d Qs qs) → OnOk r (Adds a d (Ps ++ Qs) (os ++ qs))
after (Ok u) a b d Ps Qs os qs h k = adds-then a b d Ps Qs os qs h k
after (Err e) a b d Ps Qs os qs h k = tt

-- a part is added, and then what defines it
pub part-then : (r : Result (Unit {0}) Trouble) (a b d : Parted) (B : Bounds) (os ps : List (Option Builtin)) → os ≡ ps → Adds a b (B ∷ []) [] → OnOk r (Adds b d [] os) → OnOk r (Adds a d (B ∷ []) ps)
part-then (Ok u) a b d B os ps e h k = subst (λ (l : List (Option Builtin)). Adds a d (B ∷ []) l) e (adds-then a b d (B ∷ []) [] [] os h k)
part-then (Err x) a b d B os ps e h k = tt

pub map_some : {A : Type 0} (f : A → Builtin) (xs : List A) → map (λ x. Some (f x)) xs ≡ map Some (map f xs)
map_some f [] = refl
map_some f (x ∷ xs) = ap (λ l. Some (f x) ∷ l) (map_some f xs)

-- the terms of products
pub terms-weighted : (ps : List Product) → map term (map weighted ps) ≡ map product_term ps
terms-weighted [] = refl
terms-weighted (p ∷ ps) = ap (λ l. product_term p ∷ l) (terms-weighted ps)
