-- What is built of calls, with one more; the calls of what is placed, one by one.
use Rattle.std.proofs.Common.{◌≡◌, refl, sym, ap, ap₂, ◌∙◌, List, [], ◌∷◌, ◌++◌, append_assoc, append-nil, map, ℕ, zero, suc, ◌+◌, ◌<◌, ◌≤◌, add-one, arith, length, get_or, drop, drop-cons, drop_of_length-le, Option, Some, None}
use Rattle.std.specs.Prelude.{option_and_then}
use Rattle.models.specs.Builtin.{Builtin, int_eq, bool_clause}
use Rattle.models.specs.declared.code.Code.TheVariants.{BoolClause}
use Rattle.flatzinc.specs.declared.Atom.{Atom}
use Rattle.flatzinc.specs.declared.Argument.{Argument}
use Rattle.flatzinc.specs.declared.Argument.TheVariants.{Many}
use Rattle.flatzinc.specs.declared.Call.{Call}
use Rattle.flatzinc.specs.Items.{Placed}
use Rattle.flatzinc.specs.Calls.{numbers_of, placed_call, placed_all, built_argument, built_arguments, built_call, built_all}
use Rattle.std.specs.Global.{Vec}
use Rattle.flatconstants.specs.Constants.{constant_clauses, clauses_from, atoms_of}
use Rattle.flatconstants.specs.Numbers.{and_built, built_with, calls_atoms}
use Rattle.flatconstants.proofs.Building.{call_atoms}

abbrev pub and_call : Option (List Builtin) → Option Builtin → Option (List Builtin)
and_call o b = option_and_then (λ bs. option_and_then (λ c. Some (bs ++ c ∷ [])) b) o

pub built-more : (cs : List Call) (c : Call) → built_all (cs ++ c ∷ []) ≡ and_call (built_all cs) (built_call c)
unfolding built_all
built-more [] c = go (built_call c)
  where
    go : (p : Option Builtin) → option_and_then (λ q. option_and_then (λ ps. Some (q ∷ ps)) (Some [])) p ≡ option_and_then (λ q. Some ([] ++ q ∷ [])) p
    go None = refl
    go (Some q) = refl
built-more (d ∷ cs) c = go (built_call d) (built_all cs) (built_call c) (built_all (cs ++ c ∷ [])) (built-more cs c)
  where
    go : (p : Option Builtin) (o : Option (List Builtin)) (q : Option Builtin) (r : Option (List Builtin)) → r ≡ and_call o q →
        option_and_then (λ x. option_and_then (λ xs. Some (x ∷ xs)) r) p ≡ and_call (option_and_then (λ x. option_and_then (λ xs. Some (x ∷ xs)) o) p) q
    go None o q r e = refl
    go (Some x) None q r e = rw e refl
    go (Some x) (Some xs) None r e = rw e refl
    go (Some x) (Some xs) (Some y) r e = rw e refl

pub and_built-nil : (o : Option (List Builtin)) → and_built o [] ≡ o
and_built-nil None = refl
and_built-nil (Some bs) = ap Some (append-nil bs)

pub and_built-more : (o : Option (List Builtin)) (bs cs : List Builtin) → and_built (and_built o bs) cs ≡ and_built o (bs ++ cs)
and_built-more None bs cs = refl
and_built-more (Some ds) bs cs = ap Some (append_assoc ds bs cs)

-- ---- the clause of two lists

clause-both : (o : Option (List Builtin)) (u v : Option (List ℕ)) →
    and_call o (option_and_then (λ xs. option_and_then (λ ys. Some (bool_clause xs ys)) v) u) ≡ option_and_then (λ xs. option_and_then (λ ys. and_built o (bool_clause xs ys ∷ [])) v) u
clause-both None None v = refl
clause-both None (Some xs) None = refl
clause-both None (Some xs) (Some ys) = refl
clause-both (Some bs) None v = refl
clause-both (Some bs) (Some xs) None = refl
clause-both (Some bs) (Some xs) (Some ys) = refl

pub clause-built : (cs : List Call) (gs : Vec Argument) (p n : Vec Atom) (xs ys : List Atom) → gs.items ≡ Many p ∷ Many n ∷ [] → p.items ≡ xs → n.items ≡ ys →
    built_all (cs ++ record { code = BoolClause; arguments = gs } ∷ []) ≡ built_with (built_all cs) xs ys
unfolding built_call built_arguments built_argument
clause-built cs gs p n xs ys e f g =
    built-more cs (record { code = BoolClause; arguments = gs }) ∙ rw (e, f, g) (clause-both (built_all cs) (numbers_of xs) (numbers_of ys))

-- ---- the clauses of constants

pub constants-on : (o : Option (List Builtin)) (first k : ℕ) (xs : List Atom) (d : Atom) → k < length xs →
    and_built (and_built o (constant_clauses (first + k) (get_or xs k d))) (clauses_from (first + (k + 1)) (drop (k + 1) xs)) ≡ and_built o (clauses_from (first + k) (drop k xs))
unfolding clauses_from
constants-on o first k xs d l =
    let e : first + (k + 1) ≡ first + k + 1 = omega arith in
    let f : drop k xs ≡ get_or xs k d ∷ drop (k + 1) xs = drop-cons xs k d l ∙ rw add-one refl in
    and_built-more o (constant_clauses (first + k) (get_or xs k d)) (clauses_from (first + (k + 1)) (drop (k + 1) xs))
    ∙ ap (λ (v : ℕ). and_built o (constant_clauses (first + k) (get_or xs k d) ++ clauses_from v (drop (k + 1) xs))) e
    ∙ ap (λ (ys : List Atom). and_built o (clauses_from (first + k) ys)) (sym f)

pub constants-end : (o : Option (List Builtin)) (v k : ℕ) (xs : List Atom) → length xs ≤ k → and_built o (clauses_from v (drop k xs)) ≡ o
unfolding clauses_from
constants-end o v k xs l = ap (λ (ys : List Atom). and_built o (clauses_from v ys)) (drop_of_length-le xs l) ∙ and_built-nil o

-- ---- what is placed, one by one

abbrev pub no-placed : Placed
no-placed = record { builtin = int_eq 0 0; atoms = [] }

placed-split : (c : Call) (cs : List Call) (ps : List Placed) → placed_all (c ∷ cs) ≡ Some ps →
    (p : Placed) × ((qs : List Placed) × ((placed_call c ≡ Some p) × (placed_all cs ≡ Some qs) × (p ∷ qs ≡ ps)))
unfolding placed_all
placed-split c cs ps e = go (placed_call c) (placed_all cs) e
  where
    go : (o : Option Placed) (q : Option (List Placed)) → option_and_then (λ p. option_and_then (λ qs. Some (p ∷ qs)) q) o ≡ Some ps →
        (p : Placed) × ((qs : List Placed) × ((o ≡ Some p) × (q ≡ Some qs) × (p ∷ qs ≡ ps)))
    go None q e = absurd cc
    go (Some p) None e = absurd cc
    go (Some p) (Some qs) e = (p, (qs, (refl, refl, cc)))

pub placed-length : (cs : List Call) (ps : List Placed) → placed_all cs ≡ Some ps → length ps ≡ length cs
unfolding placed_all
placed-length [] ps e = let h : [] ≡ ps = nil ps e in ap length (sym h)
  where
    nil : (qs : List Placed) → placed_all [] ≡ Some qs → [] ≡ qs
    nil qs e = cc
placed-length (c ∷ cs) ps e = let s = placed-split c cs ps e in ap length (sym s.1.1.2) ∙ ap suc (placed-length cs s.1.0 s.1.1.1)

pub placed-at : (cs : List Call) (ps : List Placed) → placed_all cs ≡ Some ps → (i : ℕ) (d : Call) → i < length cs → placed_call (get_or cs i d) ≡ Some (get_or ps i no-placed)
placed-at [] ps e i d l = absurd (omega arith)
placed-at (c ∷ cs) ps e zero d l = let s = placed-split c cs ps e in s.1.1.0 ∙ ap (λ (qs : List Placed). Some (get_or qs 0 no-placed)) s.1.1.2
placed-at (c ∷ cs) ps e (suc i) d l =
    let s = placed-split c cs ps e in placed-at cs s.1.0 s.1.1.1 i d (omega arith) ∙ ap (λ (qs : List Placed). Some (get_or qs (suc i) no-placed)) s.1.1.2

pub same-atoms : (cs : List Call) (ps : List Placed) → placed_all cs ≡ Some ps → calls_atoms cs ≡ atoms_of ps
unfolding calls_atoms atoms_of placed_all
same-atoms [] ps e = go ps e
  where
    go : (qs : List Placed) → placed_all [] ≡ Some qs → [] ≡ atoms_of qs
    go [] e = refl
    go (q ∷ qs) e = absurd cc
same-atoms (c ∷ cs) ps e =
    let s = placed-split c cs ps e in ap₂ ◌++◌ (sym (call_atoms c s.0 s.1.1.0)) (same-atoms cs s.1.0 s.1.1.1) ∙ ap atoms_of s.1.1.2

-- one call more: what is left of the placed ones
pub built-on : (f : Placed → Builtin) (new : List Call) (c : Call) (ps : List Placed) (i : ℕ) → i < length ps → built_call c ≡ Some (f (get_or ps i no-placed)) →
    and_built (built_all (new ++ c ∷ [])) (map f (drop (i + 1) ps)) ≡ and_built (built_all new) (map f (drop i ps))
built-on f new c ps i l e =
    let g : drop i ps ≡ get_or ps i no-placed ∷ drop (i + 1) ps = drop-cons ps i no-placed l ∙ rw add-one refl in
    ap (λ (o : Option (List Builtin)). and_built o (map f (drop (i + 1) ps))) (built-more new c ∙ ap (and_call (built_all new)) e)
    ∙ and_built-more (built_all new) (f (get_or ps i no-placed) ∷ []) (map f (drop (i + 1) ps))
    ∙ ap (λ (qs : List Placed). and_built (built_all new) (map f qs)) (sym g)

pub built-end : (f : Placed → Builtin) (o : Option (List Builtin)) (ps : List Placed) (i : ℕ) → length ps ≤ i → and_built o (map f (drop i ps)) ≡ o
built-end f o ps i l = ap (λ (qs : List Placed). and_built o (map f qs)) (drop_of_length-le ps l) ∙ and_built-nil o
