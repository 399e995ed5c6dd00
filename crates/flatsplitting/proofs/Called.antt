-- A call with a long list is cut as the list is.
use Rattle.std.proofs.Common.{◌≡◌, refl, sym, ap, ◌∙◌, subst, List, [], ◌∷◌, ◌++◌, append_assoc, ℕ, ◌+◌, ◌<◌, ◌≤◌, arith, lt-ltb, le-ltb, ℤ, length, take, drop, Some, Vec, Global}
use Rattle.std.specs.Prelude.{option_and_then, slice_set}
use Rattle.integers.specs.Number.{min_z, max_z}
use Rattle.integers.specs.Terms.{Term}
use Rattle.integers.specs.declared.Bounds.{Bounds}
use Rattle.models.specs.Builtin.{Builtin, int_lin_eq, int_lin_le, int_lin_ne, int_lin_eq_reif, int_lin_le_reif, int_lin_ne_reif, bool_clause, array_bool_and, array_int_maximum, array_int_minimum}
use Rattle.models.specs.Table.{Sort, integer, boolean, number, integers, booleans, parallel, Takes}
use Rattle.models.specs.Table.{Argument as Of}
use Rattle.models.specs.declared.code.Code.{Code}
use Rattle.models.specs.declared.code.Code.TheVariants as c
use Rattle.flatzinc.specs.declared.Atom.{Atom}
use Rattle.flatzinc.specs.declared.Product.{Product}
use Rattle.flatzinc.specs.declared.Argument.{Argument}
use Rattle.flatzinc.specs.declared.Argument.TheVariants.{Many, Sum}
use Rattle.flatzinc.specs.Seen.{row}
use Rattle.flatzinc.specs.System.{System}
use Rattle.flatzinc.specs.Calls.{numbers_of, terms_of, built_argument, built_arguments}
use Rattle.flatzinc.proofs.Built.{some_is, none_is, and_then}
use Rattle.flatsplitting.specs.declared.Lists.{Lists}
use Rattle.flatsplitting.specs.declared.Lists.TheVariants as l
use Rattle.flatsplitting.specs.declared.Reading.{Reading}
use Rattle.flatsplitting.specs.declared.Reading.TheVariants as way
use Rattle.flatsplitting.specs.Split.{cut, cut_sum, cut_all, cut_some, cut_best, split, cut_size}
use Rattle.flatsplitting.specs.Pieces.{Cutting, Pieces, cut_up, of_sum, of_all, of_some, of_best, of_list}
use Rattle.flatsplitting.specs.Added.{built_of}
use Rattle.flatsplitting.specs.Called.{lists_of, list_at, terms_at}
use Rattle.flatsplitting.proofs.Enough.{Uncut, short-uncut}
use Rattle.flatsplitting.proofs.Pieces.{by_length, first_cut, only_cut, last, short}

-- ---- builtins that are cut by one list

abbrev after_cut : {A : Type 0} → Cutting A → (List A → Builtin) → List Bounds → List A → Type 0
after_cut C make Bs xs =
    cut Bs (make xs) ≡ Some (record { part = C.part Bs (take C.at xs); defining = C.defining (length Bs) (take C.at xs); rest = make (drop C.at xs ++ C.named (length Bs) ∷ []) })

pub record CutBy {A : Type 0} (C : Cutting A) (make : List A → Builtin) : Type 0 where
  pub cuts : (Bs : List Bounds) (xs : List A) → 32 < length xs → after_cut C make Bs xs
  pub few : (xs : List A) → length xs ≤ 32 → Uncut (make xs)

lin_eq : (k : ℤ) → CutBy of_sum (λ us. int_lin_eq us k)
unfolding cut cut_sum
lin_eq k = record { cuts = λ Bs ts l. rw (lt-ltb 32 (length ts) l) refl; few = λ ts l. short-uncut (int_lin_eq ts k) l }

lin_le : (k : ℤ) → CutBy of_sum (λ us. int_lin_le us k)
unfolding cut cut_sum
lin_le k = record { cuts = λ Bs ts l. rw (lt-ltb 32 (length ts) l) refl; few = λ ts l. short-uncut (int_lin_le ts k) l }

lin_ne : (k : ℤ) → CutBy of_sum (λ us. int_lin_ne us k)
unfolding cut cut_sum
lin_ne k = record { cuts = λ Bs ts l. rw (lt-ltb 32 (length ts) l) refl; few = λ ts l. short-uncut (int_lin_ne ts k) l }

lin_eq_reif : (k : ℤ) (b : ℕ) → CutBy of_sum (λ us. int_lin_eq_reif us k b)
unfolding cut cut_sum
lin_eq_reif k b = record { cuts = λ Bs ts l. rw (lt-ltb 32 (length ts) l) refl; few = λ ts l. short-uncut (int_lin_eq_reif ts k b) l }

lin_le_reif : (k : ℤ) (b : ℕ) → CutBy of_sum (λ us. int_lin_le_reif us k b)
unfolding cut cut_sum
lin_le_reif k b = record { cuts = λ Bs ts l. rw (lt-ltb 32 (length ts) l) refl; few = λ ts l. short-uncut (int_lin_le_reif ts k b) l }

lin_ne_reif : (k : ℤ) (b : ℕ) → CutBy of_sum (λ us. int_lin_ne_reif us k b)
unfolding cut cut_sum
lin_ne_reif k b = record { cuts = λ Bs ts l. rw (lt-ltb 32 (length ts) l) refl; few = λ ts l. short-uncut (int_lin_ne_reif ts k b) l }

conjunction : (b : ℕ) → CutBy of_all (λ xs. array_bool_and xs b)
unfolding cut cut_all
conjunction b = record { cuts = λ Bs xs l. rw (lt-ltb 32 (length xs) l) refl; few = λ xs l. short-uncut (array_bool_and xs b) l }

maximum : (m : ℕ) → CutBy (of_best max_z array_int_maximum) (array_int_maximum m)
unfolding cut cut_best
maximum m = record { cuts = λ Bs xs l. rw (lt-ltb 32 (length xs) l) refl; few = λ xs l. short-uncut (array_int_maximum m xs) l }

minimum : (m : ℕ) → CutBy (of_best min_z array_int_minimum) (array_int_minimum m)
unfolding cut cut_best
minimum m = record { cuts = λ Bs xs l. rw (lt-ltb 32 (length xs) l) refl; few = λ xs l. short-uncut (array_int_minimum m xs) l }

positive : (ys : List ℕ) (Bs : List Bounds) (xs : List ℕ) → 32 < length xs → after_cut of_some (λ zs. bool_clause zs ys) Bs xs
unfolding cut cut_some
positive ys Bs xs l = rw (lt-ltb 32 (length xs) l) refl

negative : (xs : List ℕ) → length xs ≤ 32 → CutBy of_all (bool_clause xs)
unfolding cut cut_all
negative xs h = record {
  cuts = λ Bs ys l. rw (le-ltb 32 (length xs) h, lt-ltb 32 (length ys) l) refl;
  few = λ ys l Bs. rw (le-ltb 32 (length xs) h, le-ltb 32 (length ys) l) refl;
}

-- ---- what is left of a call

-- with the list that is left it is the builtin that is left
abbrev Rest : Code → List Argument → Builtin → System → Pieces ℕ → Type 0
Rest k hs b S p = (b' : Builtin) × ((built_of k hs ≡ Some b') × (S ≡ record { bounds = p.bounds; builtins = p.builtins ++ b' ∷ [] }))

abbrev RestSum : Code → List Argument → Builtin → System → Pieces (Term ℕ) → Type 0
RestSum k hs b S p = (b' : Builtin) × ((built_of k hs ≡ Some b') × (S ≡ record { bounds = p.bounds; builtins = p.builtins ++ b' ∷ [] }))

abbrev pub LeftOfSum : Code → List Argument → Builtin → Type 0
LeftOfSum k gs b =
    (ts : List (Term ℕ)) × ((terms_at gs 0 ≡ Some ts) × ((Bs : List Bounds) (v : Vec Product Global) → terms_of v.items ≡ Some (cut_up of_sum Bs ts).rest →
    RestSum k (slice_set gs 0 (Sum v)) b (split (cut_size b) Bs b) (cut_up of_sum Bs ts)))

abbrev pub LeftOfList : ℕ → Reading → Code → List Argument → Builtin → Type 0
LeftOfList at d k gs b =
    (xs : List ℕ) × ((list_at gs at ≡ Some xs) × ((Bs : List Bounds) (v : Vec Atom Global) → numbers_of v.items ≡ Some (cut_up (of_list d) Bs xs).rest →
    Rest k (slice_set gs at (Many v)) b (split (cut_size b) Bs b) (cut_up (of_list d) Bs xs)))

-- of a clause, first its positive part
abbrev pub LeftOfClause : Code → List Argument → Builtin → Type 0
LeftOfClause k gs b =
    (xs : List ℕ) × (ys : List ℕ) × ((list_at gs 0 ≡ Some xs) × ((Bs : List Bounds) (v : Vec Atom Global) → let p = cut_up of_some Bs xs in numbers_of v.items ≡ Some p.rest →
    (list_at (slice_set gs 0 (Many v)) 1 ≡ Some ys) × ((w : Vec Atom Global) → let q = cut_up of_all (Bs ++ p.bounds) ys in numbers_of w.items ≡ Some q.rest →
    Rest k (slice_set (slice_set gs 0 (Many v)) 1 (Many w)) b (split (cut_size b) Bs b) (record { bounds = p.bounds ++ q.bounds; builtins = p.builtins ++ q.builtins; rest = q.rest }))))

abbrev pub Left : Lists → Code → List Argument → Builtin → Type 0
Left l.OfSum k gs b = LeftOfSum k gs b
Left (l.First d) k gs b = LeftOfList 0 d k gs b
Left (l.Second d) k gs b = LeftOfList 1 d k gs b
Left l.OfClause k gs b = LeftOfClause k gs b
Left l.Nowhere k gs b = Uncut b

-- ---- a builtin of an argument and of others

-- whatever the others are, P holds of the builtin as a function of that argument
abbrev Each : {X : Type 0} → ((X → Builtin) → Type 0) → (ss : List Sort) → (X → Takes ss) → Type 0
Each P [] f = P f
Each P (s ∷ ss) f = (a : Of s) → Each P ss (λ x. f x a)

others : {X : Type 0} (P : (X → Builtin) → Type 0) (ss : List Sort) (f : X → Takes ss) (x : X) (hs : List Argument) (b : Builtin) → Each P ss f → built_arguments ss (f x) hs ≡ Some b →
    (m : X → Builtin) × (P m × (m x ≡ b) × ((y : X) → built_arguments ss (f y) hs ≡ Some (m y)))
unfolding built_arguments
others P [] f x [] b u e = (f, (u, some_is (f x) b e, λ y. refl))
others P [] f x (g ∷ gs) b u e = none_is b e
others P (s ∷ ss) f x [] b u e = none_is b e
others P (s ∷ ss) f x (g ∷ gs) b u e =
    let q = and_then (built_argument s g) (λ a. built_arguments ss (f x a) gs) b e in
    let r = others P ss (λ y. f y q.0) x gs b (u q.0) q.1.1 in
    (r.0, (r.1.0, r.1.1, λ y. ap (option_and_then (λ a. built_arguments ss (f y a) gs)) q.1.0 ∙ r.1.2 y))

-- ---- a list in front

sum_head : (ss : List Sort) (f : List (Term ℕ) → Takes ss) (gs : List Argument) (b : Builtin) → built_arguments (parallel ∷ ss) f gs ≡ Some b →
    (w : Vec Product Global) × (hs : List Argument) × (ts : List (Term ℕ)) × ((Sum w ∷ hs ≡ gs) × (terms_of w.items ≡ Some ts) × (built_arguments ss (f ts) hs ≡ Some b))
unfolding built_arguments built_argument
sum_head ss f [] b e = none_is b e
sum_head ss f (Sum w ∷ hs) b e = let q = and_then (terms_of w.items) (λ a. built_arguments ss (f a) hs) b e in (w, hs, q.0, (refl, q.1.0, q.1.1))
sum_head ss f (g ∷ hs) b e = none_is b e

booleans_head : (ss : List Sort) (f : List ℕ → Takes ss) (gs : List Argument) (b : Builtin) → built_arguments (booleans ∷ ss) f gs ≡ Some b →
    (w : Vec Atom Global) × (hs : List Argument) × (xs : List ℕ) × ((Many w ∷ hs ≡ gs) × (numbers_of w.items ≡ Some xs) × (built_arguments ss (f xs) hs ≡ Some b))
unfolding built_arguments built_argument
booleans_head ss f [] b e = none_is b e
booleans_head ss f (Many w ∷ hs) b e = let q = and_then (numbers_of w.items) (λ a. built_arguments ss (f a) hs) b e in (w, hs, q.0, (refl, q.1.0, q.1.1))
booleans_head ss f (g ∷ hs) b e = none_is b e

integers_head : (ss : List Sort) (f : List ℕ → Takes ss) (gs : List Argument) (b : Builtin) → built_arguments (integers ∷ ss) f gs ≡ Some b →
    (w : Vec Atom Global) × (hs : List Argument) × (xs : List ℕ) × ((Many w ∷ hs ≡ gs) × (numbers_of w.items ≡ Some xs) × (built_arguments ss (f xs) hs ≡ Some b))
unfolding built_arguments built_argument
integers_head ss f [] b e = none_is b e
integers_head ss f (Many w ∷ hs) b e = let q = and_then (numbers_of w.items) (λ a. built_arguments ss (f a) hs) b e in (w, hs, q.0, (refl, q.1.0, q.1.1))
integers_head ss f (g ∷ hs) b e = none_is b e

-- ---- what is left of calls of one list

module _ (k : Code) where
  sum_left : (ss : List Sort) (f : List (Term ℕ) → Takes ss) → ((gs : List Argument) → built_of k gs ≡ built_arguments (parallel ∷ ss) f gs) → Each (CutBy of_sum) ss f →
      (gs : List Argument) (b : Builtin) → built_of k gs ≡ Some b → LeftOfSum k gs b
  unfolding built_arguments built_argument
  sum_left ss f i u gs b e =
      let h = sum_head ss f gs b (sym (i gs) ∙ e) in
      let w = h.0 in
      let hs = h.1 in
      let ts = h.2 in
      let r = others (CutBy of_sum) ss f ts hs b u h.3.2 in
      let m = r.0 in
      let of_these : LeftOfSum k (Sum w ∷ hs) (m ts) = (
        ts,
        (
          h.3.1,
          λ Bs v n.
              let p = cut_up of_sum Bs ts in (
                m p.rest,
                (
                  i (Sum v ∷ hs) ∙ ap (option_and_then (λ a. built_arguments ss (f a) hs)) n ∙ r.1.2 p.rest,
                  only_cut of_sum (omega arith) (omega arith) m r.1.0.cuts r.1.0.few (cut_size (m ts)) Bs ts (omega arith),
                ),
              ),
        ),
      ) in
      subst (λ (l : List Argument). LeftOfSum k l b) h.3.0 (subst (λ (d : Builtin). LeftOfSum k (Sum w ∷ hs) d) r.1.1 of_these)

  all_left : (ss : List Sort) (f : List ℕ → Takes ss) → ((gs : List Argument) → built_of k gs ≡ built_arguments (booleans ∷ ss) f gs) → Each (CutBy of_all) ss f →
      (gs : List Argument) (b : Builtin) → built_of k gs ≡ Some b → LeftOfList 0 way.All k gs b
  unfolding built_arguments built_argument
  all_left ss f i u gs b e =
      let h = booleans_head ss f gs b (sym (i gs) ∙ e) in
      let w = h.0 in
      let hs = h.1 in
      let xs = h.2 in
      let r = others (CutBy of_all) ss f xs hs b u h.3.2 in
      let m = r.0 in
      let of_these : LeftOfList 0 way.All k (Many w ∷ hs) (m xs) = (
        xs,
        (
          h.3.1,
          λ Bs v n.
              let p = cut_up of_all Bs xs in (
                m p.rest,
                (
                  i (Many v ∷ hs) ∙ ap (option_and_then (λ a. built_arguments ss (f a) hs)) n ∙ r.1.2 p.rest,
                  only_cut of_all (omega arith) (omega arith) m r.1.0.cuts r.1.0.few (cut_size (m xs)) Bs xs (omega arith),
                ),
              ),
        ),
      ) in
      subst (λ (l : List Argument). LeftOfList 0 way.All k l b) h.3.0 (subst (λ (d : Builtin). LeftOfList 0 way.All k (Many w ∷ hs) d) r.1.1 of_these)

  best_left : (d : Reading) (two : 1 < (of_list d).at) (few : (of_list d).at ≤ 32) (f : ℕ → List ℕ → Builtin) → ((gs : List Argument) → built_of k gs ≡ built_arguments (integer ∷ integers ∷ []) f gs) →
      ((n : ℕ) → CutBy (of_list d) (f n)) → (gs : List Argument) (b : Builtin) → built_of k gs ≡ Some b → LeftOfList 1 d k gs b
  unfolding built_arguments built_argument
  best_left d two few f i u [] b e = none_is b (sym (i []) ∙ e)
  best_left d two few f i u (g ∷ gs) b e =
      let q = and_then (built_argument integer g) (λ n. built_arguments (integers ∷ []) (f n) gs) b (sym (i (g ∷ gs)) ∙ e) in
      let n = q.0 in
      let h = integers_head [] (f n) gs b q.1.1 in
      let w = h.0 in
      let hs = h.1 in
      let xs = h.2 in
      let r = others (CutBy (of_list d)) [] (f n) xs hs b (u n) h.3.2 in
      let m = r.0 in
      let of_these : LeftOfList 1 d k (g ∷ Many w ∷ hs) (m xs) = (
        xs,
        (
          h.3.1,
          λ Bs v j.
              let p = cut_up (of_list d) Bs xs in (
                m p.rest,
                (
                  i (g ∷ Many v ∷ hs) ∙ ap (option_and_then (λ a. built_arguments (integers ∷ []) (f a) (Many v ∷ hs))) q.1.0 ∙ ap (option_and_then (λ a. built_arguments [] (f n a) hs)) j ∙ r.1.2 p.rest,
                  only_cut (of_list d) two few m r.1.0.cuts r.1.0.few (cut_size (m xs)) Bs xs (omega arith),
                ),
              ),
        ),
      ) in
      subst (λ (l : List Argument). LeftOfList 1 d k (g ∷ l) b) h.3.0 (subst (λ (x : Builtin). LeftOfList 1 d k (g ∷ Many w ∷ hs) x) r.1.1 of_these)

  -- a builtin without such a list
  nowhere : (ss : List Sort) (f : Takes ss) → ((gs : List Argument) → built_of k gs ≡ built_arguments ss f gs) → Each {X = Unit {0}} (λ m. Uncut (m tt)) ss (λ u. f) →
      (gs : List Argument) (b : Builtin) → built_of k gs ≡ Some b → Uncut b
  nowhere ss f i u gs b e =
      let r = others {X = Unit {0}} (λ m. Uncut (m tt)) ss (λ x. f) tt gs b u (sym (i gs) ∙ e) in subst Uncut r.1.1 r.1.0

-- ---- a clause: its positive part is cut, then its negative one

-- what is left of a list is no longer than the list was
no_longer : (Bs : List Bounds) (xs : List ℕ) → length (cut_up of_some Bs xs).rest ≤ length xs
no_longer Bs xs = by_length (length xs) 32 (λ l. rw (last of_some (omega arith) (omega arith) Bs xs l) (omega arith)) (λ l. let s = short of_some (omega arith) (omega arith) (length xs) Bs xs (omega arith) in omega arith)

clause_cut : (Bs : List Bounds) (xs ys : List ℕ) →
    let p = cut_up of_some Bs xs in
    let q = cut_up of_all (Bs ++ p.bounds) ys in
    split (cut_size (bool_clause xs ys)) Bs (bool_clause xs ys) ≡ record { bounds = p.bounds ++ q.bounds; builtins = (p.builtins ++ q.builtins) ++ bool_clause p.rest q.rest ∷ [] }
clause_cut Bs xs ys =
    let g = length xs + length ys in
    let p = cut_up of_some Bs xs in
    let Ds = Bs ++ p.bounds in
    let q = cut_up of_all Ds ys in
    let s = short of_some (omega arith) (omega arith) (length xs) Bs xs (omega arith) in
    let n = no_longer Bs xs in
    let neg = negative p.rest s in
    first_cut of_some (omega arith) (omega arith) (λ zs. bool_clause zs ys) (positive ys) (length xs) g Bs xs (omega arith) (omega arith)
    ∙ ap (λ (S : System). record { bounds = p.bounds ++ S.bounds; builtins = p.builtins ++ S.builtins })
    (only_cut of_all (omega arith) (omega arith) (bool_clause p.rest) neg.cuts neg.few g Ds ys (omega arith))
    ∙ ap (λ (bs : List Builtin). record { bounds = p.bounds ++ q.bounds; builtins = bs }) (sym (append_assoc p.builtins q.builtins (bool_clause p.rest q.rest ∷ [])))

clause_left : (gs : List Argument) (b : Builtin) → built_of c.BoolClause gs ≡ Some b → LeftOfClause c.BoolClause gs b
unfolding built_arguments built_argument
clause_left gs b e =
    let h = booleans_head (booleans ∷ []) bool_clause gs b e in
    let v = h.0 in
    let xs = h.2 in
    let j = booleans_head [] (bool_clause xs) h.1 b h.3.2 in
    let w = j.0 in
    let ys = j.2 in
    by_rest v w xs ys h.3.1 j.3.1 j.1 gs b j.3.2 (ap (λ (l : List Argument). Many v ∷ l) j.3.0 ∙ h.3.0)
  where
    by_rest : (v w : Vec Atom Global) (xs ys : List ℕ) → numbers_of v.items ≡ Some xs → numbers_of w.items ≡ Some ys → (hs : List Argument) (gs : List Argument) (b : Builtin) →
        built_arguments [] (bool_clause xs ys) hs ≡ Some b → Many v ∷ Many w ∷ hs ≡ gs → LeftOfClause c.BoolClause gs b
    by_rest v w xs ys n m [] gs b e f =
        let of_these : LeftOfClause c.BoolClause (Many v ∷ Many w ∷ []) (bool_clause xs ys) = (
          xs,
          ys,
          (
            n,
            λ Bs x i. (
              m,
              λ y j.
                  let p = cut_up of_some Bs xs in let q = cut_up of_all (Bs ++ p.bounds) ys in (bool_clause p.rest q.rest, (rw (i, j) refl, clause_cut Bs xs ys)),
            ),
          ),
        ) in
        subst (λ (l : List Argument). LeftOfClause c.BoolClause l b) f (subst (λ (d : Builtin). LeftOfClause c.BoolClause (Many v ∷ Many w ∷ []) d) (some_is (bool_clause xs ys) b e) of_these)
    by_rest v w xs ys n m (g ∷ hs) gs b e f = none_is b e

-- ---- every call

pub left : (k : Code) (gs : List Argument) (b : Builtin) → built_of k gs ≡ Some b → Left (lists_of k) k gs b
unfolding cut
left c.IntLinEq = sum_left c.IntLinEq (number ∷ []) int_lin_eq (λ gs. refl) lin_eq
left c.IntLinLe = sum_left c.IntLinLe (number ∷ []) int_lin_le (λ gs. refl) lin_le
left c.IntLinNe = sum_left c.IntLinNe (number ∷ []) int_lin_ne (λ gs. refl) lin_ne
left c.IntLinEqReif = sum_left c.IntLinEqReif (number ∷ boolean ∷ []) int_lin_eq_reif (λ gs. refl) lin_eq_reif
left c.IntLinLeReif = sum_left c.IntLinLeReif (number ∷ boolean ∷ []) int_lin_le_reif (λ gs. refl) lin_le_reif
left c.IntLinNeReif = sum_left c.IntLinNeReif (number ∷ boolean ∷ []) int_lin_ne_reif (λ gs. refl) lin_ne_reif
left c.ArrayBoolAnd = all_left c.ArrayBoolAnd (boolean ∷ []) array_bool_and (λ gs. refl) conjunction
left c.BoolClause = clause_left
left c.ArrayIntMaximum = best_left c.ArrayIntMaximum way.Largest (omega arith) (omega arith) array_int_maximum (λ gs. refl) maximum
left c.ArrayIntMinimum = best_left c.ArrayIntMinimum way.Least (omega arith) (omega arith) array_int_minimum (λ gs. refl) minimum
left c.IntEq = nowhere c.IntEq (row c.IntEq).sorts (row c.IntEq).make (λ gs. refl) (λ x y Bs. refl)
left c.IntLe = nowhere c.IntLe (row c.IntLe).sorts (row c.IntLe).make (λ gs. refl) (λ x y Bs. refl)
left c.IntLt = nowhere c.IntLt (row c.IntLt).sorts (row c.IntLt).make (λ gs. refl) (λ x y Bs. refl)
left c.IntNe = nowhere c.IntNe (row c.IntNe).sorts (row c.IntNe).make (λ gs. refl) (λ x y Bs. refl)
left c.IntLeReif = nowhere c.IntLeReif (row c.IntLeReif).sorts (row c.IntLeReif).make (λ gs. refl) (λ x y z Bs. refl)
left c.IntPlus = nowhere c.IntPlus (row c.IntPlus).sorts (row c.IntPlus).make (λ gs. refl) (λ x y z Bs. refl)
left c.IntTimes = nowhere c.IntTimes (row c.IntTimes).sorts (row c.IntTimes).make (λ gs. refl) (λ x y z Bs. refl)
left c.IntAbs = nowhere c.IntAbs (row c.IntAbs).sorts (row c.IntAbs).make (λ gs. refl) (λ x y Bs. refl)
left c.IntMax = nowhere c.IntMax (row c.IntMax).sorts (row c.IntMax).make (λ gs. refl) (λ x y z Bs. refl)
left c.IntEqReif = nowhere c.IntEqReif (row c.IntEqReif).sorts (row c.IntEqReif).make (λ gs. refl) (λ x y z Bs. refl)
left c.Bool2int = nowhere c.Bool2int (row c.Bool2int).sorts (row c.Bool2int).make (λ gs. refl) (λ x y Bs. refl)
left c.BoolNot = nowhere c.BoolNot (row c.BoolNot).sorts (row c.BoolNot).make (λ gs. refl) (λ x y Bs. refl)
left c.BoolAnd = nowhere c.BoolAnd (row c.BoolAnd).sorts (row c.BoolAnd).make (λ gs. refl) (λ x y z Bs. refl)
left c.BoolOr = nowhere c.BoolOr (row c.BoolOr).sorts (row c.BoolOr).make (λ gs. refl) (λ x y z Bs. refl)
left c.BoolXor = nowhere c.BoolXor (row c.BoolXor).sorts (row c.BoolXor).make (λ gs. refl) (λ x y z Bs. refl)
left c.ArrayBoolXor = nowhere c.ArrayBoolXor (row c.ArrayBoolXor).sorts (row c.ArrayBoolXor).make (λ gs. refl) (λ x Bs. refl)
left c.ArrayIntElement = nowhere c.ArrayIntElement (row c.ArrayIntElement).sorts (row c.ArrayIntElement).make (λ gs. refl) (λ x y z Bs. refl)
left c.ArrayVarIntElement = nowhere c.ArrayVarIntElement (row c.ArrayVarIntElement).sorts (row c.ArrayVarIntElement).make (λ gs. refl) (λ x y z Bs. refl)
left c.SetIn = nowhere c.SetIn (row c.SetIn).sorts (row c.SetIn).make (λ gs. refl) (λ x y Bs. refl)
left c.SetInReif = nowhere c.SetInReif (row c.SetInReif).sorts (row c.SetInReif).make (λ gs. refl) (λ x y z Bs. refl)
left c.IntMin = nowhere c.IntMin (row c.IntMin).sorts (row c.IntMin).make (λ gs. refl) (λ x y z Bs. refl)
left c.IntLtReif = nowhere c.IntLtReif (row c.IntLtReif).sorts (row c.IntLtReif).make (λ gs. refl) (λ x y z Bs. refl)
left c.IntNeReif = nowhere c.IntNeReif (row c.IntNeReif).sorts (row c.IntNeReif).make (λ gs. refl) (λ x y z Bs. refl)
left c.BoolEqReif = nowhere c.BoolEqReif (row c.BoolEqReif).sorts (row c.BoolEqReif).make (λ gs. refl) (λ x y z Bs. refl)
left c.BoolLeReif = nowhere c.BoolLeReif (row c.BoolLeReif).sorts (row c.BoolLeReif).make (λ gs. refl) (λ x y z Bs. refl)
left c.BoolLtReif = nowhere c.BoolLtReif (row c.BoolLtReif).sorts (row c.BoolLtReif).make (λ gs. refl) (λ x y z Bs. refl)
left c.IntDiv = nowhere c.IntDiv (row c.IntDiv).sorts (row c.IntDiv).make (λ gs. refl) (λ x y z Bs. refl)
left c.IntMod = nowhere c.IntMod (row c.IntMod).sorts (row c.IntMod).make (λ gs. refl) (λ x y z Bs. refl)
left c.IntPow = nowhere c.IntPow (row c.IntPow).sorts (row c.IntPow).make (λ gs. refl) (λ x y z Bs. refl)
