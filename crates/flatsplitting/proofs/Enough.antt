-- Cut as often as a builtin has elements, nothing is left that a cut is needed for.
use Rattle.std.proofs.Common.{◌≡◌, refl, sym, subst, Bool, true, false, List, [], ◌∷◌, ◌++◌, map, ℕ, zero, suc, ◌+◌, ◌<◌, ◌≤◌, arith, ltb, ltb-true, ltb-false, le-ltb, length, length-append, length-drop, take, drop, Option, Some, None}
use Rattle.std.proofs.lemmas.List.{length-take-le}
use Rattle.integers.specs.Choice.{◌if◌else◌}
use Rattle.integers.specs.Number.{+0, +1, -1}
use Rattle.integers.specs.Terms.{◌·◌}
use Rattle.integers.specs.declared.Bounds.{Bounds}
use Rattle.integers.proofs.Lists.{all_append, all_implies}
use Rattle.integers.proofs.Tests.{All}
use Rattle.words.specs.Limit as Limit
use Rattle.models.specs.Builtin.{Builtin, int_lin_eq, int_lin_le, int_lin_ne, int_lin_eq_reif, int_lin_le_reif, bool_clause, array_bool_and, array_int_maximum, int_lin_ne_reif, array_int_minimum}
use Rattle.flatsplitting.specs.Split.{Cut, cut, cut_sum, cut_all, cut_some, cut_best, with_cut, split, split_all, cut_size}
use Rattle.flatzinc.proofs.Plain.{the-list, no_list}

-- no cut is needed, whatever the bounds
abbrev pub Uncut : Builtin → Type 0
Uncut b = (Bs : List Bounds) → cut Bs b ≡ None

pub short-uncut : (b : Builtin) → cut_size b ≤ 32 → Uncut b
unfolding cut
short-uncut (int_lin_eq ts c) l Bs = rw (le-ltb 32 (length ts) l) refl
short-uncut (int_lin_le ts c) l Bs = rw (le-ltb 32 (length ts) l) refl
short-uncut (int_lin_ne ts c) l Bs = rw (le-ltb 32 (length ts) l) refl
short-uncut (int_lin_eq_reif ts c r) l Bs = rw (le-ltb 32 (length ts) l) refl
short-uncut (int_lin_le_reif ts c r) l Bs = rw (le-ltb 32 (length ts) l) refl
short-uncut (int_lin_ne_reif ts c r) l Bs = rw (le-ltb 32 (length ts) l) refl
short-uncut (array_bool_and xs r) l Bs = rw (le-ltb 32 (length xs) l) refl
short-uncut (bool_clause xs ys) l Bs = rw (le-ltb 32 (length xs) (omega arith), le-ltb 32 (length ys) (omega arith)) refl
short-uncut (array_int_maximum m xs) l Bs = rw (le-ltb 32 (length xs) l) refl
short-uncut (array_int_minimum m xs) l Bs = rw (le-ltb 32 (length xs) l) refl
short-uncut b l Bs = refl

-- what a cut leaves: its own builtins need none, and the rest has fewer elements
pub record CutsDown (b : Builtin) (c : Cut) : Type 0 where
  pub own : All Uncut c.defining
  pub less : cut_size c.rest < cut_size b

module _ {A : Type 0} (k : ℕ) (xs : List A) (x : A) (l : k < length xs) where
  first-size : length (take k xs ++ x ∷ []) ≡ k + 1
  first-size = let a = length-append (take k xs) (x ∷ []) in let t = length-take-le k xs (omega arith) in omega arith

  rest-size : length (drop k xs ++ x ∷ []) + k ≡ length xs + 1
  rest-size = let a = length-append (drop k xs) (x ∷ []) in let t = length-drop k xs in omega arith

module _ (b : Builtin) (c : Cut) where
  down : (t : Bool) (d : Cut) (o : Option Cut) → (t ≡ true → CutsDown b d) → (o ≡ Some c → CutsDown b c) → (Some d if t else o) ≡ Some c → CutsDown b c
  down true d o p q e = subst (λ (x : Cut). CutsDown b x) (the-list d c e) (p refl)
  down false d o p q e = q e

longer : (n : ℕ) → ltb Limit.list_length n ≡ true → 32 < n
longer n e = ltb-true Limit.list_length n e

small-pairs : (n : ℕ) (xs : List ℕ) → All Uncut (map (λ x. bool_clause (n ∷ []) (x ∷ [])) xs)
small-pairs n [] = tt
small-pairs n (x ∷ xs) = (short-uncut (bool_clause (n ∷ []) (x ∷ [])) (omega arith), small-pairs n xs)

pub cuts-down : (Bs : List Bounds) (b : Builtin) (c : Cut) → cut Bs b ≡ Some c → CutsDown b c
unfolding cut cut_sum cut_all cut_some cut_best
cuts-down Bs (int_lin_eq ts k) c e =
    down (int_lin_eq ts k) c (ltb Limit.list_length (length ts)) _ None
    (λ t. let l = longer (length ts) t in let p = first-size 31 ts (-1 · length Bs) (omega arith) in let s = rest-size 31 ts (+1 · length Bs) (omega arith) in
    record { own = (short-uncut (int_lin_eq (take 31 ts ++ (-1 · length Bs) ∷ []) +0) (omega arith), tt); less = omega arith }) (no_list c) e
cuts-down Bs (int_lin_le ts k) c e =
    down (int_lin_le ts k) c (ltb Limit.list_length (length ts)) _ None
    (λ t. let l = longer (length ts) t in let p = first-size 31 ts (-1 · length Bs) (omega arith) in let s = rest-size 31 ts (+1 · length Bs) (omega arith) in
    record { own = (short-uncut (int_lin_eq (take 31 ts ++ (-1 · length Bs) ∷ []) +0) (omega arith), tt); less = omega arith }) (no_list c) e
cuts-down Bs (int_lin_ne ts k) c e =
    down (int_lin_ne ts k) c (ltb Limit.list_length (length ts)) _ None
    (λ t. let l = longer (length ts) t in let p = first-size 31 ts (-1 · length Bs) (omega arith) in let s = rest-size 31 ts (+1 · length Bs) (omega arith) in
    record { own = (short-uncut (int_lin_eq (take 31 ts ++ (-1 · length Bs) ∷ []) +0) (omega arith), tt); less = omega arith }) (no_list c) e
cuts-down Bs (int_lin_eq_reif ts k r) c e =
    down (int_lin_eq_reif ts k r) c (ltb Limit.list_length (length ts)) _ None
    (λ t. let l = longer (length ts) t in let p = first-size 31 ts (-1 · length Bs) (omega arith) in let s = rest-size 31 ts (+1 · length Bs) (omega arith) in
    record { own = (short-uncut (int_lin_eq (take 31 ts ++ (-1 · length Bs) ∷ []) +0) (omega arith), tt); less = omega arith }) (no_list c) e
cuts-down Bs (int_lin_le_reif ts k r) c e =
    down (int_lin_le_reif ts k r) c (ltb Limit.list_length (length ts)) _ None
    (λ t. let l = longer (length ts) t in let p = first-size 31 ts (-1 · length Bs) (omega arith) in let s = rest-size 31 ts (+1 · length Bs) (omega arith) in
    record { own = (short-uncut (int_lin_eq (take 31 ts ++ (-1 · length Bs) ∷ []) +0) (omega arith), tt); less = omega arith }) (no_list c) e
cuts-down Bs (int_lin_ne_reif ts k r) c e =
    down (int_lin_ne_reif ts k r) c (ltb Limit.list_length (length ts)) _ None
    (λ t. let l = longer (length ts) t in let p = first-size 31 ts (-1 · length Bs) (omega arith) in let s = rest-size 31 ts (+1 · length Bs) (omega arith) in
    record { own = (short-uncut (int_lin_eq (take 31 ts ++ (-1 · length Bs) ∷ []) +0) (omega arith), tt); less = omega arith }) (no_list c) e
cuts-down Bs (array_bool_and xs r) c e =
    down (array_bool_and xs r) c (ltb Limit.list_length (length xs)) _ None
    (λ t. let l = longer (length xs) t in let k = length-take-le 32 xs (omega arith) in let s = rest-size 32 xs (length Bs) l in
    record { own = (short-uncut (array_bool_and (take 32 xs) (length Bs)) (omega arith), tt); less = omega arith }) (no_list c) e
cuts-down Bs (bool_clause xs ys) c e =
    down (bool_clause xs ys) c (ltb Limit.list_length (length xs)) _ _
    (λ t. let l = longer (length xs) t in let k = length-take-le 31 xs (omega arith) in let s = rest-size 31 xs (length Bs) (omega arith) in
    record { own = (short-uncut (bool_clause (take 31 xs) (length Bs ∷ [])) (omega arith), small-pairs (length Bs) (take 31 xs)); less = omega arith })
    (down (bool_clause xs ys) c (ltb Limit.list_length (length ys)) _ None
    (λ t. let l = longer (length ys) t in let k = length-take-le 32 ys (omega arith) in let s = rest-size 32 ys (length Bs) l in
    record { own = (short-uncut (array_bool_and (take 32 ys) (length Bs)) (omega arith), tt); less = omega arith }) (no_list c)) e
cuts-down Bs (array_int_maximum m xs) c e =
    down (array_int_maximum m xs) c (ltb Limit.list_length (length xs)) _ None
    (λ t. let l = longer (length xs) t in let k = length-take-le 32 xs (omega arith) in let s = rest-size 32 xs (length Bs) l in
    record { own = (short-uncut (array_int_maximum (length Bs) (take 32 xs)) (omega arith), tt); less = omega arith }) (no_list c) e
cuts-down Bs (array_int_minimum m xs) c e =
    down (array_int_minimum m xs) c (ltb Limit.list_length (length xs)) _ None
    (λ t. let l = longer (length xs) t in let k = length-take-le 32 xs (omega arith) in let s = rest-size 32 xs (length Bs) l in
    record { own = (short-uncut (array_int_minimum (length Bs) (take 32 xs)) (omega arith), tt); less = omega arith }) (no_list c) e
cuts-down Bs b c e = no_list c e

-- a builtin of which no cut is made with these bounds needs none
not-cut : (t : Bool) (d : Cut) (o : Option Cut) → (Some d if t else o) ≡ None → (t ≡ false) × (o ≡ None)
not-cut true d o e = no_list d (sym e)
not-cut false d o e = (refl, e)

stays-uncut : (Bs : List Bounds) (b : Builtin) → cut Bs b ≡ None → Uncut b
unfolding cut
stays-uncut Bs (int_lin_eq ts c) e Ds = rw (not-cut (ltb Limit.list_length (length ts)) _ None e).0 refl
stays-uncut Bs (int_lin_le ts c) e Ds = rw (not-cut (ltb Limit.list_length (length ts)) _ None e).0 refl
stays-uncut Bs (int_lin_ne ts c) e Ds = rw (not-cut (ltb Limit.list_length (length ts)) _ None e).0 refl
stays-uncut Bs (int_lin_eq_reif ts c r) e Ds = rw (not-cut (ltb Limit.list_length (length ts)) _ None e).0 refl
stays-uncut Bs (int_lin_le_reif ts c r) e Ds = rw (not-cut (ltb Limit.list_length (length ts)) _ None e).0 refl
stays-uncut Bs (int_lin_ne_reif ts c r) e Ds = rw (not-cut (ltb Limit.list_length (length ts)) _ None e).0 refl
stays-uncut Bs (array_bool_and xs r) e Ds = rw (not-cut (ltb Limit.list_length (length xs)) _ None e).0 refl
stays-uncut Bs (array_int_maximum m xs) e Ds = rw (not-cut (ltb Limit.list_length (length xs)) _ None e).0 refl
stays-uncut Bs (array_int_minimum m xs) e Ds = rw (not-cut (ltb Limit.list_length (length xs)) _ None e).0 refl
stays-uncut Bs (bool_clause xs ys) e Ds =
    let p = not-cut (ltb Limit.list_length (length xs)) _ _ e in
    let q = not-cut (ltb Limit.list_length (length ys)) _ None p.1 in
    rw (p.0, q.0) refl
stays-uncut Bs b e Ds = refl

pub enough_cuts : (f : ℕ) (Bs : List Bounds) (b : Builtin) → cut_size b ≤ f → All Uncut (split f Bs b).builtins
unfolding split with_cut
enough_cuts zero Bs b l = (short-uncut b (omega arith), tt)
enough_cuts (suc f) Bs b l = go (λ Cs d k. enough_cuts f Cs d k) (cut Bs b) refl
  where
    go : ((Cs : List Bounds) (d : Builtin) → cut_size d ≤ f → All Uncut (split f Cs d).builtins) → (o : Option Cut) → cut Bs b ≡ o → All Uncut (with_cut (split f) Bs b o).builtins
    go again None e = (stays-uncut Bs b e, tt)
    go again (Some c) e =
        let d = cuts-down Bs b c e in
        (all_append Uncut c.defining (split f (Bs ++ c.part ∷ []) c.rest).builtins).1 (d.own, again (Bs ++ c.part ∷ []) c.rest (let h = d.less in omega arith))

-- and of a list of builtins, each cut as often as the largest needs
pub enough_all : (f : ℕ) (Bs : List Bounds) (bs : List Builtin) → All (λ b. cut_size b ≤ f) bs → All Uncut (split_all f Bs bs).builtins
unfolding split_all
enough_all f Bs [] h = tt
enough_all f Bs (b ∷ bs) h =
    let S = split f Bs b in
    (all_append Uncut S.builtins (split_all f (Bs ++ S.bounds) bs).builtins).1 (enough_cuts f Bs b h.0, enough_all f (Bs ++ S.bounds) bs h.1)

-- ---- where no cut is left, the lists that can be cut have at most 32 elements

abbrev pub Short : Builtin → Type 0
Short (int_lin_eq ts c) = length ts ≤ 32
Short (int_lin_le ts c) = length ts ≤ 32
Short (int_lin_ne ts c) = length ts ≤ 32
Short (int_lin_eq_reif ts c r) = length ts ≤ 32
Short (int_lin_le_reif ts c r) = length ts ≤ 32
Short (int_lin_ne_reif ts c r) = length ts ≤ 32
Short (array_bool_and xs r) = length xs ≤ 32
Short (bool_clause xs ys) = (length xs ≤ 32) × (length ys ≤ 32)
Short (array_int_maximum m xs) = length xs ≤ 32
Short (array_int_minimum m xs) = length xs ≤ 32
Short b = Unit {0}

at-most : (n : ℕ) (d : Cut) (o : Option Cut) → (Some d if ltb Limit.list_length n else o) ≡ None → n ≤ 32
at-most n d o e = ltb-false Limit.list_length n (not-cut (ltb Limit.list_length n) d o e).0

pub uncut-short : (b : Builtin) → Uncut b → Short b
unfolding cut
uncut-short (int_lin_eq ts c) u = at-most (length ts) _ None (u [])
uncut-short (int_lin_le ts c) u = at-most (length ts) _ None (u [])
uncut-short (int_lin_ne ts c) u = at-most (length ts) _ None (u [])
uncut-short (int_lin_eq_reif ts c r) u = at-most (length ts) _ None (u [])
uncut-short (int_lin_le_reif ts c r) u = at-most (length ts) _ None (u [])
uncut-short (int_lin_ne_reif ts c r) u = at-most (length ts) _ None (u [])
uncut-short (array_bool_and xs r) u = at-most (length xs) _ None (u [])
uncut-short (array_int_maximum m xs) u = at-most (length xs) _ None (u [])
uncut-short (array_int_minimum m xs) u = at-most (length xs) _ None (u [])
uncut-short (bool_clause xs ys) u = (at-most (length xs) _ _ (u []), at-most (length ys) _ None (not-cut (ltb Limit.list_length (length xs)) _ _ (u [])).1)
uncut-short b u = tt

pub all_short : (f : ℕ) (Bs : List Bounds) (bs : List Builtin) → All (λ b. cut_size b ≤ f) bs → All Short (split_all f Bs bs).builtins
all_short f Bs bs h = all_implies Uncut Short uncut-short (split_all f Bs bs).builtins (enough_all f Bs bs h)
