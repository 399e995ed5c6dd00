-- Looking a name up, token by token. For `variable_of`, the symbol table, and names that are printed.
use Rattle.std.proofs.Common.{◌≡◌, refl, sym, ap, ◌∙◌, Bool, true, false, List, [], ◌∷◌, ◌++◌, map, drop, drop-cons, drop_of_length-le, get_or, ℕ, suc, ◌+◌, ◌<◌, ◌≤◌, add-zero, arith, eqb, length, eq-eqb, ne_eqb, lt-ltb, le-ltb}
use Rattle.integers.specs.Choice.{◌if◌else◌}
use Rattle.tokens.specs.Token.{Token}
use Rattle.names.specs.Name.{same, look_up, declared_from}

-- ---- a name is the same as itself

pub same_self : (x : List ℕ) → same x x ≡ true
same_self [] = refl
same_self (b ∷ bs) = rw (eq-eqb b b refl) (same_self bs)

-- ---- a name among names and others after them: the first that is the same counts

pub look_append : (x : List ℕ) (k : ℕ) (xs ys : List (List ℕ)) → look_up x k (xs ++ ys) ≡ (look_up x (k + length xs) ys if eqb (look_up x k xs) 0 else look_up x k xs)
unfolding look_up
look_append x k [] ys = ap (λ (n : ℕ). look_up x n ys) (sym (add-zero k))
look_append x k (y ∷ xs) ys = go (same x y) (look_append x (k + 1) xs ys)
  where
    go : (b : Bool) → look_up x (k + 1) (xs ++ ys) ≡ (look_up x (k + 1 + length xs) ys if eqb (look_up x (k + 1) xs) 0 else look_up x (k + 1) xs)
        → (k + 1 if b else look_up x (k + 1) (xs ++ ys)) ≡ (look_up x (k + suc (length xs)) ys if eqb (k + 1 if b else look_up x (k + 1) xs) 0 else (k + 1 if b else look_up x (k + 1) xs))
    go true i = rw (ne_eqb (k + 1) 0 (λ e. omega (arith, e)))
    go false i =
        let e : k + 1 + length xs ≡ k + suc (length xs) = omega arith in
        i ∙ ap (λ (n : ℕ). look_up x n ys if eqb (look_up x (k + 1) xs) 0 else look_up x (k + 1) xs) e

-- ---- a name among those of a list, from a place on

module _ {A : Type 0} (f : A → List ℕ) (x : List ℕ) (xs : List A) (k : ℕ) (d : A) where
  pub names-end : length xs ≤ k → look_up x k (map f (drop k xs)) ≡ 0
  unfolding look_up
  names-end h = rw (drop_of_length-le xs h)

  pub names-here : k < length xs → same x (f (get_or xs k d)) ≡ true → look_up x k (map f (drop k xs)) ≡ k + 1
  unfolding look_up
  names-here h s = rw (drop-cons xs k d h, s)

  pub names-on : k < length xs → same x (f (get_or xs k d)) ≡ false → look_up x k (map f (drop k xs)) ≡ look_up x (k + 1) (map f (drop (k + 1) xs))
  unfolding look_up
  names-on h s = let e : suc k ≡ k + 1 = omega arith in rw (drop-cons xs k d h, s) (ap (λ (n : ℕ). look_up x (k + 1) (map f (drop n xs))) e)

-- ---- a name among the declared ones

module _ (x : List ℕ) (k p : ℕ) (after_colon : Bool) where
  pub look_end : {ts : List Token} → ts ≡ [] → look_up x k (declared_from after_colon p ts) ≡ 0
  unfolding look_up declared_from
  look_end q = rw q

  module _ (t : Token) {ts us : List Token} (q : ts ≡ t ∷ us) where
    pub look_past : p ≤ t.place → look_up x k (declared_from after_colon p ts) ≡ 0
    unfolding look_up declared_from
    look_past h = rw (q, le-ltb t.place p h)

module _ (x : List ℕ) (k p : ℕ) (t : Token) {ts us : List Token} (q : ts ≡ t ∷ us) (h : t.place < p) where
  pub look_here : same x t.spelling ≡ true → look_up x k (declared_from true p ts) ≡ k + 1
  unfolding look_up declared_from
  look_here s = rw (q, lt-ltb t.place p h, s)

  pub look_on : same x t.spelling ≡ false → look_up x k (declared_from true p ts) ≡ look_up x (k + 1) (declared_from (eqb t.sort 58) p us)
  unfolding look_up declared_from
  look_on s = rw (q, lt-ltb t.place p h, s)

  pub look_over : look_up x k (declared_from false p ts) ≡ look_up x k (declared_from (eqb t.sort 58) p us)
  unfolding declared_from
  look_over = rw (q, lt-ltb t.place p h)

-- ---- a number found among names

pub look_most : (x : List ℕ) (k : ℕ) (ys : List (List ℕ)) → look_up x k ys ≤ k + length ys
unfolding look_up
look_most x k [] = omega arith
look_most x k (y ∷ ys) = go (same x y) (look_most x (k + 1) ys)
  where
    go : (b : Bool) → look_up x (k + 1) ys ≤ k + 1 + length ys → (k + 1 if b else look_up x (k + 1) ys) ≤ k + suc (length ys)
    go true l = omega arith
    go false l = omega (arith, l)
