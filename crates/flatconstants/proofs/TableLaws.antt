-- The place of a constant in a table, with one constant more.
use Rattle.std.proofs.Common.{◌≡◌, refl, sym, ap, ◌∙◌, Bool, true, false, ◌||◌, List, [], ◌∷◌, ◌++◌, ℕ, suc, ◌+◌, ◌<◌, ◌≤◌, add-one, arith, length, get_or, drop, drop-cons, drop_of_length-le, Option, Some, None}
use Rattle.std.specs.Prelude.{unwrap_or, option_map}
use Rattle.integers.specs.Choice.{◌if◌else◌}
use Rattle.integers.specs.Lists.{any}
use Rattle.integers.proofs.Tests.{says-equal}
use Rattle.flatzinc.specs.declared.Atom.{Atom}
use Rattle.flatzinc.specs.declared.Atom.TheVariants.{Whole, Truth, Variable}
use Rattle.flatconstants.specs.Constants.{same_constant, index_of, collected}
use Rattle.flatconstants.specs.Numbers.{found, with_constant}

pub found-some : (table : List Atom) (a : Atom) (k : ℕ) → found table a ≡ Some k → any (same_constant a) table ≡ true
unfolding found any same_constant
found-some table a k e = go (any (same_constant a) table) e
  where
    go : (b : Bool) → (Some (index_of a table) if b else None) ≡ Some k → b ≡ true
    go true e = refl
    go false e = absurd cc

pub found-none : (table : List Atom) (a : Atom) → found table a ≡ None → any (same_constant a) table ≡ false
unfolding found any same_constant
found-none table a e = go (any (same_constant a) table) e
  where
    go : (b : Bool) → (Some (index_of a table) if b else None) ≡ None → b ≡ false
    go true e = absurd cc
    go false e = refl

pub no_variable : (v : ℕ) (table : List Atom) → found table (Variable v) ≡ None
unfolding found any same_constant
no_variable v table = rw (never table) refl
  where
    never : (table : List Atom) → any (same_constant (Variable v)) table ≡ false
    never [] = refl
    never (b ∷ bs) = never bs

-- ---- the place that is counted

pub index-most : (a : Atom) (table : List Atom) → index_of a table ≤ length table
unfolding index_of
index-most a [] = omega arith
index-most a (b ∷ bs) = go (same_constant a b) (index-most a bs)
  where
    go : (s : Bool) → index_of a bs ≤ length bs → (0 if s else suc (index_of a bs)) ≤ suc (length bs)
    go true h = omega arith
    go false h = omega arith

missing : (a : Atom) (table : List Atom) → any (same_constant a) table ≡ false → index_of a table ≡ length table
unfolding index_of any
missing a [] e = refl
missing a (b ∷ bs) e = go (same_constant a b) (missing a bs) e
  where
    go : (s : Bool) → (any (same_constant a) bs ≡ false → index_of a bs ≡ length bs) → (s || any (same_constant a) bs) ≡ false → (0 if s else suc (index_of a bs)) ≡ suc (length bs)
    go true h e = absurd cc
    go false h e = ap suc (h e)

pub unwrap-found : (a : Atom) (table : List Atom) → unwrap_or (found table a) (length table) ≡ index_of a table
unfolding found any same_constant
unwrap-found a table = go (any (same_constant a) table) refl
  where
    go : (b : Bool) → any (same_constant a) table ≡ b → unwrap_or (Some (index_of a table) if b else None) (length table) ≡ index_of a table
    go true e = refl
    go false e = sym (missing a table e)

-- ---- one constant more

same-is : (a b : Atom) → same_constant a b ≡ true → a ≡ b
unfolding same_constant
same-is (Whole m) (Whole n) e = ap Whole ((says-equal m n).0 e)
same-is (Truth true) (Truth true) e = refl
same-is (Truth false) (Truth false) e = refl
same-is (Truth true) (Truth false) e = absurd cc
same-is (Truth false) (Truth true) e = absurd cc
same-is (Whole m) (Truth b) e = absurd cc
same-is (Whole m) (Variable v) e = absurd cc
same-is (Truth a) (Whole n) e = absurd cc
same-is (Truth a) (Variable v) e = absurd cc
same-is (Variable v) b e = absurd cc

found-cons : (c : Atom) (cs : List Atom) (b : Atom) → found (c ∷ cs) b ≡ (Some 0 if same_constant b c else option_map suc (found cs b))
unfolding found any index_of
found-cons c cs b = go (same_constant b c) (any (same_constant b) cs)
  where
    go : (s t : Bool) → (Some (0 if s else suc (index_of b cs)) if s || t else None) ≡ (Some 0 if s else option_map suc (Some (index_of b cs) if t else None))
    go true t = refl
    go false true = refl
    go false false = refl

pub found-more : (table : List Atom) (a b : Atom) → any (same_constant a) table ≡ false → found (table ++ a ∷ []) b ≡ (Some (length table) if same_constant b a else found table b)
unfolding any found
found-more [] a b h = found-cons a [] b ∙ go (same_constant b a)
  where
    go : (s : Bool) → (Some 0 if s else option_map suc (found [] b)) ≡ (Some 0 if s else found [] b)
    go true = refl
    go false = refl
found-more (c ∷ cs) a b h =
    found-cons c (cs ++ a ∷ []) b
    ∙ go (same_constant a c) (same_constant b c) (same_constant b a) refl refl refl h (found-more cs a b)
    ∙ ap (λ (o : Option ℕ). Some (suc (length cs)) if same_constant b a else o) (sym (found-cons c cs b))
  where
    go : (x y z : Bool) → same_constant a c ≡ x → same_constant b c ≡ y → same_constant b a ≡ z → (x || any (same_constant a) cs) ≡ false →
        (any (same_constant a) cs ≡ false → found (cs ++ a ∷ []) b ≡ (Some (length cs) if z else found cs b)) →
        (Some 0 if y else option_map suc (found (cs ++ a ∷ []) b)) ≡ (Some (suc (length cs)) if z else Some 0 if y else option_map suc (found cs b))
    go true y z p q r h again = absurd cc
    go false true true p q r h again = let e : b ≡ a = same-is b a r in let i : same_constant a c ≡ true = rw (← e) q in absurd cc
    go false true false p q r h again = refl
    go false false true p q r h again = rw (again h) refl
    go false false false p q r h again = rw (again h) refl

-- ---- the walk

pub collected_on : (table xs : List Atom) (i : ℕ) (d : Atom) → i < length xs → collected table (drop i xs) ≡ collected (with_constant table (get_or xs i d)) (drop (i + 1) xs)
unfolding collected
collected_on table xs i d l = ap (collected table) (drop-cons xs i d l) ∙ rw add-one refl

pub collected-end : (table xs : List Atom) (i : ℕ) → length xs ≤ i → collected table (drop i xs) ≡ table
unfolding collected
collected-end table xs i l = ap (collected table) (drop_of_length-le xs l)
