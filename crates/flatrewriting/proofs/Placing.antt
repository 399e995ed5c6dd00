-- The builtin of a call's arguments is that of FlatZinc's values.
use Rattle.std.proofs.Common.{◌≡◌, refl, sym, ap, ap₂, ◌∙◌, subst, Bool, true, false, List, [], ◌∷◌, ◌++◌, map, ℕ, zero, suc, ◌+◌, ◌<◌, arith, eqb, leb, ℤ, pos, length, get_or, Option, Some, None}
use Rattle.std.specs.Prelude.{option_and_then}
use Rattle.integers.specs.Choice.{◌if◌else◌}
use Rattle.integers.specs.Number.{+0}
use Rattle.integers.specs.Lists.{list_of}
use Rattle.integers.specs.Bounds.{◌to◌, width, values}
use Rattle.integers.specs.Terms.{Term, ◌·◌}
use Rattle.integers.proofs.Lists.{list_of-length}
use Rattle.integers.proofs.Places.{get_or-list_of, map-list_of, by-places}
use Rattle.words.specs.Limit as Limit
use Rattle.models.specs.Table.{Sort, integer, boolean, number, exponent, numbers, set, integers, booleans, parallel, Takes, Code}
use Rattle.flatzinc.specs.declared.Atom.{Atom}
use Rattle.flatzinc.specs.declared.Atom.TheVariants.{Whole}
use Rattle.flatzinc.specs.declared.Product.{Product}
use Rattle.flatzinc.specs.declared.Argument.{Argument}
use Rattle.flatzinc.specs.declared.Argument.TheVariants.{One, Number, Numbers, Many, Sum}
use Rattle.flatzinc.specs.Items.{Value, one, many, members, range, wholes, Placed, Taken, taken, placed_from, placed}
use Rattle.flatzinc.specs.Calls.{At, atoms_in, placed_argument, placed_arguments}
use Rattle.flatrewriting.specs.Arguments.{Given, list, products, given, as_atom, as_whole, as_exponent, list_in, as_set, given_by, products_of, summed, Front, before, front_pair, front_one, front, arguments, at_given, placed_given}

-- ---- arguments in memory, and what they are

at-seen : (s : Sort) (as₁ : List Atom) (g : Argument) → placed_argument s as₁ g ≡ at_given s as₁ (given g)
unfolding placed_argument at_given
at-seen integer as₁ (One a) = refl
at-seen boolean as₁ (One a) = refl
at-seen number as₁ (Number n) = refl
at-seen exponent as₁ (Number (pos k)) = refl
at-seen numbers as₁ (Numbers ns) = refl
at-seen set as₁ (Numbers ns) = refl
at-seen integers as₁ (Many xs) = refl
at-seen booleans as₁ (Many xs) = refl
at-seen parallel as₁ (Sum ps) = refl
at-seen s as₁ g = refl

pub seen : (as₁ : List Atom) (ss : List Sort) (f : Takes ss) (gs : List Argument) → placed_arguments as₁ ss f gs ≡ placed_given as₁ ss f (map given gs)
unfolding placed_arguments placed_given
seen as₁ [] b [] = refl
seen as₁ [] b (g ∷ gs) = refl
seen as₁ (s ∷ ss) f [] = refl
seen as₁ (s ∷ ss) f (g ∷ gs) = rw (at-seen s as₁ g) (go (at_given s as₁ (given g)) (λ t. seen t.atoms ss (f t.argument) gs))
  where
    go : (o : Option (At s)) → ((t : At s) → placed_arguments t.atoms ss (f t.argument) gs ≡ placed_given t.atoms ss (f t.argument) (map given gs)) →
        option_and_then (λ t. placed_arguments t.atoms ss (f t.argument) gs) o ≡ option_and_then (λ t. placed_given t.atoms ss (f t.argument) (map given gs)) o
    go None h = refl
    go (Some t) h = h t

-- ---- a sum

pub list-same : {A : Type 0} (f g : ℕ → A) (n : ℕ) → ((k : ℕ) → k < n → f k ≡ g k) → list_of f n ≡ list_of g n
unfolding list_of
list-same f g zero h = refl
list-same f g (suc n) h = ap₂ ◌∷◌ (h 0 (omega arith)) (list-same (λ k. f (suc k)) (λ k. g (suc k)) n (λ k l. h (suc k) (omega arith)))

abbrev no-product : Product
no-product = record { coefficient = +0; atom = Whole +0 }

abbrev product-at : List ℤ → List Atom → ℕ → Product
product-at ns xs k = record { coefficient = get_or ns k +0; atom = get_or xs k (Whole +0) }

sum-terms : (as₁ : List Atom) (ns : List ℤ) (xs : List Atom) →
    list_of (λ k. (get_or (products_of ns xs) k no-product).coefficient · (length as₁ + k)) (length (products_of ns xs)) ≡ list_of (λ k. get_or ns k +0 · (length as₁ + k)) (length xs)
sum-terms as₁ ns xs =
    let e : length (products_of ns xs) ≡ length xs = list_of-length (product-at ns xs) (length xs) in
    rw e (list-same _ _ (length xs) (λ k l. ap (λ (p : Product). p.coefficient · (length as₁ + k)) (get_or-list_of (product-at ns xs) (length xs) k no-product l)))

sum_atoms : (ns : List ℤ) (xs : List Atom) → atoms_in (products_of ns xs) ≡ xs
sum_atoms ns xs = map-list_of (λ (p : Product). p.atom) (product-at ns xs) (length xs) ∙ by-places (Whole +0) xs

-- ---- the argument at the front of values

-- what a front gives: nothing is taken, or it has a builtin's argument, which is taken
abbrev Law : (s : Sort) → List Atom → Option (Taken s) → Option Front → Type 0
Law s as₁ o None = o ≡ None
Law s as₁ o (Some f) = (t : At s) × ((at_given s as₁ f.argument ≡ Some t) × (o ≡ Some (record { argument = t.argument; values = f.rest; atoms = t.atoms })))

numbers-law : (as₁ : List Atom) (vs : List Value) (o : Option (List ℤ)) →
    Law numbers as₁ (option_and_then (λ ns. Some (record { argument = ns; values = vs; atoms = as₁ })) o) (before (option_and_then (λ ns. Some (list ns)) o) vs)
unfolding at_given
numbers-law as₁ vs None = refl
numbers-law as₁ vs (Some ns) = (record { argument = ns; atoms = as₁ }, (refl, refl))

range-law : (as₁ : List Atom) (vs : List Value) (ns : List ℤ) (t : Bool) →
    Law set as₁ (Some (record { argument = ns; values = vs; atoms = as₁ }) if t else None) (before (option_and_then (λ ms. Some (list ms)) (Some ns if t else None)) vs)
unfolding at_given
range-law as₁ vs ns true = (record { argument = ns; atoms = as₁ }, (refl, refl))
range-law as₁ vs ns false = refl

sum-law : (as₁ xs : List Atom) (vs : List Value) (o : Option (List ℤ)) →
    Law parallel as₁
    (option_and_then
    (λ ns.
    Some (record { argument = list_of (λ k. get_or ns k +0 · (length as₁ + k)) (length xs); values = vs; atoms = as₁ ++ xs }) if eqb (length ns) (length xs)
    else None) o)
    (before (option_and_then (λ ns. option_and_then (λ ys. summed ns ys) (Some xs)) o) vs)
unfolding at_given
sum-law as₁ xs vs None = refl
sum-law as₁ xs vs (Some ns) = go (eqb (length ns) (length xs))
  where
    made : Law parallel as₁ (Some (record { argument = list_of (λ k. get_or ns k +0 · (length as₁ + k)) (length xs); values = vs; atoms = as₁ ++ xs })) (Some (record { argument = products (products_of ns xs); rest = vs }))
    made = (
      record { argument = list_of (λ k. (get_or (products_of ns xs) k no-product).coefficient · (length as₁ + k)) (length (products_of ns xs)); atoms = as₁ ++ atoms_in (products_of ns xs) },
      (refl, ap₂ (λ (ts : List (Term ℕ)) (ys : List Atom). Some (record { argument = ts; values = vs; atoms = as₁ ++ ys })) (sym (sum-terms as₁ ns xs)) (sym (sum_atoms ns xs))),
    )

    go : (t : Bool) → Law parallel as₁ (Some (record { argument = list_of (λ k. get_or ns k +0 · (length as₁ + k)) (length xs); values = vs; atoms = as₁ ++ xs }) if t else None)
        (before (Some (products (products_of ns xs)) if t else None) vs)
    go true = made
    go false = refl

no-sum : (as₁ : List Atom) (vs : List Value) (o : Option (List ℤ)) → Law parallel as₁ None (before (option_and_then (λ (ns : List ℤ). None) o) vs)
no-sum as₁ vs None = refl
no-sum as₁ vs (Some ns) = refl

front-law : (s : Sort) (as₁ : List Atom) (vs : List Value) → Law s as₁ (taken s as₁ vs) (front s vs)
unfolding front front_one front_pair given_by as_atom as_whole as_exponent list_in as_set taken at_given
front-law integer as₁ [] = refl
front-law integer as₁ (one a ∷ vs) = (record { argument = length as₁; atoms = as₁ ++ a ∷ [] }, (refl, refl))
front-law integer as₁ (v ∷ vs) = refl
front-law boolean as₁ [] = refl
front-law boolean as₁ (one a ∷ vs) = (record { argument = length as₁; atoms = as₁ ++ a ∷ [] }, (refl, refl))
front-law boolean as₁ (v ∷ vs) = refl
front-law number as₁ [] = refl
front-law number as₁ (one (Whole n) ∷ vs) = (record { argument = n; atoms = as₁ }, (refl, refl))
front-law number as₁ (v ∷ vs) = refl
front-law exponent as₁ [] = refl
front-law exponent as₁ (one (Whole (pos k)) ∷ vs) = (record { argument = k; atoms = as₁ }, (refl, refl))
front-law exponent as₁ (v ∷ vs) = refl
front-law numbers as₁ [] = refl
front-law numbers as₁ (many xs ∷ vs) = numbers-law as₁ vs (wholes xs)
front-law numbers as₁ (v ∷ vs) = refl
front-law set as₁ [] = refl
front-law set as₁ (members S ∷ vs) = (record { argument = S; atoms = as₁ }, (refl, refl))
front-law set as₁ (range lo hi ∷ vs) = range-law as₁ vs (values (lo to hi)) (leb (width (lo to hi)) Limit.list_length)
front-law set as₁ (v ∷ vs) = refl
front-law integers as₁ [] = refl
front-law integers as₁ (many xs ∷ vs) = (record { argument = list_of (λ k. length as₁ + k) (length xs); atoms = as₁ ++ xs }, (refl, refl))
front-law integers as₁ (v ∷ vs) = refl
front-law booleans as₁ [] = refl
front-law booleans as₁ (many xs ∷ vs) = (record { argument = list_of (λ k. length as₁ + k) (length xs); atoms = as₁ ++ xs }, (refl, refl))
front-law booleans as₁ (v ∷ vs) = refl
front-law parallel as₁ [] = refl
front-law parallel as₁ (many cs ∷ []) = refl
front-law parallel as₁ (v ∷ []) = refl
front-law parallel as₁ (many cs ∷ many xs ∷ vs) = sum-law as₁ xs vs (wholes cs)
front-law parallel as₁ (many cs ∷ w ∷ vs) = no-sum as₁ vs (wholes cs)
front-law parallel as₁ (v ∷ w ∷ vs) = refl

-- ---- all arguments

abbrev AllLaw : List Atom → (ss : List Sort) → Takes ss → Option Placed → Option (List Given) → Type 0
AllLaw as₁ ss f o None = o ≡ None
AllLaw as₁ ss f o (Some gs) = (p : Placed) × ((placed_given as₁ ss f gs ≡ Some p) × (o ≡ Some p))

arguments-law : (as₁ : List Atom) (ss : List Sort) (f : Takes ss) (vs : List Value) → AllLaw as₁ ss f (placed_from as₁ ss f vs) (arguments ss vs)
unfolding arguments placed_from placed_given
arguments-law as₁ [] b [] = (record { builtin = b; atoms = as₁ }, (refl, refl))
arguments-law as₁ [] b (v ∷ vs) = refl
arguments-law as₁ (s ∷ ss) f vs = by-front (front s vs) (taken s as₁ vs) (front-law s as₁ vs) (λ t r. arguments-law t.atoms ss (f t.argument) r)
  where
    more : (t : At s) (g : Given) (q : Option Placed) → at_given s as₁ g ≡ Some t → (o : Option (List Given)) → AllLaw t.atoms ss (f t.argument) q o →
        AllLaw as₁ (s ∷ ss) f q (option_and_then (λ gs. Some (g ∷ gs)) o)
    more t g q e None h = h
    more t g q e (Some gs) h = (h.0, (rw e h.1.0, h.1.1))

    by-front : (o : Option Front) (x : Option (Taken s)) → Law s as₁ x o → ((t : At s) (r : List Value) → AllLaw t.atoms ss (f t.argument) (placed_from t.atoms ss (f t.argument) r) (arguments ss r)) →
        AllLaw as₁ (s ∷ ss) f (option_and_then (λ t. placed_from t.atoms ss (f t.argument) t.values) x)
        (option_and_then (λ fr. option_and_then (λ gs. Some (fr.argument ∷ gs)) (arguments ss fr.rest)) o)
    by-front None x h again = rw h refl
    by-front (Some fr) x h again =
        rw h.1.1 (more h.0 fr.argument (placed_from h.0.atoms ss (f h.0.argument) fr.rest) h.1.0 (arguments ss fr.rest) (again h.0 fr.rest))

-- a builtin that is placed of values, and of the arguments made of them
pub none-placed : (c : Code) (vs : List Value) → arguments c.sorts vs ≡ None → placed c vs ≡ None
unfolding placed
none-placed c vs e = subst (AllLaw [] c.sorts c.make (placed_from [] c.sorts c.make vs)) e (arguments-law [] c.sorts c.make vs)

pub same-placed : (c : Code) (vs : List Value) (gs : List Argument) → arguments c.sorts vs ≡ Some (map given gs) →
    (p : Placed) × ((placed_arguments [] c.sorts c.make gs ≡ Some p) × (placed c vs ≡ Some p))
unfolding placed
same-placed c vs gs e =
    let h = subst (AllLaw [] c.sorts c.make (placed_from [] c.sorts c.make vs)) e (arguments-law [] c.sorts c.make vs) in (h.0, (seen [] c.sorts c.make gs ∙ h.1.0, h.1.1))
