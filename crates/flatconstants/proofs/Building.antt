-- A call over the numbers of variables is built as the renamed builtin.
use Rattle.std.proofs.Common.{◌≡◌, refl, sym, ap, ap₂, ◌∙◌, subst, List, [], ◌∷◌, ◌++◌, append_assoc, append-nil, map, ℕ, zero, suc, ◌+◌, ◌<◌, arith, pos, length, length-append, get_or, Option, Some, None}
use lib.ListN.{get_or-append}
use Rattle.std.specs.Prelude.{option_and_then}
use Rattle.std.proofs.lemmas.List.{get_or-append-add}
use Rattle.integers.specs.Number.{+0}
use Rattle.integers.specs.Lists.{list_of}
use Rattle.integers.specs.Terms.{Term, ◌·◌}
use Rattle.integers.proofs.Places.{map-list_of, by-places}
use Rattle.models.specs.Table.{Sort, integer, boolean, number, exponent, numbers, set, integers, booleans, parallel, Takes}
use Rattle.models.specs.Table.{Argument as Of}
use Rattle.models.specs.declared.code.Code.{Code}
use Rattle.models.specs.declared.code.Code.TheVariants.{IntEq, IntLe, IntLt, IntNe, IntLeReif, IntPlus, IntTimes, IntAbs, IntMax, IntLinEq, IntLinLe, IntLinNe, IntLinEqReif, IntEqReif, IntLinLeReif, Bool2int, BoolNot, BoolAnd, BoolOr, BoolXor, BoolClause, ArrayBoolAnd, ArrayBoolXor, ArrayIntElement, ArrayVarIntElement, ArrayIntMaximum, SetIn, SetInReif, IntMin, IntLtReif, IntNeReif, IntLinNeReif, ArrayIntMinimum, BoolEqReif, BoolLeReif, BoolLtReif, IntDiv, IntMod, IntPow}
use Rattle.flatzinc.specs.declared.Atom.{Atom}
use Rattle.flatzinc.specs.declared.Atom.TheVariants.{Whole, Variable}
use Rattle.flatzinc.specs.declared.Product.{Product}
use Rattle.flatzinc.specs.declared.Argument.{Argument}
use Rattle.flatzinc.specs.declared.Argument.TheVariants.{One, Number, Numbers, Many, Sum}
use Rattle.flatzinc.specs.declared.Call.{Call}
use Rattle.flatzinc.specs.Seen.{row}
use Rattle.flatzinc.specs.Items.{Placed, places_from}
use Rattle.flatzinc.specs.Calls.{At, atoms_in, numbers_of, terms_of, placed_call, built_argument, built_arguments, built_call}
use Rattle.flatrewriting.specs.Arguments.{Given, atom, whole, list, atoms, products, given, at_given, placed_given}
use Rattle.flatrewriting.proofs.Placing.{list-same}
use Rattle.flatrewriting.proofs.ClauseLaws.{placed_call-of}
use Rattle.flatconstants.specs.Renamed.{renamed, renamed_terms}
use Rattle.flatconstants.specs.Constants.{number_of, with_numbers}
use Rattle.flatconstants.specs.Numbers.{given_atoms, givens_atoms, over_numbers, built_given, built_givens}

-- ---- arguments in memory, and what they are

built-seen : (s : Sort) (g : Argument) → built_argument s g ≡ built_given s (given g)
unfolding built_argument built_given
built-seen integer (One (Variable v)) = refl
built-seen boolean (One (Variable v)) = refl
built-seen number (Number n) = refl
built-seen exponent (Number (pos k)) = refl
built-seen numbers (Numbers ns) = refl
built-seen set (Numbers ns) = refl
built-seen integers (Many xs) = refl
built-seen booleans (Many xs) = refl
built-seen parallel (Sum ps) = refl
built-seen s g = refl

pub all-built-seen : (ss : List Sort) (f : Takes ss) (gs : List Argument) → built_arguments ss f gs ≡ built_givens ss f (map given gs)
unfolding built_arguments built_givens
all-built-seen [] b [] = refl
all-built-seen [] b (g ∷ gs) = refl
all-built-seen (s ∷ ss) f [] = refl
all-built-seen (s ∷ ss) f (g ∷ gs) = rw (built-seen s g) (go (built_given s (given g)) (λ a. all-built-seen ss (f a) gs))
  where
    go : (o : Option (Of s)) → ((a : Of s) → built_arguments ss (f a) gs ≡ built_givens ss (f a) (map given gs)) →
        option_and_then (λ a. built_arguments ss (f a) gs) o ≡ option_and_then (λ a. built_givens ss (f a) (map given gs)) o
    go None h = refl
    go (Some a) h = h a

-- ---- renaming, argument by argument

abbrev renamed_argument : (ℕ → ℕ) → (s : Sort) → Of s → Of s
renamed_argument ρ integer v = ρ v
renamed_argument ρ boolean v = ρ v
renamed_argument ρ number n = n
renamed_argument ρ exponent k = k
renamed_argument ρ numbers ns = ns
renamed_argument ρ set ns = ns
renamed_argument ρ integers vs = map ρ vs
renamed_argument ρ booleans vs = map ρ vs
renamed_argument ρ parallel ts = renamed_terms ρ ts

abbrev Renames : (ℕ → ℕ) → (ss : List Sort) → Takes ss → Takes ss → Type 0
Renames ρ [] b c = c ≡ renamed ρ b
Renames ρ (s ∷ ss) f g = (a : Of s) → Renames ρ ss (f a) (g (renamed_argument ρ s a))

module _ (ρ : ℕ → ℕ) where
  row-renamed : (c : Code) → Renames ρ (row c).sorts (row c).make (row c).make
  unfolding renamed
  row-renamed IntEq = λ a b. refl
  row-renamed IntLe = λ a b. refl
  row-renamed IntLt = λ a b. refl
  row-renamed IntNe = λ a b. refl
  row-renamed IntLeReif = λ a b c. refl
  row-renamed IntPlus = λ a b c. refl
  row-renamed IntTimes = λ a b c. refl
  row-renamed IntAbs = λ a b. refl
  row-renamed IntMax = λ a b c. refl
  row-renamed IntLinEq = λ a b. refl
  row-renamed IntLinLe = λ a b. refl
  row-renamed IntLinNe = λ a b. refl
  row-renamed IntLinEqReif = λ a b c. refl
  row-renamed IntEqReif = λ a b c. refl
  row-renamed IntLinLeReif = λ a b c. refl
  row-renamed Bool2int = λ a b. refl
  row-renamed BoolNot = λ a b. refl
  row-renamed BoolAnd = λ a b c. refl
  row-renamed BoolOr = λ a b c. refl
  row-renamed BoolXor = λ a b c. refl
  row-renamed BoolClause = λ a b. refl
  row-renamed ArrayBoolAnd = λ a b. refl
  row-renamed ArrayBoolXor = λ a. refl
  row-renamed ArrayIntElement = λ a b c. refl
  row-renamed ArrayVarIntElement = λ a b c. refl
  row-renamed ArrayIntMaximum = λ a b. refl
  row-renamed SetIn = λ a b. refl
  row-renamed SetInReif = λ a b c. refl
  row-renamed IntMin = λ a b c. refl
  row-renamed IntLtReif = λ a b c. refl
  row-renamed IntNeReif = λ a b c. refl
  row-renamed IntLinNeReif = λ a b c. refl
  row-renamed ArrayIntMinimum = λ a b. refl
  row-renamed BoolEqReif = λ a b c. refl
  row-renamed BoolLeReif = λ a b c. refl
  row-renamed BoolLtReif = λ a b c. refl
  row-renamed IntDiv = λ a b c. refl
  row-renamed IntMod = λ a b c. refl
  row-renamed IntPow = λ a b c. refl

module _ (ν : Atom → ℕ) where
  -- the numbers at places after others are those of atoms
  abbrev Agrees : (ℕ → ℕ) → List Atom → List Atom → Type 0
  Agrees ρ as₁ xs = (k : ℕ) → k < length xs → ρ (length as₁ + k) ≡ ν (get_or xs k (Whole +0))

  numbers-over : (xs : List Atom) → numbers_of (map (λ a. Variable (ν a)) xs) ≡ Some (map ν xs)
  unfolding numbers_of
  numbers-over [] = refl
  numbers-over (x ∷ xs) = rw (numbers-over xs) refl

  terms-over : (ps : List Product) →
      terms_of (map (λ (p : Product). record { coefficient = p.coefficient; atom = Variable (ν p.atom) }) ps) ≡ Some (map (λ (p : Product). p.coefficient · ν p.atom) ps)
  unfolding terms_of numbers_of
  terms-over [] = refl
  terms-over (p ∷ ps) = rw (terms-over ps) refl

  places-renamed : (ρ : ℕ → ℕ) (as₁ xs : List Atom) → Agrees ρ as₁ xs → map ρ (places_from as₁ xs) ≡ map ν xs
  places-renamed ρ as₁ xs h =
      map-list_of ρ (λ k. length as₁ + k) (length xs) ∙ list-same _ _ (length xs) h
      ∙ sym (map-list_of ν (λ k. get_or xs k (Whole +0)) (length xs)) ∙ ap (map ν) (by-places (Whole +0) xs)

  abbrev no-product : Product
  no-product = record { coefficient = +0; atom = Whole +0 }

  product_atoms : (ps : List Product) (k : ℕ) → k < length ps → get_or (atoms_in ps) k (Whole +0) ≡ (get_or ps k no-product).atom
  product_atoms [] k l = absurd (omega arith)
  product_atoms (p ∷ ps) zero l = refl
  product_atoms (p ∷ ps) (suc k) l = product_atoms ps k (omega arith)

  length-atoms : (ps : List Product) → length (atoms_in ps) ≡ length ps
  length-atoms [] = refl
  length-atoms (p ∷ ps) = ap suc (length-atoms ps)

  terms-renamed : (ρ : ℕ → ℕ) (as₁ : List Atom) (ps : List Product) → Agrees ρ as₁ (atoms_in ps) →
      renamed_terms ρ (list_of (λ k. (get_or ps k no-product).coefficient · (length as₁ + k)) (length ps)) ≡ map (λ (p : Product). p.coefficient · ν p.atom) ps
  terms-renamed ρ as₁ ps h =
      map-list_of (λ (t : Term ℕ). t.coefficient · ρ t.variable) (λ k. (get_or ps k no-product).coefficient · (length as₁ + k)) (length ps)
      ∙ list-same _ _ (length ps) (λ k l. let m = length-atoms ps in ap (λ (v : ℕ). (get_or ps k no-product).coefficient · v) (h k (omega arith) ∙ ap ν (product_atoms ps k l)))
      ∙ sym (map-list_of (λ (p : Product). p.coefficient · ν p.atom) (λ k. get_or ps k no-product) (length ps))
      ∙ ap (map (λ (p : Product). p.coefficient · ν p.atom)) (by-places no-product ps)

  -- ---- one argument

  abbrev One-law : (s : Sort) → List Atom → Given → Option (At s) → Type 0
  One-law s as₁ g None = Unit {0}
  One-law s as₁ g (Some t) =
      (t.atoms ≡ as₁ ++ given_atoms g) × ((ρ : ℕ → ℕ) → Agrees ρ as₁ (given_atoms g) → built_given s (over_numbers ν g) ≡ Some (renamed_argument ρ s t.argument))

  at-place : (ρ : ℕ → ℕ) (as₁ : List Atom) (a : Atom) → Agrees ρ as₁ (a ∷ []) → ν a ≡ ρ (length as₁)
  at-place ρ as₁ a h = sym (h 0 (omega arith)) ∙ ap ρ (omega arith)

  one-law : (s : Sort) (as₁ : List Atom) (g : Given) → One-law s as₁ g (at_given s as₁ g)
  unfolding at_given built_given over_numbers
  one-law integer as₁ (atom a) = (refl, λ ρ h. ap Some (at-place ρ as₁ a h))
  one-law boolean as₁ (atom a) = (refl, λ ρ h. ap Some (at-place ρ as₁ a h))
  one-law number as₁ (whole n) = (sym (append-nil as₁), λ ρ h. refl)
  one-law exponent as₁ (whole (pos k)) = (sym (append-nil as₁), λ ρ h. refl)
  one-law numbers as₁ (list ns) = (sym (append-nil as₁), λ ρ h. refl)
  one-law set as₁ (list ns) = (sym (append-nil as₁), λ ρ h. refl)
  one-law integers as₁ (atoms xs) = (refl, λ ρ h. numbers-over xs ∙ ap Some (sym (places-renamed ρ as₁ xs h)))
  one-law booleans as₁ (atoms xs) = (refl, λ ρ h. numbers-over xs ∙ ap Some (sym (places-renamed ρ as₁ xs h)))
  one-law parallel as₁ (products ps) = (refl, λ ρ h. terms-over ps ∙ ap Some (sym (terms-renamed ρ as₁ ps h)))
  one-law s as₁ g = tt

  -- ---- all arguments

  abbrev Every : List Atom → (ss : List Sort) → Takes ss → List Given → Option Placed → Type 0
  Every as₁ ss f gs None = Unit {0}
  Every as₁ ss f gs (Some p) =
      (p.atoms ≡ as₁ ++ givens_atoms gs)
      × ((ρ : ℕ → ℕ) (g : Takes ss) → Renames ρ ss f g → Agrees ρ as₁ (givens_atoms gs) → built_givens ss g (map (over_numbers ν) gs) ≡ Some (renamed ρ p.builtin))

  agrees-front : (ρ : ℕ → ℕ) (as₁ xs ys : List Atom) → Agrees ρ as₁ (xs ++ ys) → Agrees ρ as₁ xs
  agrees-front ρ as₁ xs ys h k l = let m = length-append xs ys in h k (omega arith) ∙ ap ν (get_or-append xs ys (Whole +0) k l)

  agrees-behind : (ρ : ℕ → ℕ) (as₁ xs ys bs : List Atom) → bs ≡ as₁ ++ xs → Agrees ρ as₁ (xs ++ ys) → Agrees ρ bs ys
  agrees-behind ρ as₁ xs ys bs e h k l =
      let m = length-append xs ys in
      let n : length bs ≡ length as₁ + length xs = ap length e ∙ length-append as₁ xs in
      let i : length bs + k ≡ length as₁ + (length xs + k) = omega arith in
      ap ρ i ∙ h (length xs + k) (omega arith) ∙ ap ν (get_or-append-add xs ys k (Whole +0))

  every : (as₁ : List Atom) (ss : List Sort) (f : Takes ss) (gs : List Given) → Every as₁ ss f gs (placed_given as₁ ss f gs)
  unfolding placed_given givens_atoms built_givens
  every as₁ [] b [] = (sym (append-nil as₁), λ ρ g r h. ap Some r)
  every as₁ [] b (g ∷ gs) = tt
  every as₁ (s ∷ ss) f [] = tt
  every as₁ (s ∷ ss) f (g ∷ gs) = go (at_given s as₁ g) (one-law s as₁ g) (λ t. every t.atoms ss (f t.argument) gs)
    where
      more : (t : At s) → One-law s as₁ g (Some t) → (o : Option Placed) → Every t.atoms ss (f t.argument) gs o → Every as₁ (s ∷ ss) f (g ∷ gs) o
      more t h None k = tt
      more t h (Some p) k = (
        k.0 ∙ ap (λ (l : List Atom). l ++ givens_atoms gs) h.0 ∙ append_assoc as₁ (given_atoms g) (givens_atoms gs),
        λ ρ m r a.
            rw (h.1 ρ (agrees-front ρ as₁ (given_atoms g) (givens_atoms gs) a))
            (k.1 ρ (m (renamed_argument ρ s t.argument)) (r t.argument) (agrees-behind ρ as₁ (given_atoms g) (givens_atoms gs) t.atoms h.0 a)),
      )

      go : (o : Option (At s)) → One-law s as₁ g o → ((t : At s) → Every t.atoms ss (f t.argument) gs (placed_given t.atoms ss (f t.argument) gs)) →
          Every as₁ (s ∷ ss) f (g ∷ gs) (option_and_then (λ t. placed_given t.atoms ss (f t.argument) gs) o)
      go None h again = tt
      go (Some t) h again = more t h (placed_given t.atoms ss (f t.argument) gs) (again t)

-- ---- a call

pub same-call : (n : ℕ) (table : List Atom) (c d : Call) → d.code ≡ c.code → map given d.arguments.items ≡ map (over_numbers (number_of n table)) (map given c.arguments.items) →
    (p : Placed) → placed_call c ≡ Some p → built_call d ≡ Some (with_numbers n table p)
unfolding built_call with_numbers
same-call n table c d e g p h =
    let ν : Atom → ℕ = number_of n table in
    let gs : List Given = map given c.arguments.items in
    let l : Every ν [] (row c.code).sorts (row c.code).make gs (Some p) =
    subst (Every ν [] (row c.code).sorts (row c.code).make gs) (sym (placed_call-of c) ∙ h) (every ν [] (row c.code).sorts (row c.code).make gs) in
    let ρ : ℕ → ℕ = λ k. ν (get_or p.atoms k (Whole +0)) in
    all-built-seen (row d.code).sorts (row d.code).make d.arguments.items
    ∙ ap₂ (λ (k : Code) (hs : List Given). built_givens (row k).sorts (row k).make hs) e g
    ∙ l.1 ρ (row c.code).make (row-renamed ρ c.code) (λ k b. let z : 0 + k ≡ k = omega arith in ap (λ (i : ℕ). ν (get_or p.atoms i (Whole +0))) z ∙ ap (λ (xs : List Atom). ν (get_or xs k (Whole +0))) l.0)

-- the atoms that are placed are those of the call
pub call_atoms : (c : Call) (p : Placed) → placed_call c ≡ Some p → p.atoms ≡ givens_atoms (map given c.arguments.items)
call_atoms c p h =
    let gs : List Given = map given c.arguments.items in
    (subst (Every (λ a. 0) [] (row c.code).sorts (row c.code).make gs) (sym (placed_call-of c) ∙ h) (every (λ a. 0) [] (row c.code).sorts (row c.code).make gs)).0
