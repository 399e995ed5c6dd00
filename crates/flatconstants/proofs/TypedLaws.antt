-- What the code tests of calls: each is built, and its builtin is typed.
use Rattle.std.proofs.Common.{◌≡◌, refl, ap₂, ◌∙◌, Bool, true, false, ◌&&◌, List, [], ◌∷◌, map, ℕ, ◌<◌, arith, ℤ, pos, length, get_or, ltb-true, Some}
use Rattle.std.specs.Prelude.{option_and_then}
use Rattle.std.proofs.lemmas.List.{get_or-map, length-map}
use Rattle.integers.specs.Number.{◌≟◌, +0, +1}
use Rattle.integers.specs.Lists.{all}
use Rattle.integers.specs.Bounds.{◌to◌, bit, bounds_in}
use Rattle.integers.specs.Terms.{Term, ◌·◌}
use Rattle.integers.specs.declared.Bounds.{Bounds}
use Rattle.integers.proofs.Tests.{All, says-equal}
use Rattle.integers.proofs.Lists.{all_append}
use Rattle.integers.proofs.Booleans.{both_true}
use Rattle.models.specs.Builtin.{Builtin}
use Rattle.models.specs.Table.{Sort, integer, boolean, number, exponent, numbers, set, integers, booleans, parallel, Takes}
use Rattle.models.specs.Table.{Argument as Of}
use Rattle.models.specs.declared.code.Code.{Code}
use Rattle.models.specs.declared.code.Code.TheVariants.{IntEq, IntLe, IntLt, IntNe, IntLeReif, IntPlus, IntTimes, IntAbs, IntMax, IntLinEq, IntLinLe, IntLinNe, IntLinEqReif, IntEqReif, IntLinLeReif, Bool2int, BoolNot, BoolAnd, BoolOr, BoolXor, BoolClause, ArrayBoolAnd, ArrayBoolXor, ArrayIntElement, ArrayVarIntElement, ArrayIntMaximum, SetIn, SetInReif, IntMin, IntLtReif, IntNeReif, IntLinNeReif, ArrayIntMinimum, BoolEqReif, BoolLeReif, BoolLtReif, IntDiv, IntMod, IntPow}
use Rattle.models.proofs.Arguments.{integer_arguments, boolean_arguments, variables_in}
use Rattle.flatzinc.specs.declared.Atom.{Atom}
use Rattle.flatzinc.specs.declared.Atom.TheVariants.{Whole, Truth, Variable}
use Rattle.flatzinc.specs.declared.Product.{Product}
use Rattle.flatzinc.specs.declared.ModelVariable.{ModelVariable}
use Rattle.flatzinc.specs.declared.Call.{Call}
use Rattle.flatzinc.specs.Seen.{row}
use Rattle.flatzinc.specs.Calls.{atoms_in, numbers_of, terms_of, built_call, built_all}
use Rattle.flatzinc.proofs.Agreeing.{Typed}
use Rattle.flatrewriting.specs.Arguments.{Given, atom, whole, list, atoms, products, given}
use Rattle.flatconstants.specs.Numbers.{built_given, built_givens}
use Rattle.flatconstants.specs.Typed.{fits_type, no_variable, is_typed, given_typed, givens_typed, call_typed}
use Rattle.flatconstants.proofs.Building.{all-built-seen}

module _ (Vs : List ModelVariable) where
  abbrev pub Bs : List Bounds
  Bs = map (λ (V : ModelVariable). V.bounds) Vs

  abbrev IntegerAt : ℕ → Type 0
  IntegerAt v = v < length Bs

  abbrev BooleanAt : ℕ → Type 0
  BooleanAt v = (v < length Bs) × (bounds_in Bs v ≡ bit)

  abbrev ArgumentTyped : (s : Sort) → Of s → Type 0
  ArgumentTyped integer v = IntegerAt v
  ArgumentTyped boolean v = BooleanAt v
  ArgumentTyped number n = Unit {0}
  ArgumentTyped exponent k = Unit {0}
  ArgumentTyped numbers ns = Unit {0}
  ArgumentTyped set ns = Unit {0}
  ArgumentTyped integers vs = All IntegerAt vs
  ArgumentTyped booleans vs = All BooleanAt vs
  ArgumentTyped parallel ts = All IntegerAt (variables_in ts)

  abbrev TypedBy : (ss : List Sort) → Takes ss → Type 0
  TypedBy [] b = Typed Bs b
  TypedBy (s ∷ ss) f = (a : Of s) → ArgumentTyped s a → TypedBy ss (f a)

  row-typed : (c : Code) → TypedBy (row c).sorts (row c).make
  unfolding integer_arguments boolean_arguments
  row-typed IntEq = λ a0 h0 a1 h1. ((h0, (h1, tt)), tt)
  row-typed IntLe = λ a0 h0 a1 h1. ((h0, (h1, tt)), tt)
  row-typed IntLt = λ a0 h0 a1 h1. ((h0, (h1, tt)), tt)
  row-typed IntNe = λ a0 h0 a1 h1. ((h0, (h1, tt)), tt)
  row-typed IntLeReif = λ a0 h0 a1 h1 a2 h2. ((h0, (h1, tt)), (h2, tt))
  row-typed IntPlus = λ a0 h0 a1 h1 a2 h2. ((h0, (h1, (h2, tt))), tt)
  row-typed IntTimes = λ a0 h0 a1 h1 a2 h2. ((h0, (h1, (h2, tt))), tt)
  row-typed IntAbs = λ a0 h0 a1 h1. ((h0, (h1, tt)), tt)
  row-typed IntMax = λ a0 h0 a1 h1 a2 h2. ((h0, (h1, (h2, tt))), tt)
  row-typed IntLinEq = λ a0 h0 a1 h1. (h0, tt)
  row-typed IntLinLe = λ a0 h0 a1 h1. (h0, tt)
  row-typed IntLinNe = λ a0 h0 a1 h1. (h0, tt)
  row-typed IntLinEqReif = λ a0 h0 a1 h1 a2 h2. (h0, (h2, tt))
  row-typed IntEqReif = λ a0 h0 a1 h1 a2 h2. ((h0, (h1, tt)), (h2, tt))
  row-typed IntLinLeReif = λ a0 h0 a1 h1 a2 h2. (h0, (h2, tt))
  row-typed Bool2int = λ a0 h0 a1 h1. ((h1, tt), (h0, tt))
  row-typed BoolNot = λ a0 h0 a1 h1. (tt, (h0, (h1, tt)))
  row-typed BoolAnd = λ a0 h0 a1 h1 a2 h2. (tt, (h0, (h1, (h2, tt))))
  row-typed BoolOr = λ a0 h0 a1 h1 a2 h2. (tt, (h0, (h1, (h2, tt))))
  row-typed BoolXor = λ a0 h0 a1 h1 a2 h2. (tt, (h0, (h1, (h2, tt))))
  row-typed BoolClause = λ a0 h0 a1 h1. (tt, (all_append BooleanAt a0 a1).1 (h0, h1))
  row-typed ArrayBoolAnd = λ a0 h0 a1 h1. (tt, (h1, h0))
  row-typed ArrayBoolXor = λ a0 h0. (tt, h0)
  row-typed ArrayIntElement = λ a0 h0 a1 h1 a2 h2. ((h0, (h2, tt)), tt)
  row-typed ArrayVarIntElement = λ a0 h0 a1 h1 a2 h2. ((h0, (h2, h1)), tt)
  row-typed ArrayIntMaximum = λ a0 h0 a1 h1. ((h0, h1), tt)
  row-typed SetIn = λ a0 h0 a1 h1. ((h0, tt), tt)
  row-typed SetInReif = λ a0 h0 a1 h1 a2 h2. ((h0, tt), (h2, tt))
  row-typed IntMin = λ a0 h0 a1 h1 a2 h2. ((h0, (h1, (h2, tt))), tt)
  row-typed IntLtReif = λ a0 h0 a1 h1 a2 h2. ((h0, (h1, tt)), (h2, tt))
  row-typed IntNeReif = λ a0 h0 a1 h1 a2 h2. ((h0, (h1, tt)), (h2, tt))
  row-typed IntLinNeReif = λ a0 h0 a1 h1 a2 h2. (h0, (h2, tt))
  row-typed ArrayIntMinimum = λ a0 h0 a1 h1. ((h0, h1), tt)
  row-typed BoolEqReif = λ a0 h0 a1 h1 a2 h2. (tt, (h0, (h1, (h2, tt))))
  row-typed BoolLeReif = λ a0 h0 a1 h1 a2 h2. (tt, (h0, (h1, (h2, tt))))
  row-typed BoolLtReif = λ a0 h0 a1 h1 a2 h2. (tt, (h0, (h1, (h2, tt))))
  row-typed IntDiv = λ a0 h0 a1 h1 a2 h2. ((h0, (h1, (h2, tt))), tt)
  row-typed IntMod = λ a0 h0 a1 h1 a2 h2. ((h0, (h1, (h2, tt))), tt)
  row-typed IntPow = λ a0 h0 a1 h1 a2 h2. ((h0, (h2, tt)), tt)

  -- ---- one atom

  below : (v : ℕ) (t : Bool) → is_typed Vs t (Variable v) ≡ true → v < length Bs
  unfolding is_typed
  below v t e = let h = both_true _ (fits_type t (get_or Vs v no_variable)) e in let l = length-map Vs (λ (V : ModelVariable). V.bounds) in let b : v < length Vs = ltb-true v (length Vs) h.0 in omega arith

  bit-bounds : (V : ModelVariable) → fits_type true V ≡ true → V.bounds ≡ bit
  unfolding fits_type
  bit-bounds V e =
      let h = both_true V.is_boolean ((V.bounds.lower ≟ +0) && (V.bounds.upper ≟ +1)) e in
      let k = both_true (V.bounds.lower ≟ +0) (V.bounds.upper ≟ +1) h.1 in
      ap₂ (λ (l u : ℤ). l to u) ((says-equal V.bounds.lower +0).0 k.0) ((says-equal V.bounds.upper +1).0 k.1)

  boolean-at : (v : ℕ) → is_typed Vs true (Variable v) ≡ true → BooleanAt v
  unfolding is_typed bounds_in
  boolean-at v e =
      let h = both_true _ (fits_type true (get_or Vs v no_variable)) e in
      (below v true e, get_or-map (λ (V : ModelVariable). V.bounds) Vs v no_variable (+0 to +0) (ltb-true v (length Vs) h.0) ∙ bit-bounds (get_or Vs v no_variable) h.1)

  -- ---- one argument

  abbrev Built : (s : Sort) → Given → Type 0
  Built s g = (a : Of s) × ((built_given s g ≡ Some a) × ArgumentTyped s a)

  list-built : (t : Bool) (P : ℕ → Type 0) → ((v : ℕ) → is_typed Vs t (Variable v) ≡ true → P v) → (xs : List Atom) → all (is_typed Vs t) xs ≡ true →
      (vs : List ℕ) × ((numbers_of xs ≡ Some vs) × All P vs)
  unfolding all numbers_of is_typed
  list-built t P f [] e = ([], (refl, tt))
  list-built t P f (Whole n ∷ xs) e = absurd cc
  list-built t P f (Truth b ∷ xs) e = absurd cc
  list-built t P f (Variable v ∷ xs) e =
      let h = both_true (is_typed Vs t (Variable v)) (all (is_typed Vs t) xs) e in
      let r = list-built t P f xs h.1 in
      (v ∷ r.0, (rw r.1.0 refl, (f v h.0, r.1.1)))

  sum-built : (ps : List Product) → all (is_typed Vs false) (atoms_in ps) ≡ true → (ts : List (Term ℕ)) × ((terms_of ps ≡ Some ts) × All IntegerAt (variables_in ts))
  unfolding all terms_of numbers_of is_typed
  sum-built [] e = ([], (refl, tt))
  sum-built (p ∷ ps) e = let h = both_true (is_typed Vs false p.atom) (all (is_typed Vs false) (atoms_in ps)) e in go p.atom h.0 (sum-built ps h.1)
    where
      go : (x : Atom) → is_typed Vs false x ≡ true → (ts : List (Term ℕ)) × ((terms_of ps ≡ Some ts) × All IntegerAt (variables_in ts)) →
          (ts : List (Term ℕ))
          × ((option_and_then (λ vs. option_and_then (λ ts. Some (p.coefficient · get_or vs 0 0 ∷ ts)) (terms_of ps)) (numbers_of (x ∷ [])) ≡ Some ts) × All IntegerAt (variables_in ts))
      go (Whole n) h r = absurd cc
      go (Truth b) h r = absurd cc
      go (Variable v) h r = (p.coefficient · v ∷ r.0, (rw r.1.0 refl, (below v false h, r.1.1)))

  one-typed : (s : Sort) (g : Given) → given_typed Vs s g ≡ true → Built s g
  unfolding given_typed built_given is_typed
  one-typed integer (atom (Variable v)) e = (v, (refl, below v false e))
  one-typed boolean (atom (Variable v)) e = (v, (refl, boolean-at v e))
  one-typed number (whole n) e = (n, (refl, tt))
  one-typed exponent (whole (pos k)) e = (k, (refl, tt))
  one-typed numbers (list ns) e = (ns, (refl, tt))
  one-typed set (list ns) e = (ns, (refl, tt))
  one-typed integers (atoms xs) e = list-built false IntegerAt (λ v h. below v false h) xs e
  one-typed booleans (atoms xs) e = list-built true BooleanAt boolean-at xs e
  one-typed parallel (products ps) e = sum-built ps e
  one-typed s g e = absurd cc

  -- ---- all arguments, all calls

  every-typed : (ss : List Sort) (f : Takes ss) (gs : List Given) → TypedBy ss f → givens_typed Vs ss gs ≡ true → (b : Builtin) × ((built_givens ss f gs ≡ Some b) × Typed Bs b)
  unfolding givens_typed built_givens
  every-typed [] b [] t e = (b, (refl, t))
  every-typed [] b (g ∷ gs) t e = absurd cc
  every-typed (s ∷ ss) f [] t e = absurd cc
  every-typed (s ∷ ss) f (g ∷ gs) t e =
      let h = both_true (given_typed Vs s g) (givens_typed Vs ss gs) e in
      let o = one-typed s g h.0 in
      let r = every-typed ss (f o.0) gs (t o.0 o.1.1) h.1 in
      (r.0, (rw o.1.0 r.1.0, r.1.1))

  one-call : (c : Call) → call_typed Vs c ≡ true → (b : Builtin) × ((built_call c ≡ Some b) × Typed Bs b)
  unfolding built_call
  one-call c e =
      let r = every-typed (row c.code).sorts (row c.code).make (map given c.arguments.items) (row-typed c.code) e in
      (r.0, (all-built-seen (row c.code).sorts (row c.code).make c.arguments.items ∙ r.1.0, r.1.1))

  -- what the code tests of calls: they are built, and their builtins are typed
  pub calls-typed : (cs : List Call) → all (call_typed Vs) cs ≡ true → (bs : List Builtin) × ((built_all cs ≡ Some bs) × All (Typed Bs) bs)
  unfolding all built_all
  calls-typed [] e = ([], (refl, tt))
  calls-typed (c ∷ cs) e =
      let h = both_true (call_typed Vs c) (all (call_typed Vs) cs) e in
      let o = one-call c h.0 in
      let r = calls-typed cs h.1 in
      (o.0 ∷ r.0, (rw (o.1.0, r.1.0) refl, (o.1.1, r.1.1)))
