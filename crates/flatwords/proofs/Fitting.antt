-- The tests say what fits.
use Rattle.std.proofs.Common.{◌≡◌, refl, sym, ap, ◌∙◌, subst, Bool, true, false, ◌&&◌, List, [], ◌∷◌, ◌++◌, append_assoc, append-nil, map, ℕ, ◌<◌, ◌≤◌, ltb, leb, ltb-true, lt-ltb, leb-true, le-leb, ℤ, pos, length, Some}
use Rattle.std.specs.Prelude.{option_and_then}
use Rattle.std.specs.List.{list_all}
use Rattle.std.proofs.lemmas.List.{length-map}
use Rattle.std.specs.Int.Signed.{le_z}
use Rattle.integers.specs.Terms.{◌·◌}
use Rattle.integers.proofs.Linear.{arith_z}
use Rattle.integers.proofs.Tests.{Says, All, says-and, says-le}
use Rattle.words.specs.Word.{in_range}
use Rattle.models.specs.Builtin.{Builtin}
use Rattle.models.specs.Table.{Sort, integer, boolean, number, exponent, numbers, set, integers, booleans, parallel, Takes}
use Rattle.models.specs.Table.{Argument as Of}
use Rattle.models.specs.declared.code.Code.{Code}
use Rattle.models.specs.declared.code.Code.TheVariants as c
use Rattle.models.specs.Codes.{code_number}
use Rattle.models.proofs.Arguments.{Given, ◌!◌, arguments_of}
use Rattle.flatzinc.specs.declared.Atom.TheVariants.{Variable}
use Rattle.flatzinc.specs.declared.Product.{Product}
use Rattle.flatzinc.specs.declared.Argument.{Argument}
use Rattle.flatzinc.specs.declared.Argument.TheVariants.{One, Number, Numbers, Many, Sum}
use Rattle.flatzinc.specs.declared.Call.{Call}
use Rattle.flatzinc.specs.declared.ModelVariable.{ModelVariable}
use Rattle.flatzinc.specs.Numbers.{number_of}
use Rattle.flatzinc.specs.Seen.{row}
use Rattle.flatzinc.specs.Calls.{built_argument, built_arguments, built_call, built_all}
use Rattle.flatzinc.proofs.Built.{some_is, none_is, and_then, atoms-numbered, terms-numbered}
use Rattle.flatwords.specs.Fits.{Small, InRange, SmallTerm, ArgumentFits, BuiltinFits, VariableFits, ModelFits}
use Rattle.flatwords.specs.CallFits.{atom_fits, product_fits, argument_fits, is_power, call_fits, variable_fits}
use Rattle.flatwords.proofs.CallWords.{Makes, each-makes}

says-small : (n m : ℕ) → Says (ltb n m) (n < m)
says-small n m = (λ e. ltb-true n m e, λ h. lt-ltb n m h)

says-few : (n m : ℕ) → Says (leb n m) (n ≤ m)
says-few n m = (λ e. leb-true n m e, λ h. le-leb n m h)

says_list : {A : Type 0} (t : A → Bool) (P : A → Type 0) → ((x : A) → Says (t x) (P x)) → (xs : List A) → Says (list_all t xs) (All P xs)
says_list t P h [] = (λ e. tt, λ k. refl)
says_list t P h (x ∷ xs) = says-and (h x) (says_list t P h xs)

itself : (b : Bool) → Says b (b ≡ true)
itself b = (λ e. e, λ e. e)

-- of a list of which another one is the image
says-image : {A B : Type 0} (f : A → B) (t : A → Bool) (P : B → Type 0) → ((x : A) → Says (t x) (P (f x))) → (xs : List A) (ys : List B) → map f xs ≡ ys →
    Says (leb (length xs) 32 && list_all t xs) ((length ys ≤ 32) × All P ys)
says-image {A} f t P h xs ys e =
    subst (λ zs. Says (leb (length xs) 32 && list_all t xs) ((length zs ≤ 32) × All P zs)) e
    (subst (λ n. Says (leb (length xs) 32 && list_all t xs) ((n ≤ 32) × All P (map f xs))) (sym (length-map xs f)) (says-and (says-few (length xs) 32) (images xs)))
  where
    images : (xs : List A) → Says (list_all t xs) (All P (map f xs))
    images [] = (λ e. tt, λ k. refl)
    images (x ∷ xs) = says-and (h x) (images xs)

-- a number is an exponent where the builtin is a power
abbrev Suits : Bool → Sort → Type 0
Suits p integer = Unit {0}
Suits p boolean = Unit {0}
Suits p number = p ≡ false
Suits p exponent = p ≡ true
Suits p numbers = Unit {0}
Suits p set = Unit {0}
Suits p integers = Unit {0}
Suits p booleans = Unit {0}
Suits p parallel = Unit {0}

exponent_says : (k : ℕ) → Says (le_z (pos k) (pos 27)) (k ≤ 27)
exponent_says k = let s = says-le (pos k) (pos 27) in (λ e. omega (arith_z, s.0 e), λ h. s.1 (omega (arith_z, h)))

says-argument : (p : Bool) (s : Sort) (g : Argument) (a : Of s) → Suits p s → built_argument s g ≡ Some a → Says (argument_fits p g) (ArgumentFits s a)
unfolding built_argument
says-argument p integer (One (Variable v)) a u e = subst (λ (n : ℕ). Says (ltb v 268435456) (n < 268435456)) (some_is v a e) (says-small v 268435456)
says-argument p boolean (One (Variable v)) a u e = subst (λ (n : ℕ). Says (ltb v 268435456) (n < 268435456)) (some_is v a e) (says-small v 268435456)
says-argument p number (Number n) a u e = rw u (subst (λ (z : ℤ). Says (in_range n) (InRange z)) (some_is n a e) (itself (in_range n)))
says-argument p exponent (Number (pos k)) a u e = rw u (subst (λ (n : ℕ). Says (le_z (pos k) (pos 27)) (n ≤ 27)) (some_is k a e) (exponent_says k))
says-argument p numbers (Numbers ns) a u e =
    subst (λ (l : List ℤ). Says (leb (length ns.items) 32 && list_all in_range ns.items) ((length l ≤ 32) × All InRange l)) (some_is ns.items a e)
    (says-and (says-few (length ns.items) 32) (says_list in_range InRange (λ z. itself (in_range z)) ns.items))
says-argument p set (Numbers ns) a u e =
    subst (λ (l : List ℤ). Says (leb (length ns.items) 32 && list_all in_range ns.items) ((length l ≤ 32) × All InRange l)) (some_is ns.items a e)
    (says-and (says-few (length ns.items) 32) (says_list in_range InRange (λ z. itself (in_range z)) ns.items))
says-argument p integers (Many xs) a u e = says-image number_of atom_fits Small (λ x. says-small (number_of x) 268435456) xs.items a (atoms-numbered xs.items a e)
says-argument p booleans (Many xs) a u e = says-image number_of atom_fits Small (λ x. says-small (number_of x) 268435456) xs.items a (atoms-numbered xs.items a e)
says-argument p parallel (Sum ps) a u e =
    says-image (λ (q : Product). q.coefficient · number_of q.atom) product_fits SmallTerm (λ q. says-and (itself (in_range q.coefficient)) (says-small (number_of q.atom) 268435456)) ps.items a
    (terms-numbered ps.items a e)
says-argument p s g a u e = none_is a e

abbrev GivenFits : Given → Type 0
GivenFits g = ArgumentFits g.sort g.is

says-made : (p : Bool) (n : ℕ) (ss : List Sort) (f : Takes ss) (before : List Given) → Makes n ss f before → All (Suits p) ss → (gs : List Argument) (b : Builtin) → built_arguments ss f gs ≡ Some b →
    (Gs : List Given) × ((arguments_of b ≡ before ++ Gs) × Says (list_all (argument_fits p) gs) (All GivenFits Gs))
unfolding built_arguments
says-made p n [] f before m u [] b e = ([], (ap arguments_of (sym (some_is f b e)) ∙ m.1 ∙ sym (append-nil before), (λ k. tt, λ k. refl)))
says-made p n [] f before m u (g ∷ gs) b e = none_is b e
says-made p n (s ∷ ss) f before m u [] b e = none_is b e
says-made p n (s ∷ ss) f before m u (g ∷ gs) b e =
    let r = and_then (built_argument s g) (λ a. built_arguments ss (f a) gs) b e in
    let h = says-made p n ss (f r.0) (before ++ (s ! r.0) ∷ []) (m r.0) u.1 gs b r.1.1 in
    ((s ! r.0) ∷ h.0, (h.1.0 ∙ append_assoc before ((s ! r.0) ∷ []) h.0, says-and (says-argument p s g r.0 u.0 r.1.0) h.1.1))

suits : (k : Code) → All (Suits (is_power k)) (row k).sorts
suits c.IntPow = (tt, (refl, (tt, tt)))
suits c.IntLinEq = (tt, (refl, tt))
suits c.IntLinLe = (tt, (refl, tt))
suits c.IntLinNe = (tt, (refl, tt))
suits c.IntLinEqReif = (tt, (refl, (tt, tt)))
suits c.IntLinLeReif = (tt, (refl, (tt, tt)))
suits c.IntLinNeReif = (tt, (refl, (tt, tt)))
suits c.ArrayBoolXor = (tt, tt)
suits c.IntEq = (tt, (tt, tt))
suits c.IntLe = (tt, (tt, tt))
suits c.IntLt = (tt, (tt, tt))
suits c.IntNe = (tt, (tt, tt))
suits c.IntAbs = (tt, (tt, tt))
suits c.Bool2int = (tt, (tt, tt))
suits c.BoolNot = (tt, (tt, tt))
suits c.BoolClause = (tt, (tt, tt))
suits c.ArrayBoolAnd = (tt, (tt, tt))
suits c.ArrayIntMaximum = (tt, (tt, tt))
suits c.ArrayIntMinimum = (tt, (tt, tt))
suits c.SetIn = (tt, (tt, tt))
suits k = (tt, (tt, (tt, tt)))

says-call : (k : Call) (b : Builtin) → built_call k ≡ Some b → Says (call_fits k) (BuiltinFits b)
unfolding built_call
says-call k b e =
    let h = says-made (is_power k.code) (code_number k.code) (row k.code).sorts (row k.code).make [] (each-makes k.code) (suits k.code) k.arguments.items b e in
    subst (λ (gs : List Given). Says (call_fits k) (All GivenFits gs)) (sym h.1.0) h.1.1

says-calls : (ks : List Call) (bs : List Builtin) → built_all ks ≡ Some bs → Says (list_all call_fits ks) (All BuiltinFits bs)
unfolding built_all
says-calls [] bs e = subst (λ (l : List Builtin). Says true (All BuiltinFits l)) (some_is [] bs e) (λ k. tt, λ k. refl)
says-calls (k ∷ ks) bs e =
    let q = and_then (built_call k) (λ b. option_and_then (λ ds. Some (b ∷ ds)) (built_all ks)) bs e in
    let r = and_then (built_all ks) (λ ds. Some (q.0 ∷ ds)) bs q.1.1 in
    subst (λ (l : List Builtin). Says (call_fits k && list_all call_fits ks) (All BuiltinFits l)) (some_is (q.0 ∷ r.0) bs r.1.1) (says-and (says-call k q.0 q.1.0) (says-calls ks r.0 r.1.0))

says-variable : (v : ModelVariable) → Says (variable_fits v) (VariableFits v.is_boolean v.bounds)
says-variable v = by v.is_boolean
  where
    by : (t : Bool) → Says (variable_fits (record v { is_boolean = t })) (VariableFits t v.bounds)
    by true = (λ e. tt, λ k. refl)
    by false = says-and (itself (in_range v.bounds.lower)) (itself (in_range v.bounds.upper))

pub says-fits : (vs : List ModelVariable) (ks : List Call) (bs : List Builtin) → built_all ks ≡ Some bs → Says (list_all variable_fits vs && list_all call_fits ks) (ModelFits vs bs)
says-fits vs ks bs e = says-and (says_list variable_fits (λ v. VariableFits v.is_boolean v.bounds) says-variable vs) (says-calls ks bs e)
