-- The call of the shorter builtin is built as the shorter builtin.
use Rattle.std.proofs.Common.{◌≡◌, refl, sym, ap, ◌∙◌, subst, Bool, true, false, ◌&&◌, List, [], ◌∷◌, ◌++◌, map, ℕ, ◌+◌, ℤ, get_or, Option, Some, None}
use Rattle.std.specs.Prelude.{option_and_then}
use Rattle.integers.specs.Choice.{◌if◌else◌}
use Rattle.integers.specs.Number.{◌≟◌, +0, +1, -1}
use Rattle.integers.specs.Terms.{Term, ◌·◌}
use Rattle.models.specs.Builtin.{Builtin, int_eq, int_ne, int_le, int_lt, int_le_reif, int_lt_reif, int_lin_eq, int_lin_ne, int_lin_le, int_lin_le_reif, bool_clause}
use Rattle.models.specs.Table.{Sort, Takes}
use Rattle.models.specs.Table.{Argument as Of}
use Rattle.models.specs.declared.code.Code.{Code}
use Rattle.models.specs.declared.code.Code.TheVariants.{IntEq, IntLe, IntLt, IntNe, IntLeReif, IntPlus, IntTimes, IntAbs, IntMax, IntLinEqReif, IntEqReif, Bool2int, BoolNot, BoolAnd, BoolOr, BoolXor, BoolClause, ArrayBoolAnd, ArrayBoolXor, ArrayIntElement, ArrayVarIntElement, ArrayIntMaximum, SetIn, SetInReif, IntMin, IntLtReif, IntNeReif, IntLinNeReif, ArrayIntMinimum, BoolEqReif, BoolLeReif, BoolLtReif, IntDiv, IntMod, IntPow, IntLinEq, IntLinNe, IntLinLe, IntLinLeReif}
use Rattle.flatzinc.specs.declared.Atom.{Atom}
use Rattle.flatzinc.specs.declared.Atom.TheVariants.{Whole, Truth, Variable}
use Rattle.flatzinc.specs.declared.Product.{Product}
use Rattle.flatzinc.specs.declared.Call.{Call}
use Rattle.flatzinc.specs.Seen.{row}
use Rattle.flatzinc.specs.Calls.{numbers_of, terms_of, built_call}
use Rattle.flatrewriting.specs.Arguments.{Given, atom, whole, products, given}
use Rattle.flatrewriting.specs.Rewritten.{difference, shorter}
use Rattle.flatzinc.specs.Items.{Placed}
use Rattle.flatconstants.specs.Constants.{constant_clauses, clauses_from}
use Rattle.flatconstants.specs.Numbers.{built_given, built_givens}
use Rattle.flatconstants.specs.Short.{short_code, pair_in, pair_at, constant_at, atom_at, Made, short_by, short, IsShort}
use Rattle.flatconstants.proofs.Building.{all-built-seen}

abbrev built_as : Code → List Given → Option Builtin
built_as c gs = built_givens (row c).sorts (row c).make gs

-- what is built of a shorter call; without one, the builtin stays
abbrev Law : Builtin → Builtin → Option Made → Type 0
Law x b None = x ≡ b
Law x b (Some m) = built_as m.code m.arguments ≡ Some x

-- ---- sums

terms-split : (p : Product) (ps : List Product) (ts : List (Term ℕ)) → terms_of (p ∷ ps) ≡ Some ts →
    (v : ℕ) × ((us : List (Term ℕ)) × ((p.atom ≡ Variable v) × (terms_of ps ≡ Some us) × (p.coefficient · v ∷ us ≡ ts)))
unfolding terms_of numbers_of
terms-split p ps ts e = go p.atom (terms_of ps) e
  where
    go : (x : Atom) (o : Option (List (Term ℕ))) → option_and_then (λ vs. option_and_then (λ us. Some (p.coefficient · get_or vs 0 0 ∷ us)) o) (numbers_of (x ∷ [])) ≡ Some ts →
        (v : ℕ) × ((us : List (Term ℕ)) × ((x ≡ Variable v) × (o ≡ Some us) × (p.coefficient · v ∷ us ≡ ts)))
    go (Whole n) o e = absurd cc
    go (Truth b) o e = absurd cc
    go (Variable v) None e = absurd cc
    go (Variable v) (Some us) e = (v, (us, (refl, refl, cc)))

-- the pair of a sum, and what is made of its difference
abbrev Pair : Builtin → Builtin → (ℕ → ℕ → Builtin) → Option (Atom × Atom) → Type 0
Pair d b make None = d ≡ b
Pair d b make (Some p) = (u : ℕ) × ((v : ℕ) × ((p.0 ≡ Variable u) × (p.1 ≡ Variable v) × (d ≡ make u v)))

no-terms : (us : List (Term ℕ)) → terms_of [] ≡ Some us → [] ≡ us
unfolding terms_of
no-terms us e = cc

pair-law : (ps : List Product) (ts : List (Term ℕ)) (b : Builtin) (make : ℕ → ℕ → Builtin) → terms_of ps ≡ Some ts → Pair (difference ts b make) b make (pair_in ps)
unfolding pair_in difference
pair-law [] ts b make e = subst (λ (us : List (Term ℕ)). difference us b make ≡ b) (no-terms ts e) refl
pair-law (s ∷ []) ts b make e =
    let q = terms-split s [] ts e in
    subst (λ (us : List (Term ℕ)). difference us b make ≡ b) q.1.1.2 (subst (λ (us : List (Term ℕ)). difference (s.coefficient · q.0 ∷ us) b make ≡ b) (no-terms q.1.0 q.1.1.1) refl)
pair-law (s ∷ t ∷ []) ts b make e =
    let q = terms-split s (t ∷ []) ts e in
    let r = terms-split t [] q.1.0 q.1.1.1 in
    let two : s.coefficient · q.0 ∷ t.coefficient · r.0 ∷ [] ≡ ts =
    ap (λ (us : List (Term ℕ)). s.coefficient · q.0 ∷ t.coefficient · r.0 ∷ us) (no-terms r.1.0 r.1.1.1) ∙ ap (λ (us : List (Term ℕ)). s.coefficient · q.0 ∷ us) r.1.1.2 ∙ q.1.1.2 in
    subst (λ (us : List (Term ℕ)). Pair (difference us b make) b make (pair_in (s ∷ t ∷ []))) two
    (go q.0 r.0 q.1.1.0 r.1.1.0 ((s.coefficient ≟ +1) && (t.coefficient ≟ -1)) ((s.coefficient ≟ -1) && (t.coefficient ≟ +1)))
  where
    go : (u v : ℕ) → s.atom ≡ Variable u → t.atom ≡ Variable v → (x y : Bool) →
        Pair (make u v if x else make v u if y else b) b make (Some (s.atom, t.atom) if x else Some (t.atom, s.atom) if y else None)
    go u v f g true y = (u, (v, (f, g, refl)))
    go u v f g false true = (v, (u, (g, f, refl)))
    go u v f g false false = refl
pair-law (s ∷ t ∷ p ∷ ps) ts b make e =
    let q = terms-split s (t ∷ p ∷ ps) ts e in
    let r = terms-split t (p ∷ ps) q.1.0 q.1.1.1 in
    let w = terms-split p ps r.1.0 r.1.1.1 in
    subst (λ (us : List (Term ℕ)). difference us b make ≡ b) q.1.1.2
    (subst (λ (us : List (Term ℕ)). difference (s.coefficient · q.0 ∷ us) b make ≡ b) r.1.1.2
    (subst (λ (us : List (Term ℕ)). difference (s.coefficient · q.0 ∷ t.coefficient · r.0 ∷ us) b make ≡ b) w.1.1.2 refl))

one-short : (ps : List Product) (ts : List (Term ℕ)) → terms_of ps ≡ Some ts → (d : Code) (rest : List Given) (make : ℕ → ℕ → Builtin) (b : Builtin) →
    ((u v : ℕ) → built_as d (atom (Variable u) ∷ atom (Variable v) ∷ rest) ≡ Some (make u v)) →
    Law (difference ts b make) b (option_and_then (λ p. Some (record { code = d; arguments = atom p.0 ∷ atom p.1 ∷ rest })) (pair_in ps))
one-short ps ts e d rest make b h = go (pair_in ps) (pair-law ps ts b make e)
  where
    go : (o : Option (Atom × Atom)) → Pair (difference ts b make) b make o →
        Law (difference ts b make) b (option_and_then (λ p. Some (record { code = d; arguments = atom p.0 ∷ atom p.1 ∷ rest })) o)
    go None k = k
    go (Some p) k = rw (k.1.1.0, k.1.1.1, k.1.1.2) (h k.0 k.1.0)

built-of : (o : Option (List (Term ℕ))) (f : List (Term ℕ) → Builtin) (b : Builtin) → option_and_then (λ ts. Some (f ts)) o ≡ Some b →
    (ts : List (Term ℕ)) × ((o ≡ Some ts) × (f ts ≡ b))
built-of None f b e = absurd cc
built-of (Some ts) f b e = (ts, (refl, cc))

no-builtin : {G : Type 0} {b : Builtin} (o : Option (List (Term ℕ))) → option_and_then {U = Builtin} (λ ts. None) o ≡ Some b → G
no-builtin None e = absurd cc
no-builtin (Some ts) e = absurd cc

-- ---- the four builtins

lin-eq : (gs : List Given) (b : Builtin) → built_as IntLinEq gs ≡ Some b → Law (shorter b) b (short IntLinEq gs)
unfolding short short_code pair_at constant_at shorter built_givens built_given
lin-eq [] b e = absurd cc
lin-eq (products ps ∷ []) b e = no-builtin (terms_of ps) e
lin-eq (products ps ∷ whole n ∷ []) b e =
    let q = built-of (terms_of ps) (λ ts. int_lin_eq ts n) b e in
    subst (λ (x : Builtin). Law (shorter x) x (short IntLinEq (products ps ∷ whole n ∷ []))) q.1.1 (go q.0 q.1.0 (n ≟ +0))
  where
    go : (ts : List (Term ℕ)) → terms_of ps ≡ Some ts → (t : Bool) →
        Law (difference ts (int_lin_eq ts n) int_eq if t else int_lin_eq ts n) (int_lin_eq ts n)
        (option_and_then (λ d. option_and_then (λ p. Some (record { code = d; arguments = atom p.0 ∷ atom p.1 ∷ [] })) (pair_in ps)) (Some IntEq if t else None))
    go ts h true = one-short ps ts h IntEq [] int_eq (int_lin_eq ts n) (λ u v. refl)
    go ts h false = refl
lin-eq (products ps ∷ whole n ∷ k ∷ gs) b e = no-builtin (terms_of ps) e
lin-eq (products ps ∷ h ∷ gs) b e = no-builtin (terms_of ps) e
lin-eq (g ∷ gs) b e = absurd cc

lin-ne : (gs : List Given) (b : Builtin) → built_as IntLinNe gs ≡ Some b → Law (shorter b) b (short IntLinNe gs)
unfolding short short_code pair_at constant_at shorter built_givens built_given
lin-ne [] b e = absurd cc
lin-ne (products ps ∷ []) b e = no-builtin (terms_of ps) e
lin-ne (products ps ∷ whole n ∷ []) b e =
    let q = built-of (terms_of ps) (λ ts. int_lin_ne ts n) b e in
    subst (λ (x : Builtin). Law (shorter x) x (short IntLinNe (products ps ∷ whole n ∷ []))) q.1.1 (go q.0 q.1.0 (n ≟ +0))
  where
    go : (ts : List (Term ℕ)) → terms_of ps ≡ Some ts → (t : Bool) →
        Law (difference ts (int_lin_ne ts n) int_ne if t else int_lin_ne ts n) (int_lin_ne ts n)
        (option_and_then (λ d. option_and_then (λ p. Some (record { code = d; arguments = atom p.0 ∷ atom p.1 ∷ [] })) (pair_in ps)) (Some IntNe if t else None))
    go ts h true = one-short ps ts h IntNe [] int_ne (int_lin_ne ts n) (λ u v. refl)
    go ts h false = refl
lin-ne (products ps ∷ whole n ∷ k ∷ gs) b e = no-builtin (terms_of ps) e
lin-ne (products ps ∷ h ∷ gs) b e = no-builtin (terms_of ps) e
lin-ne (g ∷ gs) b e = absurd cc

lin-le : (gs : List Given) (b : Builtin) → built_as IntLinLe gs ≡ Some b → Law (shorter b) b (short IntLinLe gs)
unfolding short short_code pair_at constant_at shorter built_givens built_given
lin-le [] b e = absurd cc
lin-le (products ps ∷ []) b e = no-builtin (terms_of ps) e
lin-le (products ps ∷ whole n ∷ []) b e =
    let q = built-of (terms_of ps) (λ ts. int_lin_le ts n) b e in
    subst (λ (x : Builtin). Law (shorter x) x (short IntLinLe (products ps ∷ whole n ∷ []))) q.1.1 (go q.0 q.1.0 (n ≟ +0) (n ≟ -1))
  where
    go : (ts : List (Term ℕ)) → terms_of ps ≡ Some ts → (t u : Bool) →
        Law (difference ts (int_lin_le ts n) int_le if t else difference ts (int_lin_le ts n) int_lt if u else int_lin_le ts n) (int_lin_le ts n)
        (option_and_then (λ d. option_and_then (λ p. Some (record { code = d; arguments = atom p.0 ∷ atom p.1 ∷ [] })) (pair_in ps)) (Some IntLe if t else Some IntLt if u else None))
    go ts h true u = one-short ps ts h IntLe [] int_le (int_lin_le ts n) (λ u v. refl)
    go ts h false true = one-short ps ts h IntLt [] int_lt (int_lin_le ts n) (λ u v. refl)
    go ts h false false = refl
lin-le (products ps ∷ whole n ∷ k ∷ gs) b e = no-builtin (terms_of ps) e
lin-le (products ps ∷ h ∷ gs) b e = no-builtin (terms_of ps) e
lin-le (g ∷ gs) b e = absurd cc

lin-le_reif : (gs : List Given) (b : Builtin) → built_as IntLinLeReif gs ≡ Some b → Law (shorter b) b (short IntLinLeReif gs)
unfolding short short_code pair_at constant_at atom_at shorter built_givens built_given
lin-le_reif [] b e = absurd cc
lin-le_reif (products ps ∷ []) b e = no-builtin (terms_of ps) e
lin-le_reif (products ps ∷ whole n ∷ []) b e = no-builtin (terms_of ps) e
lin-le_reif (products ps ∷ whole n ∷ atom (Variable r) ∷ []) b e =
    let q = built-of (terms_of ps) (λ ts. int_lin_le_reif ts n r) b e in
    subst (λ (x : Builtin). Law (shorter x) x (short IntLinLeReif (products ps ∷ whole n ∷ atom (Variable r) ∷ []))) q.1.1 (go q.0 q.1.0 (n ≟ +0) (n ≟ -1))
  where
    go : (ts : List (Term ℕ)) → terms_of ps ≡ Some ts → (t u : Bool) →
        Law
        (difference ts (int_lin_le_reif ts n r) (λ a b. int_le_reif a b r) if t
        else difference ts (int_lin_le_reif ts n r) (λ a b. int_lt_reif a b r) if u
        else int_lin_le_reif ts n r)
        (int_lin_le_reif ts n r)
        (option_and_then (λ d. option_and_then (λ p. Some (record { code = d; arguments = atom p.0 ∷ atom p.1 ∷ atom (Variable r) ∷ [] })) (pair_in ps))
        (Some IntLeReif if t else Some IntLtReif if u else None))
    go ts h true u = one-short ps ts h IntLeReif (atom (Variable r) ∷ []) (λ a b. int_le_reif a b r) (int_lin_le_reif ts n r) (λ u v. refl)
    go ts h false true = one-short ps ts h IntLtReif (atom (Variable r) ∷ []) (λ a b. int_lt_reif a b r) (int_lin_le_reif ts n r) (λ u v. refl)
    go ts h false false = refl
lin-le_reif (products ps ∷ whole n ∷ atom (Variable r) ∷ k ∷ gs) b e = no-builtin (terms_of ps) e
lin-le_reif (products ps ∷ whole n ∷ k ∷ gs) b e = no-builtin (terms_of ps) e
lin-le_reif (products ps ∷ h ∷ gs) b e = no-builtin (terms_of ps) e
lin-le_reif (g ∷ gs) b e = absurd cc

-- ---- the other builtins stay

Stays : (ss : List Sort) → Takes ss → Type 0
Stays [] b = shorter b ≡ b
Stays (s ∷ ss) f = (a : Of s) → Stays ss (f a)

row-stays : (c : Code) → ((n : ℤ) → short_code c n ≡ None) → Stays (row c).sorts (row c).make
unfolding Stays shorter short_code ◌≟◌
row-stays IntLinEq h = let e = h +0 in absurd cc
row-stays IntLinNe h = let e = h +0 in absurd cc
row-stays IntLinLe h = let e = h +0 in absurd cc
row-stays IntLinLeReif h = let e = h +0 in absurd cc
row-stays IntEq h = λ a b. refl
row-stays IntLe h = λ a b. refl
row-stays IntLt h = λ a b. refl
row-stays IntNe h = λ a b. refl
row-stays IntLeReif h = λ a b c. refl
row-stays IntPlus h = λ a b c. refl
row-stays IntTimes h = λ a b c. refl
row-stays IntAbs h = λ a b. refl
row-stays IntMax h = λ a b c. refl
row-stays IntLinEqReif h = λ a b c. refl
row-stays IntEqReif h = λ a b c. refl
row-stays Bool2int h = λ a b. refl
row-stays BoolNot h = λ a b. refl
row-stays BoolAnd h = λ a b c. refl
row-stays BoolOr h = λ a b c. refl
row-stays BoolXor h = λ a b c. refl
row-stays BoolClause h = λ a b. refl
row-stays ArrayBoolAnd h = λ a b. refl
row-stays ArrayBoolXor h = λ a. refl
row-stays ArrayIntElement h = λ a b c. refl
row-stays ArrayVarIntElement h = λ a b c. refl
row-stays ArrayIntMaximum h = λ a b. refl
row-stays SetIn h = λ a b. refl
row-stays SetInReif h = λ a b c. refl
row-stays IntMin h = λ a b c. refl
row-stays IntLtReif h = λ a b c. refl
row-stays IntNeReif h = λ a b c. refl
row-stays IntLinNeReif h = λ a b c. refl
row-stays ArrayIntMinimum h = λ a b. refl
row-stays BoolEqReif h = λ a b c. refl
row-stays BoolLeReif h = λ a b c. refl
row-stays BoolLtReif h = λ a b c. refl
row-stays IntDiv h = λ a b c. refl
row-stays IntMod h = λ a b c. refl
row-stays IntPow h = λ a b c. refl

stays_built : (ss : List Sort) (f : Takes ss) (gs : List Given) (b : Builtin) → Stays ss f → built_givens ss f gs ≡ Some b → shorter b ≡ b
unfolding Stays built_givens
stays_built [] c [] b s e = let h : c ≡ b = cc in rw (← h) s
stays_built [] c (g ∷ gs) b s e = absurd cc
stays_built (t ∷ ss) f [] b s e = absurd cc
stays_built (t ∷ ss) f (g ∷ gs) b s e = go (built_given t g) e (λ a k. stays_built ss (f a) gs b (s a) k)
  where
    go : (o : Option (Of t)) → option_and_then (λ a. built_givens ss (f a) gs) o ≡ Some b → ((a : Of t) → built_givens ss (f a) gs ≡ Some b → shorter b ≡ b) → shorter b ≡ b
    go None e h = absurd cc
    go (Some a) e h = h a e

none-by : (c : Code) → ((n : ℤ) → short_code c n ≡ None) → (g h : Given) (rest : List Given) → short_by c g h rest ≡ None
none-by c given-none g h rest = go (constant_at h)
  where
    go : (o : Option ℤ) → option_and_then (λ n. option_and_then (λ d. option_and_then {U = Made} (λ p. Some (record { code = d; arguments = atom p.0 ∷ atom p.1 ∷ rest })) (pair_at g)) (short_code c n)) o ≡ None
    go None = refl
    go (Some n) = rw (given-none n) refl

none-short : (c : Code) → ((n : ℤ) → short_code c n ≡ None) → (gs : List Given) → short c gs ≡ None
unfolding short
none-short c given-none [] = refl
none-short c given-none (g ∷ []) = refl
none-short c given-none (g ∷ h ∷ []) = none-by c given-none g h []
none-short c given-none (g ∷ h ∷ k ∷ []) = go (atom_at k)
  where
    go : (o : Option Atom) → option_and_then (λ r. short_by c g h (atom r ∷ [])) o ≡ None
    go None = refl
    go (Some r) = none-by c given-none g h (atom r ∷ [])
none-short c given-none (g ∷ h ∷ k ∷ l ∷ gs) = refl

other : (c : Code) → ((n : ℤ) → short_code c n ≡ None) → (gs : List Given) (b : Builtin) → built_as c gs ≡ Some b → Law (shorter b) b (short c gs)
other c given-none gs b e = subst (Law (shorter b) b) (sym (none-short c given-none gs)) (stays_built (row c).sorts (row c).make gs b (row-stays c given-none) e)

short-law : (c : Code) (gs : List Given) (b : Builtin) → built_as c gs ≡ Some b → Law (shorter b) b (short c gs)
unfolding short_code
short-law IntLinEq gs b e = lin-eq gs b e
short-law IntLinNe gs b e = lin-ne gs b e
short-law IntLinLe gs b e = lin-le gs b e
short-law IntLinLeReif gs b e = lin-le_reif gs b e
short-law c gs b e = other _ (λ n. refl) gs b e

-- ---- a call

built_as-call : (c : Call) → built_call c ≡ built_as c.code (map given c.arguments.items)
unfolding built_call
built_as-call c = all-built-seen (row c.code).sorts (row c.code).make c.arguments.items

pub made-short : (c d : Call) (b : Builtin) → IsShort (short c.code (map given c.arguments.items)) (Some d) → built_call c ≡ Some b → built_call d ≡ Some (shorter b)
made-short c d b s e =
    built_as-call d ∙ subst (Law (shorter b) b) s (short-law c.code (map given c.arguments.items) b (sym (built_as-call c) ∙ e))

pub left_long : (c : Call) (b : Builtin) → IsShort (short c.code (map given c.arguments.items)) None → built_call c ≡ Some b → built_call c ≡ Some (shorter b)
left_long c b s e = e ∙ ap Some (sym (subst (Law (shorter b) b) s (short-law c.code (map given c.arguments.items) b (sym (built_as-call c) ∙ e))))

-- ---- the other codes

pub no-short_code : (c : Code) (n : ℤ) → (c ≡ IntLinEq → ⊥) → (c ≡ IntLinNe → ⊥) → (c ≡ IntLinLe → ⊥) → (c ≡ IntLinLeReif → ⊥) → short_code c n ≡ None
unfolding short_code
no-short_code IntLinEq n h i j k = absurd (h refl)
no-short_code IntLinNe n h i j k = absurd (i refl)
no-short_code IntLinLe n h i j k = absurd (j refl)
no-short_code IntLinLeReif n h i j k = absurd (k refl)
no-short_code c n h i j k = refl

-- ---- clauses of constants are as short

shorter-clauses : (n : ℕ) (table : List Atom) (rest : List Builtin) → map shorter (clauses_from n table ++ rest) ≡ clauses_from n table ++ map shorter rest
unfolding clauses_from constant_clauses shorter
shorter-clauses n [] rest = refl
shorter-clauses n (Whole m ∷ as₁) rest = shorter-clauses (n + 1) as₁ rest
shorter-clauses n (Truth true ∷ as₁) rest = ap (λ (bs : List Builtin). bool_clause (n ∷ []) [] ∷ bs) (shorter-clauses (n + 1) as₁ rest)
shorter-clauses n (Truth false ∷ as₁) rest = ap (λ (bs : List Builtin). bool_clause [] (n ∷ []) ∷ bs) (shorter-clauses (n + 1) as₁ rest)
shorter-clauses n (Variable v ∷ as₁) rest = shorter-clauses (n + 1) as₁ rest

shorter-each : (f : Placed → Builtin) (ps : List Placed) → map shorter (map f ps) ≡ map (λ p. shorter (f p)) ps
shorter-each f [] = refl
shorter-each f (p ∷ ps) = ap (λ (bs : List Builtin). shorter (f p) ∷ bs) (shorter-each f ps)

pub shorter-all : (n : ℕ) (table : List Atom) (f : Placed → Builtin) (ps : List Placed) → map shorter (clauses_from n table ++ map f ps) ≡ clauses_from n table ++ map (λ p. shorter (f p)) ps
shorter-all n table f ps = shorter-clauses n table (map f ps) ∙ ap (λ (bs : List Builtin). clauses_from n table ++ bs) (shorter-each f ps)
