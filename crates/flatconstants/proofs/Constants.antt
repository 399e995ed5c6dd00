-- Constants as variables of one value: what is placed of atoms is carried over to builtins over variables, by the values of the constants and no others.
use Rattle.std.proofs.Common.{◌≡◌, refl, sym, ap, ap₂, ◌∙◌, subst, ◌↔◌, Bool, true, false, ◌||◌, List, [], ◌∷◌, ◌++◌, map, ℕ, zero, suc, ◌+◌, ◌<◌, arith, ℤ, length, length-append, get_or}
use Rattle.std.proofs.lemmas.List.{length-map}
use mathlib.Core.Path.{fun_ext}
use mathlib.Core.Bool.{beq}
use Rattle.integers.specs.Choice.{◌if◌else◌}
use Rattle.integers.specs.Number.{◌≟◌, +0, +1}
use Rattle.integers.specs.Lists.{any}
use Rattle.integers.specs.Bounds.{◌to◌}
use Rattle.integers.specs.Terms.{Valuation, value}
use Rattle.integers.specs.declared.Bounds.{Bounds}
use Rattle.integers.proofs.Linear.{linear, arith_z}
use Rattle.integers.proofs.Bits.{Bit}
use Rattle.integers.proofs.Lists.{all_append, all_implies, all_or_past}
use Rattle.integers.proofs.Tests.{In, All, says-equal, false-true}
use Rattle.models.specs.Meaning.{meaning, on, off}
use Rattle.sharing.proofs.Good.{Keeps, Are}
use Rattle.sharing.proofs.Gates.{keeps-append, are-value}
use Rattle.sharing.proofs.Satisfied.{keeps-agree}
use Rattle.sharing.proofs.Shared.{agrees}
use Rattle.flatzinc.specs.System.{Carries}
use Rattle.flatzinc.specs.declared.Atom.{Atom}
use Rattle.flatzinc.specs.declared.Atom.TheVariants.{Whole, Truth, Variable}
use Rattle.flatzinc.specs.Items.{Placed, value_of, placed_true}
use Rattle.flatconstants.specs.Constants.{same_constant, index_of, number_of, constant_bounds, constant_clauses, clauses_from, with_numbers, known, collected, atoms_of, constants}
use Rattle.flatzinc.proofs.Solved.{True, AllTrue, Sol}
use Rattle.flatconstants.proofs.Renamed.{meaning-renamed}
use Rattle.integers.proofs.Booleans.{or-true}
use Rattle.flatzinc.proofs.Plain.{any-two}

-- the value of a constant, of no variable
abbrev pub constant_value : Atom → ℤ
constant_value a = value_of (λ v. +0) a

are-self : (xs : List ℤ) → Are xs (value xs)
unfolding value
are-self [] = tt
are-self (x ∷ xs) = (refl, are-self xs)

-- ---- a constant in the table

same-value : (a b : Atom) → same_constant a b ≡ true → constant_value b ≡ constant_value a
unfolding same_constant value_of
same-value (Whole m) (Whole n) e = sym ((says-equal m n).0 e)
same-value (Truth true) (Truth true) e = refl
same-value (Truth true) (Truth false) e = false-true e
same-value (Truth false) (Truth true) e = false-true e
same-value (Truth false) (Truth false) e = refl
same-value (Whole m) (Truth b) e = false-true e
same-value (Whole m) (Variable v) e = false-true e
same-value (Truth a) (Whole n) e = false-true e
same-value (Truth a) (Variable v) e = false-true e
same-value (Variable v) b e = false-true e

looked-up : (a : Atom) (table : List Atom) → any (same_constant a) table ≡ true → get_or (map constant_value table) (index_of a table) +0 ≡ constant_value a
unfolding any index_of
looked-up a [] e = false-true e
looked-up a (b ∷ bs) e = go (looked-up a bs) (same_constant a b) refl e
  where
    go : (any (same_constant a) bs ≡ true → get_or (map constant_value bs) (index_of a bs) +0 ≡ constant_value a) → (t : Bool) → same_constant a b ≡ t → (t || any (same_constant a) bs) ≡ true →
        get_or (constant_value b ∷ map constant_value bs) (0 if t else suc (index_of a bs)) +0 ≡ constant_value a
    go again true s e = same-value a b s
    go again false s e = again e

-- what stands for 0 is 0, in the table and past it
zero-up : (table : List Atom) → get_or (map constant_value table) (index_of (Whole +0) table) +0 ≡ +0
unfolding index_of value_of
zero-up [] = refl
zero-up (b ∷ bs) = go (zero-up bs) (same_constant (Whole +0) b) refl
  where
    go : get_or (map constant_value bs) (index_of (Whole +0) bs) +0 ≡ +0 → (t : Bool) → same_constant (Whole +0) b ≡ t →
        get_or (constant_value b ∷ map constant_value bs) (0 if t else suc (index_of (Whole +0) bs)) +0 ≡ +0
    go again true s = same-value (Whole +0) b s
    go again false s = again

-- ---- bounds and clauses leave the constants' values alone

only-one : (n x : ℤ) → In (n to n) x ↔ (x ≡ n)
only-one = simp linear (omega arith)

true-bit : (x : ℤ) → Bit x → ((x ≟ +1) ≡ true) ↔ (x ≡ +1)
true-bit x b = says-equal x +1

one-constant : (a : Atom) (v : ℕ) (τ : Valuation) → (In (constant_bounds a) (τ v) × AllTrue (constant_clauses v a) τ) ↔ (τ v ≡ constant_value a)
unfolding constant_bounds constant_clauses value_of meaning any on off ◌≟◌
one-constant (Whole n) v τ = let l = only-one n (τ v) in (λ h. l.0 h.0, λ e. (l.1 e, tt))
one-constant (Truth true) v τ =
    (λ h. (says-equal (τ v) +1).0 (left_true (τ v ≟ +1) h.1.0), λ e. (rw e (omega arith_z, omega arith_z), (rw e refl, tt)))
  where
    left_true : (t : Bool) → ((t || false) || false) ≡ true → t ≡ true
    left_true true e = refl
    left_true false e = e
one-constant (Truth false) v τ =
    (λ h. (says-equal (τ v) +0).0 (left_true (τ v ≟ +0) h.1.0), λ e. (rw e (omega arith_z, omega arith_z), (rw e refl, tt)))
  where
    left_true : (t : Bool) → (false || (t || false)) ≡ true → t ≡ true
    left_true true e = refl
    left_true false e = e
one-constant (Variable w) v τ = let l = only-one +0 (τ v) in (λ h. l.0 h.0, λ e. (l.1 e, tt))

forced : (table : List Atom) (first : ℕ) (τ α : Valuation) → ((j : ℕ) → τ (first + j) ≡ α j) →
    (Keeps (map constant_bounds table) α × AllTrue (clauses_from first table) τ) ↔ Are (map constant_value table) α
unfolding clauses_from
forced [] first τ α e = (λ h. tt, λ h. (tt, tt))
forced (a ∷ as₁) first τ α e =
    let r = forced as₁ (first + 1) τ (λ k. α (suc k)) (λ j. subst (λ (m : ℕ). τ m ≡ α (suc j)) (omega arith) (e (suc j))) in
    let o = one-constant a first τ in
    let h : τ first ≡ α zero = subst (λ (m : ℕ). τ m ≡ α zero) (omega arith) (e zero) in
    let s = all_append (True τ) (constant_clauses first a) (clauses_from (first + 1) as₁) in (
      λ k. (sym h ∙ o.0 (subst (In (constant_bounds a)) (sym h) k.0.0, (s.0 k.1).0), r.0 (k.0.1, (s.0 k.1).1)),
      λ k. let q = r.1 k.1 in let u = o.1 (h ∙ k.0) in ((subst (In (constant_bounds a)) h u.0, q.0), s.1 (u.1, q.1)),
    )

-- ---- what is placed

-- a declared variable, or a constant of the table
abbrev pub Known : ℕ → List Atom → Atom → Type 0
Known n table (Whole m) = any (same_constant (Whole m)) table ≡ true
Known n table (Truth b) = any (same_constant (Truth b)) table ≡ true
Known n table (Variable v) = v < n

abbrev pub PlacedTrue : List Placed → Valuation → Type 0
PlacedTrue ps σ = All (λ p. placed_true σ p ≡ true) ps

module _ (Bs : List Bounds) (table : List Atom) (ps : List Placed) (known-all : All (λ p. All (Known (length Bs) table) p.atoms) ps) where
  abbrev n : ℕ
  n = length Bs

  abbrev xs : List ℤ
  xs = map constant_value table

  abbrev Old : List ℤ → Type 0
  Old = Sol Bs (PlacedTrue ps)

  abbrev New : List ℤ → Type 0
  New = Sol (Bs ++ map constant_bounds table) (AllTrue (clauses_from n table ++ map (with_numbers n table) ps))

  module _ (vs : List ℤ) (e : length vs ≡ n) where
    abbrev τ : Valuation
    τ = value (vs ++ xs)

    behind : (j : ℕ) → τ (n + j) ≡ value xs j
    behind = (agrees n vs xs e).after

    numbered : (a : Atom) → Known n table a → τ (number_of n table a) ≡ value_of (value vs) a
    unfolding number_of value_of value
    numbered (Whole m) k = behind (index_of (Whole m) table) ∙ looked-up (Whole m) table k
    numbered (Truth b) k = behind (index_of (Truth b) table) ∙ looked-up (Truth b) table k
    numbered (Variable v) k = (agrees n vs xs e).before v k

    numbered_zero : τ (number_of n table (Whole +0)) ≡ value_of (value vs) (Whole +0)
    unfolding number_of value_of value
    numbered_zero = behind (index_of (Whole +0) table) ∙ zero-up table

    same-meaning : (p : Placed) → All (Known n table) p.atoms → meaning τ (with_numbers n table p) ≡ placed_true (value vs) p
    unfolding with_numbers placed_true
    same-meaning p k =
        meaning-renamed τ (λ i. number_of n table (get_or p.atoms i (Whole +0))) p.builtin
        ∙ ap (λ σ. meaning σ p.builtin)
        (fun_ext (all_or_past (λ a. τ (number_of n table a) ≡ value_of (value vs) a) p.atoms (Whole +0)
        (all_implies (Known n table) (λ a. τ (number_of n table a) ≡ value_of (value vs) a) numbered p.atoms k) numbered_zero))

    same-all : (qs : List Placed) → All (λ p. All (Known n table) p.atoms) qs → AllTrue (map (with_numbers n table) qs) τ ↔ PlacedTrue qs (value vs)
    same-all [] k = (λ h. tt, λ h. tt)
    same-all (p ∷ qs) k =
        let r = same-all qs k.1 in let m = same-meaning p k.0 in (λ h. (sym m ∙ h.0, r.0 h.1), λ h. (m ∙ h.0, r.1 h.1))

    there : Old vs → New (vs ++ xs)
    there s =
        let f = (forced table n τ (value xs) behind).1 (are-self xs) in (
          length-append vs xs ∙ ap₂ ◌+◌ e (length-map table constant_value ∙ sym (length-map table constant_bounds)) ∙ sym (length-append Bs (map constant_bounds table)),
          (keeps-append Bs (map constant_bounds table) τ (value xs) behind).1 (keeps-agree Bs (value vs) τ (λ v l. sym ((agrees n vs xs e).before v l)) s.1, f.0),
          (all_append (True τ) (clauses_from n table) (map (with_numbers n table) ps)).1 (f.1, (same-all ps known-all).1 s.2),
        )

    here : New (vs ++ xs) → Old vs
    here s = (
      e,
      keeps-agree Bs τ (value vs) (agrees n vs xs e).before ((keeps-append Bs (map constant_bounds table) τ (value xs) behind).0 s.1).0,
      (same-all ps known-all).0 ((all_append (True τ) (clauses_from n table) (map (with_numbers n table) ps)).0 s.2).1,
    )

  front-length : (vs ys : List ℤ) → length ys ≡ length table → New (vs ++ ys) → length vs ≡ n
  front-length vs ys f s =
      let h = s.0 in
      let a = length-append vs ys in
      let b = length-append Bs (map constant_bounds table) in
      let m = length-map table constant_bounds in
      omega arith

  no-other : (vs ys : List ℤ) → length ys ≡ length table → New (vs ++ ys) → ys ≡ xs
  no-other vs ys f s =
      let e = front-length vs ys f s in
      let behind = (agrees n vs ys e).after in
      let k = (keeps-append Bs (map constant_bounds table) (value (vs ++ ys)) (value ys) behind).0 s.1 in
      let c = (all_append (True (value (vs ++ ys))) (clauses_from n table) (map (with_numbers n table) ps)).0 s.2 in
      are-value xs ys (length-map table constant_value ∙ sym f) ((forced table n (value (vs ++ ys)) (value ys) behind).0 (k.1, c.0))

  pub constants_carry : Carries (length table) Old New
  constants_carry = record {
    same = λ vs. (
      λ s. (xs, (length-map table constant_value, there vs s.0 s)),
      λ z. let e = no-other vs z.0 z.1.0 z.1.1 in let s : New (vs ++ xs) = subst (λ (ys : List ℤ). New (vs ++ ys)) e z.1.1 in here vs (front-length vs z.0 z.1.0 z.1.1) s,
    );
    only = λ vs as₁ bs e f s t. no-other vs bs f t ∙ sym (no-other vs as₁ e s);
  }

-- ---- the table of all constants knows them

self-equal : (n : ℤ) → (n ≟ n) ≡ true
self-equal n = (says-equal n n).1 refl

same-self : (b : Bool) → beq b b ≡ true
same-self true = refl
same-self false = refl

one-more : (table : List Atom) (a b : Atom) → any (same_constant a) table ≡ true → any (same_constant a) (table ++ b ∷ []) ≡ true
unfolding any
one-more table a b h = any-two (same_constant a) table (b ∷ []) ∙ rw h refl

at-end : (table : List Atom) (a : Atom) → same_constant a a ≡ true → any (same_constant a) (table ++ a ∷ []) ≡ true
unfolding any
at-end table a h = any-two (same_constant a) table (a ∷ []) ∙ rw h (or-true (any (same_constant a) table))

known_more : (table : List Atom) (a b : Atom) → known table a ≡ true → known (table ++ b ∷ []) a ≡ true
unfolding known
known_more table (Whole n) b h = one-more table (Whole n) b h
known_more table (Truth t) b h = one-more table (Truth t) b h
known_more table (Variable v) b h = refl

known-end : (table : List Atom) (a : Atom) → known (table ++ a ∷ []) a ≡ true
unfolding known same_constant
known-end table (Whole n) = at-end table (Whole n) (self-equal n)
known-end table (Truth t) = at-end table (Truth t) (same-self t)
known-end table (Variable v) = refl

stays_known : (as₁ table : List Atom) (a : Atom) → known table a ≡ true → known (collected table as₁) a ≡ true
unfolding collected
stays_known [] table a h = h
stays_known (b ∷ as₁) table a h = go (λ t k. stays_known as₁ t a k) (known table b)
  where
    go : ((t : List Atom) → known t a ≡ true → known (collected t as₁) a ≡ true) → (q : Bool) → known (collected (table if q else table ++ b ∷ []) as₁) a ≡ true
    go again true = again table h
    go again false = again (table ++ b ∷ []) (known_more table a b h)

all-known : (as₁ table : List Atom) → All (λ a. known (collected table as₁) a ≡ true) as₁
unfolding collected
all-known [] table = tt
all-known (a ∷ as₁) table = go (all-known as₁) (stays_known as₁) (known table a) refl
  where
    go : ((t : List Atom) → All (λ b. known (collected t as₁) b ≡ true) as₁) → ((t : List Atom) (b : Atom) → known t b ≡ true → known (collected t as₁) b ≡ true) →
        (q : Bool) → known table a ≡ q →
        (known (collected (table if q else table ++ a ∷ []) as₁) a ≡ true) × All (λ b. known (collected (table if q else table ++ a ∷ []) as₁) b ≡ true) as₁
    go again stays true e = (stays table a e, again table)
    go again stays false e = (stays (table ++ a ∷ []) a (known-end table a), again (table ++ a ∷ []))

-- a variable is declared
abbrev pub DeclaredAtom : ℕ → Atom → Type 0
DeclaredAtom n (Whole m) = Unit {0}
DeclaredAtom n (Truth b) = Unit {0}
DeclaredAtom n (Variable v) = v < n

known-is : (n : ℕ) (table : List Atom) (a : Atom) → known table a ≡ true → DeclaredAtom n a → Known n table a
unfolding known
known-is n table (Whole m) h d = h
known-is n table (Truth b) h d = h
known-is n table (Variable v) h d = d

known-each : (n : ℕ) (table as₁ : List Atom) → All (λ a. known table a ≡ true) as₁ → All (DeclaredAtom n) as₁ → All (Known n table) as₁
known-each n table [] h d = tt
known-each n table (a ∷ as₁) h d = (known-is n table a h.0 d.0, known-each n table as₁ h.1 d.1)

known-items : (n : ℕ) (table : List Atom) (ps : List Placed) → All (λ a. known table a ≡ true) (atoms_of ps) → All (λ p. All (DeclaredAtom n) p.atoms) ps →
    All (λ p. All (Known n table) p.atoms) ps
unfolding atoms_of
known-items n table [] h d = tt
known-items n table (p ∷ ps) h d =
    let a = (all_append (λ a. known table a ≡ true) p.atoms (atoms_of ps)).0 h in
    (known-each n table p.atoms a.0 d.0, known-items n table ps a.1 d.1)

pub constants-known : (n : ℕ) (ps : List Placed) → All (λ p. All (DeclaredAtom n) p.atoms) ps → All (λ p. All (Known n (constants ps)) p.atoms) ps
unfolding constants
constants-known n ps d = known-items n (collected [] (atoms_of ps)) ps (all-known (atoms_of ps) []) d
