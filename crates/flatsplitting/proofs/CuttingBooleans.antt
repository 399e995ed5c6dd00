-- A cut of a list of Booleans is right: of one that is read by whether all are 1, of one that is read by whether one is.
use Rattle.std.proofs.Common.{◌≡◌, refl, sym, ap, ◌∙◌, subst, ◌↔◌, Bool, true, false, not, ◌&&◌, ◌||◌, List, [], ◌∷◌, ◌++◌, map, ℕ, ◌<◌, arith, ℤ, length, take, drop}
use Rattle.std.proofs.lemmas.List.{take-append-drop, get_or-append-add}
use lib.ListN.{get_or-append}
use Rattle.integers.specs.Number.{◌≟◌, +0, +1}
use Rattle.integers.specs.Lists.{all, any}
use Rattle.integers.specs.Bounds.{bit, bounds_in}
use Rattle.integers.specs.Terms.{Valuation}
use Rattle.integers.specs.declared.Bounds.{Bounds}
use Rattle.integers.proofs.Linear.{arith_z}
use Rattle.integers.proofs.Bits.{Bit, b0, b1, bit_case, to-bit}
use Rattle.integers.proofs.Booleans.{or-true, or-false}
use Rattle.integers.proofs.Lists.{all_append, all_implies, all_map}
use Rattle.integers.proofs.Places.{all_append as all_two}
use Rattle.integers.proofs.Tests.{In, All, false-true}
use Rattle.models.specs.Builtin.{Builtin, bool_clause, array_bool_and}
use Rattle.models.specs.Meaning.{meaning, on, off, ◌iff◌}
use Rattle.models.proofs.Arguments.{integer_arguments, boolean_arguments}
use Rattle.rules.specs.Pick.{bit_of}
use Rattle.sharing.proofs.Good.{Keeps}
use Rattle.sharing.proofs.Satisfied.{keeps-bounds}
use Rattle.flatsplitting.specs.Split.{cut_all, cut_some}
use Rattle.flatzinc.proofs.Agreeing.{Typed, all-on, any_on}
use Rattle.flatsplitting.proofs.Splitting.{Cuts, Below}
use Rattle.flatzinc.proofs.Solved.{True, AllTrue}
use Rattle.flatsplitting.proofs.Cutting.{all-parts, older, newest}
use Rattle.flatzinc.proofs.Plain.{any-two}

-- ---- values 0 and 1

abbrev pub Bits : Valuation → List ℕ → Type 0
Bits τ xs = All (λ v. Bit (τ v)) xs

-- a Boolean variable that is declared
abbrev pub Boolean : List Bounds → ℕ → Type 0
Boolean Bs v = (v < length Bs) × (bounds_in Bs v ≡ bit)

pub bit-kept : (Bs : List Bounds) (σ : Valuation) → Keeps Bs σ → (v : ℕ) → Boolean Bs v → Bit (σ v)
bit-kept Bs σ h v b = let k : In bit (σ v) = subst (λ (B : Bounds). In B (σ v)) b.1 ((keeps-bounds Bs σ).0 h v b.0) in to-bit (σ v) k.0 k.1

pub bits-kept : (Bs : List Bounds) (σ : Valuation) → Keeps Bs σ → (xs : List ℕ) → All (Boolean Bs) xs → Bits σ xs
bits-kept Bs σ h xs b = all_implies (Boolean Bs) (λ v. Bit (σ v)) (bit-kept Bs σ h) xs b

bit_of-inside : (t : Bool) → In bit (bit_of t)
unfolding bit_of
bit_of-inside true = (omega arith_z, omega arith_z)
bit_of-inside false = (omega arith_z, omega arith_z)

-- "x is 1 exactly where t" of a bit says that x is the bit of t
says-bit : (x : ℤ) → Bit x → (t : Bool) → ((x ≟ +1 iff t) ≡ true) ↔ (x ≡ bit_of t)
unfolding bit_of ◌≟◌
says-bit x b0 true = (λ e. false-true e, λ e. absurd (omega arith_z))
says-bit x b0 false = (λ e. refl, λ e. refl)
says-bit x b1 true = (λ e. refl, λ e. refl)
says-bit x b1 false = (λ e. false-true e, λ e. absurd (omega arith_z))

is-on : (x : ℤ) (t : Bool) → x ≡ bit_of t → (x ≟ +1) ≡ t
unfolding bit_of ◌≟◌
is-on x true e = rw e refl
is-on x false e = rw e refl

swapped : (a b : Bool) → (b && (a && true)) ≡ (a && b)
swapped true true = refl
swapped true false = refl
swapped false true = refl
swapped false false = refl

swapped_or : (a b : Bool) → (b || (a || false)) ≡ (a || b)
swapped_or true true = refl
swapped_or true false = refl
swapped_or false true = refl
swapped_or false false = refl

-- some are 0 exactly where not all are 1
pub off-not_all : (τ : Valuation) (xs : List ℕ) → Bits τ xs → any (off τ) xs ≡ not (all (on τ) xs)
unfolding any all on off ◌≟◌
off-not_all τ [] h = refl
off-not_all τ (x ∷ xs) h = bit_case h.0 (λ e. rw e refl) (λ e. rw e (off-not_all τ xs h.1))

-- all are 0 exactly where none is 1
pub off-none : (τ : Valuation) (xs : List ℕ) → Bits τ xs → All (λ v. off τ v ≡ true) xs ↔ (any (on τ) xs ≡ false)
unfolding any on off ◌≟◌
off-none τ [] h = (λ a. refl, λ e. tt)
off-none τ (x ∷ xs) h =
    let r = off-none τ xs h.1 in
    bit_case h.0 (λ e. rw e (λ a. r.0 a.1, λ k. (refl, r.1 k))) (λ e. rw e (λ a. false-true a.0, λ k. false-true (sym k)))

-- ---- declared Boolean variables, and one more

module _ (Bs : List Bounds) where
  abbrev pub Cs : List Bounds
  Cs = Bs ++ bit ∷ []

  pub boolean_older : (v : ℕ) → Boolean Bs v → Boolean Cs v
  unfolding bounds_in
  boolean_older v b = (older Bs bit v b.0, get_or-append Bs (bit ∷ []) _ v b.0 ∙ b.1)

  pub boolean_newest : Boolean Cs (length Bs)
  unfolding bounds_in
  boolean_newest = (newest Bs bit, subst (λ (k : ℕ). bounds_in Cs k ≡ bit) (omega arith) (get_or-append-add Bs (bit ∷ []) 0 _))

  pub booleans-older : (xs : List ℕ) → All (Boolean Bs) xs → All (Boolean Cs) xs
  booleans-older xs h = all_implies (Boolean Bs) (Boolean Cs) boolean_older xs h

-- ---- builtins of one list of Booleans and others

pub record OfBooleans (others : List ℕ) (make : List ℕ → Builtin) : Type 0 where
  pub typed_as : (Bs : List Bounds) (xs : List ℕ) → Typed Bs (make xs) ↔ (All (Boolean Bs) others × All (Boolean Bs) xs)

module _ (Bs : List Bounds) (k : ℕ) (xs others : List ℕ) (make : List ℕ → Builtin) (o : OfBooleans others make) (typed : Typed Bs (make xs)) where
  abbrev n : ℕ
  n = length Bs

  abbrev first : List ℕ
  first = take k xs

  abbrev rest : List ℕ
  rest = drop k xs ++ n ∷ []

  booleans : All (Boolean Bs) others × All (Boolean Bs) xs
  booleans = (o.typed_as Bs xs).0 typed

  parts : All (Boolean Bs) first × All (Boolean Bs) (drop k xs)
  parts = all-parts (Boolean Bs) k xs booleans.1

  typed-rest : Typed (Cs Bs) (make rest)
  typed-rest =
      (o.typed_as (Cs Bs) rest).1
      (booleans-older Bs others booleans.0, (all_append (Boolean (Cs Bs)) (drop k xs) (n ∷ [])).1 (booleans-older Bs (drop k xs) parts.1, (boolean_newest Bs, tt)))

  same-first : (σ τ : Valuation) → Below n σ τ → All (λ v. σ v ≡ τ v) first
  same-first σ τ e = all_implies (Boolean Bs) (λ v. σ v ≡ τ v) (λ v b. e v b.0) first parts.0

  bits_first : (τ : Valuation) → Keeps Bs τ → Bits τ first
  bits_first τ h = bits-kept Bs τ h first parts.0

  -- ---- read by whether all are 1

  all-rest : (τ : Valuation) → τ n ≡ bit_of (all (on τ) first) → all (on τ) rest ≡ all (on τ) xs
  unfolding all on
  all-rest τ e =
      let t = all_two (on τ) (drop k xs) (n ∷ []) in
      let u = all_two (on τ) first (drop k xs) in
      let s : (τ n ≟ +1) ≡ all (on τ) first = is-on (τ n) (all (on τ) first) e in
      t ∙ ap (λ b. all (on τ) (drop k xs) && (b && true)) s ∙ swapped (all (on τ) first) (all (on τ) (drop k xs)) ∙ sym u ∙ ap (all (on τ)) (take-append-drop k xs)

  and-defined : (τ : Valuation) → Bit (τ n) → AllTrue (array_bool_and first n ∷ []) τ ↔ (τ n ≡ bit_of (all (on τ) first))
  unfolding meaning on
  and-defined τ b = let s = says-bit (τ n) b (all (on τ) first) in (λ h. s.0 h.0, λ e. (s.1 e, tt))

  typed_and : All (Typed (Cs Bs)) (array_bool_and first n ∷ [])
  unfolding integer_arguments boolean_arguments
  typed_and = ((tt, (boolean_newest Bs, booleans-older Bs first parts.0)), tt)

  module _ (by_all : (τ : Valuation) → Bits τ rest → Bits τ xs → all (on τ) rest ≡ all (on τ) xs → meaning τ (make rest) ≡ meaning τ (make xs)) where
    all-meaning : (τ : Valuation) → Keeps Bs τ → τ n ≡ bit_of (all (on τ) first) → meaning τ (make rest) ≡ meaning τ (make xs)
    all-meaning τ h e =
        let i = bit_of-inside (all (on τ) first) in
        let b : Bit (τ n) = subst Bit (sym e) (to-bit (bit_of (all (on τ) first)) i.0 i.1) in
        by_all τ ((all_append (λ v. Bit (τ v)) (drop k xs) (n ∷ [])).1 (bits-kept Bs τ h (drop k xs) parts.1, (b, tt))) (bits-kept Bs τ h xs booleans.1) (all-rest τ e)

    pub all_right : Cuts Bs (make xs) (cut_all Bs k xs make)
    unfolding cut_all
    all_right = record {
      value_of = λ σ. bit_of (all (on σ) first);
      stays = λ σ τ e. ap bit_of (all-on σ τ first (same-first σ τ e));
      inside = λ σ h. bit_of-inside (all (on σ) first);
      defined = λ τ h i. and-defined τ (to-bit (τ n) i.0 i.1);
      rest = all-meaning;
      typed_defining = typed_and;
      typed_rest = typed-rest;
    }

  -- ---- read by whether one is 1

  some-rest : (τ : Valuation) → τ n ≡ bit_of (any (on τ) first) → any (on τ) rest ≡ any (on τ) xs
  unfolding any on
  some-rest τ e =
      let t = any-two (on τ) (drop k xs) (n ∷ []) in
      let u = any-two (on τ) first (drop k xs) in
      let s : (τ n ≟ +1) ≡ any (on τ) first = is-on (τ n) (any (on τ) first) e in
      t ∙ ap (λ b. any (on τ) (drop k xs) || (b || false)) s ∙ swapped_or (any (on τ) first) (any (on τ) (drop k xs)) ∙ sym u ∙ ap (any (on τ)) (take-append-drop k xs)

  abbrev some_defining : List Builtin
  some_defining = bool_clause first (n ∷ []) ∷ map (λ x. bool_clause (n ∷ []) (x ∷ [])) first

  -- the clauses of two, where the part is 0 and where it is 1
  not_off : (τ : Valuation) → τ n ≡ +0 → (x : ℕ) → True τ (bool_clause (n ∷ []) (x ∷ [])) ↔ (off τ x ≡ true)
  unfolding meaning any on ◌≟◌
  not_off τ e x = rw e (λ h. sym (or-false (off τ x)) ∙ h, λ h. or-false (off τ x) ∙ h)

  always : (τ : Valuation) → τ n ≡ +1 → (x : ℕ) → True τ (bool_clause (n ∷ []) (x ∷ []))
  unfolding meaning any on ◌≟◌
  always τ e x = rw e refl

  one-clause : (τ : Valuation) → τ n ≡ +1 → True τ (bool_clause first (n ∷ [])) ↔ (any (on τ) first ≡ true)
  unfolding meaning any off ◌≟◌
  one-clause τ e = rw e (λ h. sym (or-false (any (on τ) first)) ∙ h, λ h. or-false (any (on τ) first) ∙ h)

  zero-clause : (τ : Valuation) → τ n ≡ +0 → True τ (bool_clause first (n ∷ []))
  unfolding meaning any off ◌≟◌
  zero-clause τ e = rw e (or-true (any (on τ) first))

  bit_is-zero : (t : Bool) → t ≡ false → +0 ≡ bit_of t
  unfolding bit_of
  bit_is-zero t e = rw e refl

  zero-bit_is : (t : Bool) → +0 ≡ bit_of t → t ≡ false
  unfolding bit_of
  zero-bit_is true e = absurd (omega arith_z)
  zero-bit_is false e = refl

  bit_is-one : (t : Bool) → t ≡ true → +1 ≡ bit_of t
  unfolding bit_of
  bit_is-one t e = rw e refl

  one-bit_is : (t : Bool) → +1 ≡ bit_of t → t ≡ true
  unfolding bit_of
  one-bit_is true e = refl
  one-bit_is false e = absurd (omega arith_z)

  some-defined : (τ : Valuation) → Bits τ first → Bit (τ n) → AllTrue some_defining τ ↔ (τ n ≡ bit_of (any (on τ) first))
  some-defined τ h b = bit_case b is_zero is_one
    where
      is_zero : τ n ≡ +0 → AllTrue some_defining τ ↔ (τ n ≡ bit_of (any (on τ) first))
      is_zero e =
          let m = all_map (λ x. bool_clause (n ∷ []) (x ∷ [])) (True τ) (λ x. off τ x ≡ true) (not_off τ e) first in
          let f = off-none τ first h in (
            λ a. e ∙ bit_is-zero (any (on τ) first) (f.0 (m.0 a.1)),
            λ i. (zero-clause τ e, m.1 (f.1 (zero-bit_is (any (on τ) first) (sym e ∙ i)))),
          )

      is_one : τ n ≡ +1 → AllTrue some_defining τ ↔ (τ n ≡ bit_of (any (on τ) first))
      is_one e =
          let m = all_map (λ x. bool_clause (n ∷ []) (x ∷ [])) (True τ) (λ x. Unit {0}) (λ x. (λ u. tt, λ u. always τ e x)) first in
          let c = one-clause τ e in (
            λ a. e ∙ bit_is-one (any (on τ) first) (c.0 a.0),
            λ i. (c.1 (one-bit_is (any (on τ) first) (sym e ∙ i)), m.1 (units first)),
          )
        where
          units : (ys : List ℕ) → All (λ x. Unit {0}) ys
          units [] = tt
          units (y ∷ ys) = (tt, units ys)

  typed_clause : (ys zs : List ℕ) → All (Boolean (Cs Bs)) ys → All (Boolean (Cs Bs)) zs → Typed (Cs Bs) (bool_clause ys zs)
  unfolding integer_arguments boolean_arguments
  typed_clause ys zs h j = (tt, (all_append (Boolean (Cs Bs)) ys zs).1 (h, j))

  typed_some : All (Typed (Cs Bs)) some_defining
  typed_some = (
    typed_clause first (n ∷ []) (booleans-older Bs first parts.0) (boolean_newest Bs, tt),
    (all_map (λ x. bool_clause (n ∷ []) (x ∷ [])) (Typed (Cs Bs)) (λ x. Typed (Cs Bs) (bool_clause (n ∷ []) (x ∷ []))) (λ x. (λ t. t, λ t. t)) first).1
        (all_implies (Boolean (Cs Bs)) (λ x. Typed (Cs Bs) (bool_clause (n ∷ []) (x ∷ []))) (λ x b. typed_clause (n ∷ []) (x ∷ []) (boolean_newest Bs, tt) (b, tt)) first (booleans-older Bs first parts.0)),
  )

  module _ (by_some : (τ : Valuation) → any (on τ) rest ≡ any (on τ) xs → meaning τ (make rest) ≡ meaning τ (make xs)) where
    pub some_right : Cuts Bs (make xs) (cut_some Bs k xs make)
    unfolding cut_some
    some_right = record {
      value_of = λ σ. bit_of (any (on σ) first);
      stays = λ σ τ e. ap bit_of (any_on σ τ first (same-first σ τ e));
      inside = λ σ h. bit_of-inside (any (on σ) first);
      defined = λ τ h i. some-defined τ (bits_first τ h) (to-bit (τ n) i.0 i.1);
      rest = λ τ h e. by_some τ (some-rest τ e);
      typed_defining = typed_some;
      typed_rest = typed-rest;
    }
