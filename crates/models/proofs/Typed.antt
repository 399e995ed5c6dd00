-- The arguments of a builtin are those that stand at the places of its words. So where they fit the shapes of a code, the builtin's integer variables are declared as integer ones
-- and its Boolean ones as Boolean, and its words are those that the reader takes. For `typed` of Accepted, and for the number of words of a block.
use Rattle.std.proofs.Common.{◌≡◌, refl, ap, subst, Bool, true, false, not, ◌&&◌, List, [], ◌∷◌, map, ℕ, zero, suc, ◌+◌, ◌≤◌, arith, eqb, ℤ, get_or, eqb-true}
use Rattle.integers.specs.Choice.{◌if◌else◌}
use Rattle.integers.specs.Lists.{list_of}
use Rattle.integers.specs.Terms.{◌·◌}
use Rattle.integers.proofs.Lists.{all_implies, list_of-length, all_append}
use Rattle.integers.proofs.Tests.{All}
use Rattle.models.specs.Table.{Sort, integer, boolean, number, exponent, numbers, set, integers, booleans, parallel, Code, codes, last}
use Rattle.models.specs.Shape as Shape
use Rattle.models.specs.Shape.{shape_of, shapes}
use Rattle.models.specs.Builtin.{Builtin, int_eq}
use Rattle.models.specs.Model.{var, num, size, vars, nums, past, terms, past_terms, argument_at, place_after, builtins}
use Rattle.models.proofs.Arguments.{Given, ◌!◌, arguments_of, variables_in, named_in, type_of, is_list, words_in, alone, lists, joined, variables_of, integer_arguments, boolean_arguments, words_of, builtin_words}
use Rattle.models.proofs.Codes.{shapes_of, make_of, all_same, by_code}
use Rattle.models.proofs.Fits.{Named, Fits, FitAll, past_argument, past_arguments}

-- over variables of the types ts
abbrev pub Typed : List ℕ → Builtin → Type 0
Typed ts b = All (Named ts Shape.integer) (integer_arguments b) × All (Named ts Shape.boolean) (boolean_arguments b)

-- ---- the arguments from place i on are those of the builtin

abbrev arguments_at : List ℕ → ℕ → List Sort → List Given
arguments_at ws i [] = []
arguments_at ws i (s ∷ ss) = s ! argument_at ws i s ∷ arguments_at ws (place_after ws i s) ss

abbrev made : Code → List ℕ → List Given
made c ws = arguments_of (make_of c ws)

abbrev there : Code → List ℕ → List Given
there c ws = arguments_at ws 0 c.sorts

same-arguments : All (λ c. made c ≡ there c) codes
same-arguments = all_same made there codes refl

-- ---- lists

all-joined : (P : ℕ → Type 0) (xss : List (List ℕ)) → All (All P) xss → All P (joined xss)
all-joined P [] h = tt
all-joined P (xs ∷ []) h = h.0
all-joined P (xs ∷ ys ∷ zss) h = (all_append P xs (joined (ys ∷ zss))).1 (h.0, all-joined P (ys ∷ zss) h.1)

when : {A : Type 0} (P : A → Type 0) (t u : Bool) (xs : List A) → (t ≡ true → All P xs) → All P (xs if t && u else [])
when P true true xs h = h refl
when P true false xs h = tt
when P false u xs h = tt

term-variables : (f : ℕ → ℤ) (g : ℕ → ℕ) (n : ℕ) → variables_in (list_of (λ k. f k · g k) n) ≡ list_of g n
unfolding list_of
term-variables f g zero = refl
term-variables f g (suc n) = ap (λ l. g 0 ∷ l) (term-variables (λ i. f (suc i)) (λ i. g (suc i)) n)

-- ---- one argument: the place after it, its variables, its words

module _ (ws : List ℕ) where
  same_place : (i : ℕ) (s : Sort) → past_argument ws i (shape_of s) ≡ place_after ws i s
  unfolding past past_terms
  same_place i integer = refl
  same_place i boolean = refl
  same_place i number = refl
  same_place i exponent = refl
  same_place i numbers = refl
  same_place i set = refl
  same_place i integers = refl
  same_place i booleans = refl
  same_place i parallel = refl

  words_in-argument : (i : ℕ) (s : Sort) → words_in s (argument_at ws i s) + i ≡ place_after ws i s
  unfolding past past_terms vars nums terms
  words_in-argument i integer = omega arith
  words_in-argument i boolean = omega arith
  words_in-argument i number = omega arith
  words_in-argument i exponent = omega arith
  words_in-argument i numbers = simp list_of-length (omega arith)
  words_in-argument i set = simp list_of-length (omega arith)
  words_in-argument i integers = simp list_of-length (omega arith)
  words_in-argument i booleans = simp list_of-length (omega arith)
  words_in-argument i parallel = simp list_of-length (omega arith)

  words-at : (i : ℕ) (ss : List Sort) → words_of (arguments_at ws i ss) + i ≡ past_arguments ws i (map shape_of ss)
  words-at i [] = omega arith
  words-at i (s ∷ ss) = omega (arith, words_in-argument i s, words-at (place_after ws i s) ss, ap (λ j. past_arguments ws j (map shape_of ss)) (same_place i s))

  module _ (ts : List ℕ) where
    named : (i : ℕ) (s : Sort) → Fits ws ts i (shape_of s) → All (Named ts (type_of s)) (named_in s (argument_at ws i s))
    unfolding vars terms
    named i integer h = (h, tt)
    named i boolean h = (h, tt)
    named i number h = tt
    named i exponent h = tt
    named i numbers h = tt
    named i set h = tt
    named i integers h = h.1
    named i booleans h = h.1
    named i parallel h = rw (term-variables (λ k. num ws (i + 1 + k)) (λ k. var ws (past ws i + k)) (size ws i)) h.1

    of-type : (t i : ℕ) (s : Sort) → Fits ws ts i (shape_of s) → eqb (type_of s) t ≡ true → All (Named ts t) (named_in s (argument_at ws i s))
    of-type t i s h e = rw (eqb-true (type_of s) t e) at (named i s h)

    all_named : (t i : ℕ) (ss : List Sort) → FitAll ws ts i (map shape_of ss) →
        All (Named ts t) (alone t (arguments_at ws i ss)) × All (All (Named ts t)) (lists t (arguments_at ws i ss))
    all_named t i [] h = (tt, tt)
    all_named t i (s ∷ ss) h =
        let vs = named_in s (argument_at ws i s) in
        let a : eqb (type_of s) t ≡ true → All (Named ts t) vs = of-type t i s h.0 in
        let r = all_named t (place_after ws i s) ss (subst (λ j. FitAll ws ts j (map shape_of ss)) (same_place i s) h.1) in (
          (all_append (Named ts t) (vs if eqb (type_of s) t && not (is_list s) else []) _).1 (when (Named ts t) (eqb (type_of s) t) (not (is_list s)) vs a, r.0),
          (all_append (All (Named ts t)) (vs ∷ [] if eqb (type_of s) t && is_list s else []) _).1 (when (All (Named ts t)) (eqb (type_of s) t) (is_list s) (vs ∷ []) (λ e. (a e, tt)), r.1),
        )

    variables-named : (t : ℕ) (ss : List Sort) → FitAll ws ts 0 (map shape_of ss) → All (Named ts t) (variables_of t (arguments_at ws 0 ss))
    variables-named t ss h =
        let gs = arguments_at ws 0 ss in
        let r = all_named t 0 ss h in
        (all_append (Named ts t) (alone t gs) (joined (lists t gs))).1 (r.0, all-joined (Named ts t) (lists t gs) r.1)

-- ---- by code

module _ (ts : List ℕ) where
  abbrev Fit : List ℕ → (List ℕ → Builtin) → Type 0
  Fit ss b = (ws : List ℕ) → FitAll ws ts 0 ss → Typed ts (b ws)

  fit : (c : Code) → made c ≡ there c → Fit (shapes_of c) (make_of c)
  unfolding integer_arguments boolean_arguments
  fit c e ws h =
      let a : arguments_of (make_of c ws) ≡ arguments_at ws 0 c.sorts = ap (λ (f : List ℕ → List Given). f ws) e in
      rw a (variables-named ws ts Shape.integer c.sorts h, variables-named ws ts Shape.boolean c.sorts h)

  pub typed_at : (code : ℕ) → 1 ≤ code → code ≤ last → Fit (get_or shapes code []) (get_or builtins code (λ ws. int_eq 0 0))
  typed_at = by_code Fit (all_implies _ _ fit codes same-arguments)

abbrev Counted : List ℕ → (List ℕ → Builtin) → Type 0
Counted ss b = (ws : List ℕ) → builtin_words (b ws) ≡ past_arguments ws 0 ss

counted : (c : Code) → made c ≡ there c → Counted (shapes_of c) (make_of c)
unfolding builtin_words
counted c e ws =
    let a : arguments_of (make_of c ws) ≡ arguments_at ws 0 c.sorts = ap (λ (f : List ℕ → List Given). f ws) e in
    rw a (omega (arith, words-at ws 0 c.sorts))

pub counted-at : (code : ℕ) → 1 ≤ code → code ≤ last → Counted (get_or shapes code []) (get_or builtins code (λ ws. int_eq 0 0))
counted-at = by_code Counted (all_implies _ _ counted codes same-arguments)
