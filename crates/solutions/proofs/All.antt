-- From the first list on, all lists are gone through; and what each answer of the call says.
use Rattle.std.proofs.Common.{rules, ◌≡◌, refl, sym, ap, ◌∙◌, Bool, true, false, ◌||◌, List, [], ◌∷◌, ℕ, zero, suc, ◌*◌, ◌<◌, ◌≤◌, arith, ltb, ℤ, length, take, length-take-le, lt-ltb, le-ltb, ltb-true, ltb-false, ne_eqb}
use mathlib.Core.List.{flatten}
use Rattle.std.proofs.lemmas.List.{get_or-take}
use Rattle.integers.specs.Lists.{list_of}
use Rattle.integers.specs.Choice.{◌if◌else◌}
use Rattle.integers.specs.declared.Bounds.{Bounds}
use Rattle.integers.proofs.Fits.{mul-le}
use Rattle.integers.proofs.Linear.{◌⊑◌, linear}
use Rattle.integers.proofs.Lists.{list_of-length}
use Rattle.integers.proofs.Tests.{All, says-within}
use Rattle.integers.proofs.Booleans.{or-true}
use Rattle.integers.proofs.Places.{bounds-listed}
use Rattle.words.specs.Overlay.{overlay}
use Rattle.integers.specs.Bounds.{bounds_in}
use Rattle.variables.proofs.Small.{bounds-near}
use Rattle.words.specs.Variables.{variables}
use Rattle.words.specs.Refusal.{◌at_place◌, accepted, ◌else_refuse◌, room_fault}
use Rattle.words.specs.Answer.{Answer, refused, written, ◌else_answer◌}
use Rattle.words.proofs.Sources.{Ordered}
use Rattle.models.proofs.Accepted.{ordered}
use Rattle.modelreading.specs.declared.Model.{Model}
use Rattle.rules.specs.Check.{check}
use Rattle.rules.specs.Translation.{bounds}
use Rattle.sharing.specs.SharedSolutions.{Passes}
use Rattle.sharing.proofs.Accepts.{passes-read}
use Rattle.checking.specs.ModelBounds.{ModelBounds}
use Rattle.checking.proofs.Answers.{refused-first, check-stands}
use Rattle.rules.specs.Shared.{keep}
use Rattle.solutions.specs.Lists.{value_lists, list_count}
use Rattle.solutions.specs.AllWithin.{AllWithin, lowest_list}
use Rattle.solutions.specs.Odometer.{lists_from}
use Rattle.solutions.specs.Solutions.{every_true, solutions, lists_fault, solutions_fault, solutions_answer, solutions_listed}
use Rattle.solutions.specs.Walk.{bounds_to, AllNear, solutions_from, solutions_in, Walkable, ListsSized}
use Rattle.solutions.proofs.Complete.{inside-says}
use Rattle.solutions.proofs.Counts.{count-is}
use Rattle.solutions.proofs.Odometer.{from_lowest}

-- ---- the first list

module _ {Ds : List Bounds} {n : ℕ} (s : ListsSized Ds n) (vs : List ℤ) (e : vs ≡ lowest_list (bounds_to Ds n)) where
  as_many : length vs ≡ n
  as_many = rw e ((inside-says (bounds_to Ds n) (lowest_list (bounds_to Ds n)) s.inside).0 ∙ list_of-length (bounds_in Ds) n)

  all-lists : lists_from (bounds_to Ds (length vs)) vs ≡ value_lists (bounds_to Ds n)
  all-lists = ap (λ (k : ℕ). lists_from (bounds_to Ds k) vs) as_many ∙ ap (lists_from (bounds_to Ds n)) e ∙ from_lowest (bounds_to Ds n) (lowest_list (bounds_to Ds n)) s.inside

  pub ready : Walkable Ds vs
  ready = record {
    near = s.near;
    inside = rw (as_many, e) s.inside;
    few = rw all-lists (omega (arith, count-is (bounds_to Ds n), s.few));
    short = omega (arith, as_many, s.short);
  }

  pub all-solutions : (ws : List ℕ) → solutions_from ws Ds vs ≡ solutions_in ws Ds n
  all-solutions ws = ap (keep (every_true ws)) all-lists

-- ---- the bounds of a model

pub ordered-inside : (Bs : List Bounds) → All Ordered Bs → AllWithin Bs (lowest_list Bs)
unfolding lowest_list
ordered-inside [] h = tt
ordered-inside (B ∷ Bs) h = ((says-within B B.lower).1 (both B.lower B.upper h.0.rising), ordered-inside Bs h.1)
  where
    both : (l u : ℤ) → l ⊑ u → (l ⊑ l) × (l ⊑ u)
    both = simp linear (omega arith)

-- ---- the answers

abbrev pub Gives : List ℕ → List ℤ → Answer → List ℤ → Type 0
Gives ws out answer out' = (answer ≡ solutions_answer ws (length out)) × (out' ≡ solutions_listed ws out)

module _ (ws : List ℕ) (passes : Passes ws) (out : List ℤ) where
  too_large : (ltb 8 (length (variables ws)) || ltb 65536 (list_count (variables ws))) ≡ true → Gives ws out (refused 22 0) out
  unfolding solutions_answer solutions_listed solutions_fault lists_fault ◌else_refuse◌ ◌else_answer◌
  too_large e = (rw (passes, e), rw (passes, e))

  pub gives-too_many_variables : 8 < length (variables ws) → Gives ws out (refused 22 0) out
  gives-too_many_variables l = too_large (rw (lt-ltb 8 (length (variables ws)) l))

  pub gives-too_many_lists : 65536 < list_count (variables ws) → Gives ws out (refused 22 0) out
  gives-too_many_lists l = too_large (rw (lt-ltb 65536 (list_count (variables ws)) l) (or-true (ltb 8 (length (variables ws)))))

  module _ (l : length (variables ws) ≤ 8) (m : list_count (variables ws) ≤ 65536) where
    small : lists_fault (variables ws) ≡ accepted
    unfolding lists_fault
    small = rw (le-ltb 8 (length (variables ws)) l, le-ltb 65536 (list_count (variables ws)) m)

    pub too_short : length out < length (solutions ws) * length (variables ws) → Gives ws out (refused 16 0) out
    unfolding solutions_answer solutions_listed solutions_fault room_fault ◌else_refuse◌ ◌else_answer◌
    too_short h = let e = lt-ltb (length out) (length (solutions ws) * length (variables ws)) h in (rw (passes, small, e), rw (passes, small, e))

    pub lists : length (solutions ws) * length (variables ws) ≤ length out → Gives ws out (written (length (solutions ws))) (overlay out 0 (flatten (solutions ws)))
    unfolding solutions_answer solutions_listed solutions_fault room_fault ◌else_refuse◌ ◌else_answer◌
    lists h = let e = le-ltb (length out) (length (solutions ws) * length (variables ws)) h in (rw (passes, small, e), rw (passes, small, e))

-- a list of which n elements are taken has as many
pub has-taken : {A : Type 0} (n : ℕ) (l : List A) → length (take n l) ≡ n → n ≤ length l
has-taken zero l e = omega arith
has-taken (suc n) [] e = absurd (omega (arith, e))
has-taken (suc n) (x ∷ l) e = omega (arith, has-taken n l (omega (arith, e)))

-- ---- the front of a list of bounds

as-listed : {A : Type 0} (f g : ℕ → A) (n : ℕ) → ((k : ℕ) → k < n → f k ≡ g k) → list_of f n ≡ list_of g n
unfolding list_of
as-listed f g zero h = refl
as-listed f g (suc n) h = rw (h 0 (omega arith), as-listed (λ i. f (suc i)) (λ i. g (suc i)) n (λ k l. h (suc k) (omega (arith, l))))

bounds-front : (Ds : List Bounds) (n : ℕ) → n ≤ length Ds → bounds_to (take n Ds) (length (take n Ds)) ≡ bounds_to Ds n
unfolding bounds_in
bounds-front Ds n l = rw (length-take-le n Ds l) (as-listed (bounds_in (take n Ds)) (bounds_in Ds) n (λ k h. get_or-take n Ds k _ h))

front-near : (Ds : List Bounds) (n : ℕ) → AllNear Ds → AllNear (take n Ds)
unfolding bounds_in
front-near Ds zero h x = (search rules, search rules)
front-near [] (suc n) h x = h x
front-near (D ∷ Ds) (suc n) h zero = h 0
front-near (D ∷ Ds) (suc n) h (suc x) = front-near Ds n (λ y. h (suc y)) x

-- ---- the bounds of a model that passes

module _ (ws : List ℕ) (passes : Passes ws) {hs uses : List ℕ} {m : Model} {Ds : List Bounds} (kept : ModelBounds ws hs m Ds uses) where
  pub kept-list : bounds_to Ds m.variables ≡ variables ws
  unfolding bounds
  kept-list = rw (kept.same, kept.seen.variables_counted) (bounds-listed (variables ws))

  -- the bounds of the variables alone, at the front of the list
  module _ (room : m.variables ≤ length Ds) where
    abbrev front : List Bounds
    front = take m.variables Ds

    pub front-list : bounds_to front (length front) ≡ variables ws
    front-list = bounds-front Ds m.variables room ∙ kept-list

    pub sized : m.variables ≤ 8 → list_count (variables ws) ≤ 65536 → ListsSized front (length front)
    unfolding bounds
    sized l c = record {
      near = front-near Ds m.variables (rw kept.same (bounds-near ws));
      inside = rw front-list (ordered-inside (variables ws) (ordered ws (passes-read ws passes)));
      few = rw front-list c;
      short = rw (length-take-le m.variables Ds room) l;
    }

keep-le : {A : Type 0} (t : A → Bool) (xs : List A) → length (keep t xs) ≤ length xs
keep-le t [] = omega arith
keep-le t (x ∷ xs) = go (t x) (keep-le t xs)
  where
    go : (b : Bool) → length (keep t xs) ≤ length xs → length (x ∷ keep t xs if b else keep t xs) ≤ suc (length xs)
    go true h = omega arith
    go false h = omega arith

-- ---- the room for the solutions within bounds

module _ (ws : List ℕ) {Ds : List Bounds} {n : ℕ} (s : ListsSized Ds n) where
  abbrev Count : ℕ
  Count = length (solutions_in ws Ds n)

  few-solutions : Count ≤ list_count (bounds_to Ds n)
  few-solutions = omega (arith, keep-le (every_true ws) (value_lists (bounds_to Ds n)), count-is (bounds_to Ds n))

  pub lists-fit : list_count (bounds_to Ds n) * n ≤ 524288
  lists-fit = omega (arith, mul-le s.few s.short)

  pub solutions-fit : Count * n ≤ 524288
  solutions-fit = let h : Count ≤ 65536 = omega (arith, few-solutions, s.few) in omega (arith, mul-le h s.short)

  -- where all lists fit, the solutions do
  pub all_fit : (room : ℕ) → list_count (bounds_to Ds n) * n ≤ room → false ≡ ltb room (Count * n)
  all_fit room l =
      let h : n ≤ n = omega arith in
      let f : Count * n ≤ room = omega (arith, mul-le few-solutions h) in
      sym (le-ltb room (Count * n) f)

  module _ (passes : Passes ws) (out : List ℤ) (b : bounds_to Ds n ≡ variables ws) where
    n-is : n ≡ length (variables ws)
    n-is = sym (list_of-length (bounds_in Ds) n) ∙ ap length b

    same-solutions : solutions_in ws Ds n ≡ solutions ws
    unfolding solutions
    same-solutions = rw b

    few : length (variables ws) ≤ 8
    few = omega (arith, n-is, s.short)

    small-enough : list_count (variables ws) ≤ 65536
    small-enough = rw b at s.few

    needs : Count * n ≡ length (solutions ws) * length (variables ws)
    needs = ap (λ (l : List (List ℤ)). length l * n) same-solutions ∙ ap (λ (k : ℕ). length (solutions ws) * k) n-is

    pub no_room : ltb (length out) (Count * n) ≡ true → Gives ws out (refused 16 0) out
    no_room h = let l : length out < Count * n = ltb-true (length out) (Count * n) h in too_short ws passes out few small-enough (rw needs at l)

    pub room : ltb (length out) (Count * n) ≡ false → (count : ℕ) → count ≡ Count → (out' : List ℤ) → out' ≡ overlay out 0 (flatten (solutions_in ws Ds n)) → Gives ws out (written count) out'
    room h count c out' f =
        let l : Count * n ≤ length out = ltb-false (length out) (Count * n) h in
        rw (f, c, same-solutions) (lists ws passes out few small-enough (rw needs at l))

-- ---- a list of as many values as there are variables

module _ {Ds : List Bounds} {n m : ℕ} (e : n ≡ m) where
  pub sized_as : ListsSized Ds n → ListsSized Ds m
  sized_as s = rw e at s

-- ---- check's refusal stands

module _ (ws : List ℕ) (out : List ℤ) where
  refuses : {n p : ℕ} → (n ≡ 0 → ⊥) → solutions_fault ws (length out) ≡ (n at_place p) → Gives ws out (refused n p) out
  unfolding solutions_answer solutions_listed ◌else_answer◌
  refuses {n} {p} f e = (rw e (refused-first n p _ f), rw (e, ne_eqb n 0 f))

  pub stands : {n p : ℕ} → refused n p ≡ check ws → Gives ws out (refused n p) out
  unfolding solutions_fault
  stands e = let h = check-stands ws e in refuses h.0 (h.1 _)
