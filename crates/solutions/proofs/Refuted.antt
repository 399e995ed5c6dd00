-- What AllSolutions is worth: it is false of wrong lists of solutions, for models of 1 and 2 variables: of one too few, one that is none, one twice, another order.
use Rattle.std.proofs.Common.{◌≡◌, refl, sym, ap, ◌∙◌, subst, inl, inr, ◌↔◌, Bool, true, false, ◌&&◌, ◌||◌, List, [], ◌∷◌, ◌++◌, ℕ, zero, suc, ◌*◌, arith, ℤ, pos, length, take, drop}
use Rattle.std.proofs.Math.Seq.{take-append_seam, drop-append_seam}
use mathlib.Core.List.{flatten}
use Rattle.integers.specs.Number.{◌≟◌, +0, +1, +2}
use Rattle.integers.specs.Lists.{any}
use Rattle.integers.proofs.Tests.{false-true, says-equal}
use Rattle.words.specs.Answer.{written}
use Rattle.words.specs.Variables.{variables}
use Rattle.sharing.specs.SharedSolutions.{SatisfiesModel}
use Rattle.sharing.proofs.Judged.{judge_model_says}
use Rattle.sharing.proofs.OnWords.{on_words}
use Rattle.sharing.proofs.WrongSystems.{free, at_most_0}
use Rattle.solutions.specs.AllSolutions.{OneOf, InOrder, AllSolutions}

different : {a b : ℤ} → (a ≟ b) ≡ false → a ≡ b → ⊥
different {a} {b} f e = false-true (sym f ∙ (says-equal a b).1 e)

-- ---- the lists that an output begins with: n of k values

chunks : ℕ → ℕ → List ℤ → List (List ℤ)
chunks k zero xs = []
chunks k (suc n) xs = take k xs ∷ chunks k n (drop k xs)

cut : (k : ℕ) (lists : List (List ℤ)) → ((us : List ℤ) → OneOf us lists → length us ≡ k) → chunks k (length lists) (flatten lists) ≡ lists
unfolding chunks flatten
cut k [] h = refl
cut k (us ∷ lists) h =
    let rest = flatten lists in
    subst (λ j. take j (us ++ rest) ∷ chunks k (length lists) (drop j (us ++ rest)) ≡ us ∷ lists) (h us (inl refl))
    (ap (λ t. t ∷ chunks k (length lists) (drop (length us) (us ++ rest))) (take-append_seam us rest)
    ∙ ap (λ d. us ∷ chunks k (length lists) d) (drop-append_seam us rest)
    ∙ ap (λ l. us ∷ l) (cut k lists (λ vs o. h vs (inr o))))

-- these are the solutions, in order
Says : List ℕ → List (List ℤ) → Type 0
Says model lists = ((vs : List ℤ) → OneOf vs lists ↔ SatisfiesModel model vs) × InOrder lists

says : (model : List ℕ) (n : ℕ) (out : List ℤ) → AllSolutions model (written n) out →
    Says model (chunks (length (variables model)) n (take (n * length (variables model)) out))
unfolding Says
says model n out h =
    let l = h n refl in
    let k = length (variables model) in
    let same : chunks k n (take (n * k) out) ≡ l.lists =
    ap (chunks k n) l.written ∙ ap (λ m. chunks k m (flatten l.lists)) l.counted ∙ cut k l.lists (λ us o. ((l.exactly us).0 o).one_each) in
    subst (λ lists. ((vs : List ℤ) → OneOf vs lists ↔ SatisfiesModel model vs) × InOrder lists) (sym same) (l.exactly, l.in_order)

-- ---- whether a list is one of these

same : List ℤ → List ℤ → Bool
same [] [] = true
same [] (u ∷ us) = false
same (v ∷ vs) [] = false
same (v ∷ vs) (u ∷ us) = (v ≟ u) && same vs us

is-same : (vs : List ℤ) → same vs vs ≡ true
unfolding same
is-same [] = refl
is-same (v ∷ vs) = ap (λ b. b && same vs vs) ((says-equal v v).1 refl) ∙ is-same vs

later : (a b : Bool) → (a || b) ≡ false → b ≡ false
later true b e = false-true (sym e)
later false b e = e

is-none : (vs : List ℤ) (lists : List (List ℤ)) → any (same vs) lists ≡ false → OneOf vs lists → ⊥
unfolding any
is-none vs [] f o = o
is-none vs (us ∷ lists) f (inl e) = false-true (sym f ∙ ap (λ b. b || any (same vs) lists) (subst (λ us. same vs us ≡ true) e (is-same vs)))
is-none vs (us ∷ lists) f (inr o) = is-none vs lists (later (same vs us) (any (same vs) lists) f) o

-- ---- wrong outputs, 7 behind them

abbrev Listed : List ℕ → ℕ → List ℤ → Type 0
Listed model n out = AllSolutions model (written n) (out ++ (pos 7 ∷ []))

-- the last solution is not listed
too_few : (Listed (free 0) 1 (+0 ∷ []) → ⊥) × (Listed (free 1) 3 (+0 ∷ +0 ∷ +0 ∷ +1 ∷ +1 ∷ +0 ∷ []) → ⊥)
unfolding on_words chunks same Says
too_few = (
  λ h. is-none (+1 ∷ []) ((+0 ∷ []) ∷ []) refl (((says (free 0) 1 _ h).0 (+1 ∷ [])).1 ((judge_model_says (free 0) refl (+1 ∷ [])).0 refl)),
  λ h.
      is-none (+1 ∷ +1 ∷ []) ((+0 ∷ +0 ∷ []) ∷ (+0 ∷ +1 ∷ []) ∷ (+1 ∷ +0 ∷ []) ∷ []) refl
      (((says (free 1) 3 _ h).0 (+1 ∷ +1 ∷ [])).1 ((judge_model_says (free 1) refl (+1 ∷ +1 ∷ [])).0 refl)),
)

-- none is listed
empty : (Listed (free 0) 0 [] → ⊥) × (Listed (free 1) 0 [] → ⊥)
unfolding on_words chunks same Says
empty = (
  λ h. ((says (free 0) 0 _ h).0 (+1 ∷ [])).1 ((judge_model_says (free 0) refl (+1 ∷ [])).0 refl),
  λ h. ((says (free 1) 0 _ h).0 (+1 ∷ +1 ∷ [])).1 ((judge_model_says (free 1) refl (+1 ∷ +1 ∷ [])).0 refl),
)

-- a list that makes a builtin false, and one that is out of bounds
no_solution : (Listed (at_most_0 0) 2 (+0 ∷ +1 ∷ []) → ⊥) × (Listed (at_most_0 1) 3 (+0 ∷ +0 ∷ +0 ∷ +1 ∷ +1 ∷ +0 ∷ []) → ⊥)
unfolding on_words chunks same Says
no_solution = (
  λ h. false-true (((says (at_most_0 0) 2 _ h).0 (+1 ∷ [])).0 (inr (inl refl))).all_true,
  λ h. false-true (((says (at_most_0 1) 3 _ h).0 (+1 ∷ +0 ∷ [])).0 (inr (inr (inl refl)))).all_true,
)

outside : (Listed (free 0) 3 (+0 ∷ +1 ∷ +2 ∷ []) → ⊥) × (Listed (at_most_0 1) 3 (+0 ∷ +0 ∷ +0 ∷ +1 ∷ +0 ∷ +2 ∷ []) → ⊥)
unfolding on_words chunks same Says
outside = (
  λ h. false-true ((((says (free 0) 3 _ h).0 (+2 ∷ [])).0 (inr (inr (inl refl)))).in_bounds 0 (omega arith)),
  λ h. false-true ((((says (at_most_0 1) 3 _ h).0 (+0 ∷ +2 ∷ [])).0 (inr (inr (inl refl)))).in_bounds 1 (omega arith)),
)

-- a solution is listed twice; the values fall; the first variable changes fastest
twice : (Listed (free 0) 3 (+0 ∷ +1 ∷ +1 ∷ []) → ⊥) × (Listed (at_most_0 1) 3 (+0 ∷ +0 ∷ +0 ∷ +1 ∷ +0 ∷ +1 ∷ []) → ⊥)
unfolding on_words chunks same Says
twice = (
  λ h. elim ((says (free 0) 3 _ h).1.1.0 (+1 ∷ []) (inl refl)) as (λ b. ⊥) [ inl l ↦ l.lt | inr r ↦ r.1 ],
  λ h. elim ((says (at_most_0 1) 3 _ h).1.1.0 (+0 ∷ +1 ∷ []) (inl refl)) as (λ b. ⊥) [ inl l ↦ l.lt | inr r ↦ elim (r.1) as (λ b. ⊥) [ inl l ↦ l.lt | inr r ↦ r.1 ] ],
)

order : (Listed (free 0) 2 (+1 ∷ +0 ∷ []) → ⊥) × (Listed (free 1) 4 (+0 ∷ +0 ∷ +1 ∷ +0 ∷ +0 ∷ +1 ∷ +1 ∷ +1 ∷ []) → ⊥)
unfolding on_words chunks same Says
order = (
  λ h. elim ((says (free 0) 2 _ h).1.0 (+0 ∷ []) (inl refl)) as (λ b. ⊥) [ inl l ↦ l.lt | inr r ↦ r.1 ],
  λ h. elim ((says (free 1) 4 _ h).1.1.0 (+0 ∷ +1 ∷ []) (inl refl)) as (λ b. ⊥) [ inl l ↦ l.lt | inr r ↦ different refl r.0 ],
)
