-- The odometer's turn, from the last variable to the first: the values after a place were the last ones, and are the first ones now.
use Rattle.std.proofs.Common.{◌≡◌, refl, sym, ap, ◌∙◌, true, false, not, List, [], ◌∷◌, ◌++◌, append-nil, append_assoc, ℕ, zero, suc, ◌+◌, ◌≤◌, arith, ℤ, length, take, drop, get_or, set, drop_of_length-le, drop-cons, take-suc, length-take-le, take_all}
use lib.Signed.{lt_z}
use lib.Seq.{set_at, get_or_at}
use Rattle.integers.specs.Number.{◌⊕◌, +0, +1}
use Rattle.integers.specs.Lists.{list_of}
use Rattle.integers.specs.declared.Bounds.{Bounds}
use Rattle.integers.proofs.Lists.{list_of-length}
use Rattle.solutions.specs.Odometer.{is_last, turned, next_list}
use Rattle.solutions.proofs.Counts.{bounds-then}

-- where a value is not the last one, the values before it stay
finish : (j : ℕ) (Bs : List Bounds) (vs : List ℤ) → j ≤ length Bs → j ≤ length vs → is_last (drop j Bs) (drop j vs) ≡ false →
    (is_last Bs vs ≡ false) × (next_list Bs vs ≡ take j vs ++ next_list (drop j Bs) (drop j vs))
unfolding is_last next_list
finish zero Bs vs l m h = (h, refl)
finish (suc j) [] vs l m h = absurd (omega arith)
finish (suc j) (B ∷ Bs) [] l m h = absurd (omega arith)
finish (suc j) (B ∷ Bs) (v ∷ vs) l m h = let r = finish j Bs vs (omega arith) (omega arith) h in (rw r.0, rw r.0 (ap (λ l. v ∷ l) r.1))

module _ (β : ℕ → Bounds) (vs₀ : List ℤ) where
  abbrev Bs : List Bounds
  Bs = list_of β (length vs₀)

  pub record Stepping (vs : List ℤ) (k : ℕ) : Type 0 where
    pub inside : k ≤ length vs₀
    pub last : is_last (drop k Bs) (drop k vs₀) ≡ true
    pub list : vs ≡ take k vs₀ ++ next_list (drop k Bs) (drop k vs₀)

  pub begun-step : Stepping vs₀ (length vs₀)
  unfolding is_last next_list
  begun-step =
      let q : length Bs ≤ length vs₀ = omega (arith, list_of-length β (length vs₀)) in
      let e : drop (length vs₀) Bs ≡ [] = drop_of_length-le Bs q in
      record { inside = omega arith; last = rw e; list = rw e (sym (append-nil (take (length vs₀) vs₀) ∙ take_all (length vs₀) vs₀ (omega arith))) }

  pub done-step : {vs : List ℤ} {k : ℕ} → Stepping vs k → k ≤ 0 → (false ≡ not (is_last Bs vs₀)) × (vs ≡ next_list Bs vs₀)
  done-step {vs} {k} s h = let e : k ≡ 0 = omega arith in (ap not (sym (rw e at s.last)), rw e at s.list)

  module _ {vs : List ℤ} {k : ℕ} (s : Stepping vs k) (j : ℕ) (e : k ≡ suc j) where
    v : ℤ
    v = get_or vs₀ j +0

    taken : take k vs₀ ≡ take j vs₀ ++ (v ∷ [])
    unfolding v
    taken = rw e (take-suc vs₀ j +0 (omega (arith, s.inside)))

    front : length (take j vs₀) ≡ j
    front = length-take-le j vs₀ (omega (arith, s.inside))

    rest : List ℤ
    rest = next_list (drop k Bs) (drop k vs₀)

    here : vs ≡ take j vs₀ ++ (v ∷ rest)
    unfolding rest
    here = s.list ∙ ap (λ (l : List ℤ). l ++ rest) taken ∙ append_assoc (take j vs₀) (v ∷ []) rest

    -- the value at the place is still the one of before
    pub same-value : get_or vs j +0 ≡ get_or vs₀ j +0
    unfolding v
    same-value = ap (λ (l : List ℤ). get_or l j +0) here ∙ get_or_at (take j vs₀) v rest +0 j front

    put : (z : ℤ) → set vs j z ≡ take j vs₀ ++ (z ∷ rest)
    put z = ap (λ (l : List ℤ). set l j z) here ∙ set_at (take j vs₀) v rest z j front

    bounds-at : drop j Bs ≡ β j ∷ drop k Bs
    bounds-at = let f : suc j ≡ j + 1 = omega arith in rw (e, f) (bounds-then β (length vs₀) j (omega (arith, s.inside)))

    values-at : drop j vs₀ ≡ v ∷ drop k vs₀
    unfolding v
    values-at = rw e (drop-cons vs₀ j +0 (omega (arith, s.inside)))

    pub over : lt_z (get_or vs₀ j +0) (β j).upper ≡ false → Stepping (set vs j (β j).lower) j
    unfolding is_last next_list turned v rest
    over h = record {
      inside = omega (arith, s.inside);
      last = rw (bounds-at, values-at) (rw (s.last, h));
      list = put (β j).lower ∙ ap (λ (l : List ℤ). take j vs₀ ++ l) (sym (ap (λ bs. next_list bs (drop j vs₀)) bounds-at ∙ ap (next_list (β j ∷ drop k Bs)) values-at ∙ rw (s.last, h)));
    }

    pub up : lt_z (get_or vs₀ j +0) (β j).upper ≡ true → (true ≡ not (is_last Bs vs₀)) × (set vs j (get_or vs₀ j +0 ⊕ +1) ≡ next_list Bs vs₀)
    unfolding is_last next_list turned v rest
    up h =
        let f = finish j Bs vs₀ (omega (arith, list_of-length β (length vs₀), s.inside)) (omega (arith, s.inside)) (rw (bounds-at, values-at) (rw (s.last, h))) in
        (ap not (sym f.0), put (v ⊕ +1) ∙ sym (f.1 ∙ ap (λ (l : List ℤ). take j vs₀ ++ l) (ap (λ bs. next_list bs (drop j vs₀)) bounds-at ∙ ap (next_list (β j ∷ drop k Bs)) values-at ∙ rw (s.last, h))))
