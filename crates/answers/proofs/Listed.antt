-- Lists of values, one after another: the first, then the others.
use Rattle.std.proofs.Common.{◌≡◌, sym, ap, ◌∙◌, List, ◌++◌, append_assoc, ℕ, zero, suc, ◌+◌, ◌-◌, ◌*◌, ◌<◌, ◌≤◌, ℤ, arith, take, drop, length, length-drop}
use Rattle.std.specs.List.{flat_map}
use Rattle.answers.specs.Lists.{lists_of, separated}

-- of lists that are left, the first stands in front
first-left : (f : List ℤ → List ℕ) (left n : ℕ) (vs : List ℤ) → 0 < left → flat_map f (lists_of left n vs) ≡ f (take n vs) ++ flat_map f (lists_of (left - 1) n (drop n vs))
first-left f zero n vs h = absurd (omega arith)
first-left f (suc left) n vs h = let e : suc left - 1 ≡ left = omega arith in rw e

-- and has its values
pub one_left : (left n : ℕ) → 0 < left → left * n ≡ n + (left - 1) * n
one_left zero n h = absurd (omega arith)
one_left (suc left) n h = let e : suc left - 1 ≡ left = omega arith in rw e (grind arith)

-- what is left after it: the values are enough, and what is appended is what was to be
module _ (left n : ℕ) (rest others : List ℤ) (h : 0 < left) (b : others ≡ drop n rest) where
  pub enough : left * n ≤ length rest → (left - 1) * n ≤ length others
  enough e = rw b (omega (arith, length-drop n rest, one_left left n h))

  pub same : (f : List ℤ → List ℕ) (out new all : List ℕ) (front : List ℤ) → front ≡ take n rest → new ≡ out ++ f front → out ++ flat_map f (lists_of left n rest) ≡ all → new ++ flat_map f (lists_of (left - 1) n others) ≡ all
  same f out new all front a e s =
      rw (e, a, b) (append_assoc out (f (take n rest)) (flat_map f (lists_of (left - 1) n (drop n rest))) ∙ ap (λ (l : List ℕ). out ++ l) (sym (first-left f left n rest h)) ∙ s)

-- the same with a separator before each of the others
pub listed : (f : List ℤ → List ℕ) (between : List ℕ) (count n : ℕ) (vs others : List ℤ) → 0 < count → others ≡ drop n vs → separated between f (lists_of count n vs) ≡ f (take n vs) ++ flat_map (λ (y : List ℤ). between ++ f y) (lists_of (count - 1) n others)
listed f between zero n vs others h b = absurd (omega arith)
listed f between (suc count) n vs others h b = let e : suc count - 1 ≡ count = omega arith in rw (e, b)

pub first_and_others : (f : List ℤ → List ℕ) (between : List ℕ) (count n : ℕ) (vs one others : List ℤ) (out mid new : List ℕ) → 0 < count → one ≡ take n vs → others ≡ drop n vs → mid ≡ out ++ f one → new ≡ mid ++ flat_map (λ (y : List ℤ). between ++ f y) (lists_of (count - 1) n others) →
    new ≡ out ++ separated between f (lists_of count n vs)
first_and_others f between count n vs one others out mid new h a b m e =
    rw (listed f between count n vs others h b, e, m, a) (append_assoc out (f (take n vs)) (flat_map (λ (y : List ℤ). between ++ f y) (lists_of (count - 1) n others)))
