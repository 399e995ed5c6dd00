-- Codes 21 to 23, the builtins of lists of Boolean variables: a sum of such variables is the number of those that are 1.
use Rattle.std.proofs.Common.{◌≡◌, refl, ◌⊎◌, inl, inr, ◌↔◌, Bool, true, false, ◌&&◌, ◌||◌, List, [], ◌∷◌, ◌++◌, map, append-nil, ℕ, zero, suc, ◌+◌, ◌-◌, ◌*◌, ◌/◌, ◌%◌, ◌≤◌, ◌<◌, arith, ℤ, pos, length, eqb-true, eq-eqb}
use Rattle.integers.specs.Choice.{◌if◌else◌}
use Rattle.integers.specs.Number.{◌⊕◌, ◌⊖◌, ◌⊗◌, ◌≟◌, +0, +1, -1, -2}
use Rattle.integers.specs.Lists.{all, any, how_many}
use Rattle.integers.specs.Bounds.{◌to◌}
use Rattle.integers.specs.Terms.{Valuation, Term, ◌·◌, value}
use Rattle.integers.specs.declared.Bounds.{Bounds}
use Rattle.integers.proofs.Linear.{◌⊑◌, linear, arith_z, from₁}
use Rattle.integers.proofs.Bits.{Bit, b0, b1, Reified, reified-0, reified-1, bit_case}
use Rattle.integers.proofs.Lists.{all_append, all_map}
use Rattle.integers.proofs.Tests.{Says, In, All, says-or, false-true}
use Rattle.integers.proofs.Places.{how_many-le}
use Rattle.models.specs.Builtin.{bool_clause, array_bool_and, array_bool_xor}
use Rattle.models.specs.Meaning.{meaning, on, off, odd}
use Rattle.models.proofs.Arguments.{boolean_arguments}
use Rattle.rules.specs.Block.{Ref, source, aux}
use Rattle.rules.specs.Parts.{half_less, ◌─◌≤0, each}
use Rattle.rules.specs.Rule.{rule}
use Rattle.rules.specs.Pick.{pick}
use Rattle.sharing.proofs.Good.{Sat, dot, see}
use Rattle.sharing.proofs.Fits.{Fits}
use Rattle.sharing.proofs.Basics.{Correct, Exact, agree, says_as, says-reified, not_above_row, one-row, in_bit}

-- ---- how many elements pass a test

module _ {A : Type 0} (t : A → Bool) where
  pub says_some : (xs : List A) → Says (any t xs) (1 ≤ how_many t xs)
  unfolding any how_many
  says_some [] = (λ e. false-true e, λ h. absurd (omega arith))
  says_some (x ∷ xs) = more (t x) _ _ (says_some xs)
    where
      more : (b u : Bool) (k : ℕ) → Says u (1 ≤ k) → Says (b || u) (1 ≤ (1 if b else 0) + k)
      more true u k s = (λ e. omega arith, λ h. refl)
      more false u k s = says_as s (omega arith)

  pub says-every : (xs : List A) → Says (all t xs) (length xs ≤ how_many t xs)
  unfolding all how_many
  says-every [] = (λ e. omega arith, λ h. refl)
  says-every (x ∷ xs) = more (t x) _ _ _ (says-every xs) (how_many-le t xs)
    where
      more : (b u : Bool) (k n : ℕ) → Says u (n ≤ k) → k ≤ n → Says (b && u) (suc n ≤ (1 if b else 0) + k)
      more true u k n s h = says_as s (omega arith)
      more false u k n s h = (λ e. false-true e, λ l. absurd (omega arith))

-- ---- Boolean variables

module _ (σ : Valuation) where
  -- how many of the variables are 1
  abbrev ones : List ℕ → ℕ
  ones vs = how_many (on σ) vs

  abbrev ZeroOne : List ℕ → Type 0
  ZeroOne vs = All (λ v. Bit (σ v)) vs

  -- c × each of them, and more terms
  dot-each : (α : Valuation) (c : ℤ) (vs : List ℕ) → ZeroOne vs → (more : List (Term Ref)) →
      dot (see σ α) (each c vs ++ more) ≡ c ⊗ pos (ones vs) ⊕ dot (see σ α) more
  unfolding each how_many on ◌≟◌
  dot-each α c [] h more = none c _
    where
      none : (c m : ℤ) → m ≡ c ⊗ +0 ⊕ m
      none = simp linear (omega arith)
  dot-each α c (v ∷ vs) h more =
      bit_case h.0 (λ e. rw (e, dot-each α c vs h.1 more) (added c 0 _ _)) (λ e. rw (e, dot-each α c vs h.1 more) (added c 1 _ _))
    where
      added : (c : ℤ) (k n : ℕ) (m : ℤ) → c ⊗ pos k ⊕ (c ⊗ pos n ⊕ m) ≡ c ⊗ pos (k + n) ⊕ m
      added = simp linear (omega arith)

  dot_each_only : (α : Valuation) (c : ℤ) (vs : List ℕ) → ZeroOne vs → dot (see σ α) (each c vs) ≡ c ⊗ pos (ones vs) ⊕ +0
  dot_each_only α c vs h = rw append-nil at (dot-each α c vs h [])

  -- some variable is 0
  says_some_off : (vs : List ℕ) → ZeroOne vs → Says (any (off σ) vs) (ones vs < length vs)
  unfolding any how_many on off ◌≟◌
  says_some_off [] h = (λ e. false-true e, λ k. absurd (omega arith))
  says_some_off (v ∷ vs) h =
      bit_case h.0 (λ e. rw e (λ t. omega (arith, how_many-le (on σ) vs), λ k. refl))
      (λ e. rw e (says_as (says_some_off vs h.1) (omega arith)))

  -- r is at most each of them: always for 0, and for 1 where all are 1
  all_from_zero : (vs : List ℕ) → ZeroOne vs → All (λ v. +0 ⊑ σ v) vs
  all_from_zero [] h = tt
  all_from_zero (v ∷ vs) h = ((in_bit (σ v) h.0).0, all_from_zero vs h.1)

  all_from_one : (vs : List ℕ) → ZeroOne vs → All (λ v. +1 ⊑ σ v) vs ↔ (length vs ≤ ones vs)
  unfolding how_many on ◌≟◌
  all_from_one [] h = (λ g. omega arith, λ l. tt)
  all_from_one (v ∷ vs) h =
      let r = all_from_one vs h.1 in
      bit_case h.0 (λ e. rw e (λ g. absurd (none g.0), λ l. absurd (omega (arith, how_many-le (on σ) vs))))
      (λ e. rw e (λ g. omega (arith, r.0 g.1), λ l. (omega arith_z, r.1 (omega arith))))
    where
      none : ¬ (+1 ⊑ +0)
      none l = omega arith_z

  -- the rows of 22
  and-rows : {r : ℤ} → Bit r → (vs : List ℕ) → ZeroOne vs →
      (All (λ v. r ⊑ σ v) vs × (+1 ⊗ pos (ones vs) ⊕ (-1 ⊗ r ⊕ +0) ⊕ (+1 ⊖ pos (length vs)) ⊑ +0)) ↔ Reified r (length vs ≤ ones vs)
  and-rows b0 vs h = (λ g. (reified-0 _).1 ((last _ _).0 g.1), λ m. (all_from_zero vs h, (last _ _).1 ((reified-0 _).0 m)))
    where
      last : (k n : ℕ) → (+1 ⊗ pos k ⊕ (-1 ⊗ +0 ⊕ +0) ⊕ (+1 ⊖ pos n) ⊑ +0) ↔ ¬ (n ≤ k)
      last = simp linear (omega arith)
  and-rows b1 vs h =
      let a = all_from_one vs h in
      (λ g. (reified-1 _).1 (a.0 g.0), λ m. (a.1 ((reified-1 _).0 m), last _ _ (how_many-le (on σ) vs)))
    where
      last : (k n : ℕ) → k ≤ n → +1 ⊗ pos k ⊕ (-1 ⊗ +1 ⊕ +0) ⊕ (+1 ⊖ pos n) ⊑ +0
      last = simp linear (omega arith)

-- ---- 23: n − 2×t − 1 = 0

-- only an odd n has such a t; then it is half of n − 1, which is within the bounds where n is at most the length
odd-row : (n : ℕ) (t : ℤ) → +1 ⊗ pos n ⊕ (-2 ⊗ t ⊕ +0) ⊕ -1 ≡ +0 → n % 2 ≡ 1
odd-row = simp linear (omega arith)

row-odd : (n : ℕ) → n % 2 ≡ 1 → +1 ⊗ pos n ⊕ (-2 ⊗ pos (half_less n) ⊕ +0) ⊕ -1 ≡ +0
unfolding half_less
row-odd n e = row n ((n - 1) / 2) (omega arith)
  where
    row : (n k : ℕ) → n ≡ 2 * k + 1 → +1 ⊗ pos n ⊕ (-2 ⊗ pos k ⊕ +0) ⊕ -1 ≡ +0
    row = simp linear (omega arith)

half-only : (n : ℕ) (t : ℤ) → +1 ⊗ pos n ⊕ (-2 ⊗ t ⊕ +0) ⊕ -1 ≡ +0 → t ≡ pos (half_less n)
unfolding half_less
half-only n t e = half n t ((n - 1) / 2) (omega (arith, odd-row n t e)) e
  where
    half : (n : ℕ) (t : ℤ) (k : ℕ) → n ≡ 2 * k + 1 → +1 ⊗ pos n ⊕ (-2 ⊗ t ⊕ +0) ⊕ -1 ≡ +0 → t ≡ pos k
    half = simp linear (omega arith)

half_in : (n m : ℕ) → n ≤ m → In (+0 to pos (half_less m)) (pos (half_less n))
unfolding half_less
half_in n m h = let l : (n - 1) / 2 ≤ (m - 1) / 2 = omega arith in omega arith_z

module _ (β : ℕ → Bounds) (σ : Valuation) where
  -- ---- 21 bool_clause

  pub bool_clause_exact : (xs ys : List ℕ) → Exact β σ (bool_clause xs ys)
  unfolding rule meaning boolean_arguments
  bool_clause_exact xs ys α f =
      let h = (all_append (λ v. Bit (σ v)) xs ys).0 f.zero_one in
      agree (says-or (says_some (on σ) xs) (says_some_off σ ys h.1))
      (one-row (rw (dot-each σ α -1 xs h.0 (each +1 ys), dot_each_only σ α +1 ys h.1) (sound _ _ _, holds _ _ _ (how_many-le (on σ) ys))))
    where
      sound : (n k m : ℕ) → -1 ⊗ pos n ⊕ (+1 ⊗ pos k ⊕ +0) ⊕ (+1 ⊖ pos m) ⊑ +0 → (1 ≤ n) ⊎ (k < m)
      sound zero k m h = inr (from₁ h (simp linear (omega arith)))
      sound (suc n) k m h = inl (omega arith)

      holds : (n k m : ℕ) → k ≤ m → (1 ≤ n) ⊎ (k < m) → -1 ⊗ pos n ⊕ (+1 ⊗ pos k ⊕ +0) ⊕ (+1 ⊖ pos m) ⊑ +0
      holds = simp linear (omega arith)

  -- ---- 22 array_bool_and

  pub array_bool_and_exact : (xs : List ℕ) (r : ℕ) → Exact β σ (array_bool_and xs r)
  unfolding rule meaning boolean_arguments
  array_bool_and_exact xs r α f =
      let h = f.zero_one.1 in
      let q = all_append (Sat (see σ α)) (map (λ x. source r ─ source x ≤0) xs) _ in
      let a = all_map (λ x. source r ─ source x ≤0) (Sat (see σ α)) (λ x. σ r ⊑ σ x) (λ x. not_above_row (see σ α) (source r) (source x)) xs in
      let l = and-rows σ f.zero_one.0 xs h in
      let e = dot-each σ α +1 xs h (-1 · source r ∷ []) in
      agree (says-reified σ r (says-every (on σ) xs)) (
        λ g. l.0 (a.0 (q.0 g.1).0, rw e at (q.0 g.1).1.0),
        λ m. let k = l.1 m in (tt, q.1 (a.1 k.0, (rw e k.1, tt))),
      )

  -- ---- 23 array_bool_xor

  pub array_bool_xor_correct : (as₁ : List ℕ) → Correct β σ (array_bool_xor as₁)
  unfolding rule meaning odd boolean_arguments pick value
  array_bool_xor_correct xs = record {
    sound = λ α f g. eq-eqb (n % 2) 1 (odd-row n (α 0) (rw (row f α) at g.1.0));
    complete = λ f m rest. (
      (half_in n (length xs) (how_many-le (on σ) xs), tt),
      (rw (row f (value (pos (half_less n) ∷ rest))) (row-odd n (eqb-true (n % 2) 1 m)), tt),
    );
    filled = refl;
    determined = λ α f g. (half-only n (α 0) (rw (row f α) at g.1.0), tt);
  }
    where
      n : ℕ
      n = ones σ xs

      row : Fits β σ (array_bool_xor xs) → (α : Valuation) → dot (see σ α) (each +1 xs ++ (-2 · aux 0 ∷ [])) ≡ +1 ⊗ pos n ⊕ (-2 ⊗ α 0 ⊕ +0)
      row f α = dot-each σ α +1 xs f.zero_one (-2 · aux 0 ∷ [])
