-- A row over bits has no entry in the line of a bit that neither it nor its variables have.
use Rattle.integers.specs.declared.Bounds.{Bounds}
use Rattle.std.proofs.Common.{◌≡◌, refl, sym, subst, ◌⊎◌, inl, inr, Bool, true, false, List, [], ◌∷◌, ◌++◌, map, ℕ, zero, suc, ◌+◌, ◌<◌, ◌≤◌, min, arith, eqb, ℤ, pos, length, length-append, get_or, ne_eqb}
use mathlib.Core.List.{flat_map}
use native.Mathlib.Decide.{dec_le, ℕ_discrete}
use Rattle.integers.specs.Choice.{◌if◌else◌}
use Rattle.integers.specs.Number.{◌⊕◌, ◌⊗◌, neg, +0, +1, +2, -2}
use Rattle.integers.specs.Lists.{list_of}
use Rattle.integers.specs.Terms.{Term, ◌·◌}
use Rattle.integers.proofs.Linear.{linear}
use Rattle.integers.proofs.Lists.{all_append, all_implies, all_both}
use Rattle.integers.proofs.Tests.{All}
use Rattle.integers.proofs.Sums.{both_zero, zero-times}
use Rattle.rowsystems.specs.Row.{Row, sum≤0, sum=0, product}
use Rattle.rowsystems.specs.RowSystem.{terms_in}
use Rattle.integers.specs.Bounds.{bounds_in}
use Rattle.bitforms.specs.SumOver.{sum_over}
use Rattle.bitforms.specs.Weights.{weights}
use Rattle.bitforms.specs.OverBits.{OverBits, weighted_bits, scaled, over_bits, over}
use Rattle.bitforms.specs.BitRow.{Pair, slack_weights, pairs_with, pairs_of, product_whole, bit_row}
use Rattle.bitforms.specs.Matrix.{coefficient_of, square_with, square_entry, on_pair, pair_entry, row_entry}
use Rattle.bitforms.proofs.Numbers.{with-length, pairs-all}
use Rattle.bittables.specs.BitTables.{span_in, bits_of, row_over, BitCounts}
use Rattle.bitrows.specs.Terms.{term_in}
use Rattle.bitfilling.specs.Idle.{NotAmong, NoBitOf, Idle, IdleRow}

-- a bit whose coefficient is 0 has no entries
pub zero-with : (k : ℕ → ℤ) (c : ℤ) (i j : ℕ) → k i ≡ pos 0 → square_with k c i j ≡ pos 0
zero-with k c i j h = rw h (go (eqb i j))
  where
    on : (c : ℤ) → pos 0 ⊗ pos 0 ⊕ +2 ⊗ c ⊗ pos 0 ≡ pos 0
    on = simp linear (omega arith)

    off : (x : ℤ) → +2 ⊗ pos 0 ⊗ x ≡ pos 0
    off = simp linear (omega arith)

    go : (t : Bool) → (pos 0 ⊗ pos 0 ⊕ +2 ⊗ c ⊗ pos 0 if t else +2 ⊗ pos 0 ⊗ k j) ≡ pos 0
    go true = on c
    go false = off (k j)

module _ (i : ℕ) where
  abbrev Other : ℕ → Type 0
  Other a = a ≡ i → ⊥

  abbrev Others : List (Term ℕ) → Type 0
  Others ts = All (λ t. Other t.variable) ts

  -- ---- terms that leave the coefficient of the bit 0

  abbrev Still : Term ℕ → Type 0
  Still t = (t.coefficient ≡ pos 0) ⊎ Other t.variable

  still-coefficient : (ts : List (Term ℕ)) → All Still ts → coefficient_of ts i ≡ pos 0
  unfolding coefficient_of sum_over
  still-coefficient [] h = refl
  still-coefficient (t ∷ ts) h = both_zero _ _ (one h.0) (still-coefficient ts h.1)
    where
      either : (b : Bool) → (pos 0 if b else +0) ≡ pos 0
      either true = refl
      either false = refl

      one : Still t → (t.coefficient if eqb t.variable i else +0) ≡ pos 0
      one (inl e) = rw e (either (eqb t.variable i))
      one (inr n) = rw (ne_eqb t.variable i n) refl

  others-still : (ts : List (Term ℕ)) → Others ts → All Still ts
  others-still ts h = all_implies (λ t. Other t.variable) Still (λ t n. inr n) ts h

  scaled-others : (k : ℤ) (ts : List (Term ℕ)) → Others ts → Others (scaled k ts)
  unfolding scaled
  scaled-others k [] h = tt
  scaled-others k (t ∷ ts) h = (h.0, scaled-others k ts h.1)

  -- k × other bits, or 0 × any
  scaled-still : (k : ℤ) (ts : List (Term ℕ)) → (k ≡ pos 0) ⊎ Others ts → All Still (scaled k ts)
  unfolding scaled
  scaled-still k ts (inr h) = others-still (scaled k ts) (scaled-others k ts h)
  scaled-still k [] (inl e) = tt
  scaled-still k (t ∷ ts) (inl e) = (inl (none k t.coefficient e), scaled-still k ts (inl e))
    where
      none : (k a : ℤ) → k ≡ pos 0 → k ⊗ a ≡ pos 0
      none k a e = rw e (zero-times a)

  weighted-others : (first : ℕ) (ws : List ℕ) → NotAmong first (length ws) i → Others (weighted_bits first ws)
  unfolding weighted_bits
  weighted-others first [] h = tt
  weighted-others first (w ∷ ws) h = (λ e. h 0 (omega arith) (omega arith), weighted-others (suc first) ws (λ k l e. h (suc k) (omega arith) (omega arith)))

  over-still : (N : ℕ → Type 0) (F : ℕ → List (Term ℕ)) → ((v : ℕ) → N v → Others (F v)) → (ts : List (Term ℕ)) →
      ((k : ℕ) → Idle N (get_or ts k (+0 · 0))) → All Still (flat_map (λ t. scaled t.coefficient (F t.variable)) ts)
  unfolding flat_map
  over-still N F o [] h = tt
  over-still N F o (t ∷ ts) h =
      (all_append Still (scaled t.coefficient (F t.variable)) (flat_map (λ t. scaled t.coefficient (F t.variable)) ts)).1
      (scaled-still t.coefficient (F t.variable) (one (h 0)), over-still N F o ts (λ k. h (suc k)))
    where
      one : Idle N t → (t.coefficient ≡ pos 0) ⊎ Others (F t.variable)
      one (inl e) = inl e
      one (inr n) = inr (o t.variable n)

  no-square : (s : OverBits) (j : ℕ) → All Still s.terms → square_entry s i j ≡ pos 0
  unfolding square_entry
  no-square s j h = zero-with (coefficient_of s.terms) s.constant i j (still-coefficient s.terms h)

  -- ---- pairs of other bits, with other bits for their products

  no-entry : (c : ℤ) (a b j : ℕ) → Other a → Other b → on_pair c a b i j ≡ pos 0
  unfolding on_pair
  no-entry c a b j h k = rw (ne_eqb (min a b) i lesser) refl
    where
      lesser : min a b ≡ i → ⊥
      lesser e = go (dec_le a b)
        where
          go : Dec (a ≤ b) → ⊥
          go (yes l) = h (omega arith)
          go (no l) = k (omega arith)

  no-pair : (p : Pair) (j : ℕ) → (Other p.u × Other p.v) × Other p.t → pair_entry p i j ≡ pos 0
  unfolding pair_entry ◌⊕◌
  no-pair p j ((u, v), t) =
      rw (no-entry (pos 3) p.t p.t j t t, no-entry +1 p.u p.v j u v, no-entry -2 p.u p.t j u t, no-entry -2 p.v p.t j v t) refl

  no_pairs : (ps : List Pair) (j : ℕ) → All (λ p. (Other p.u × Other p.v) × Other p.t) ps → sum_over (λ p. pair_entry p i j) ps ≡ pos 0
  unfolding sum_over ◌⊕◌
  no_pairs [] j h = refl
  no_pairs (p ∷ ps) j h = rw (no-pair p j h.0, no_pairs ps j h.1) refl

  with-other : (first : ℕ) (f : Term ℕ) (gs : List (Term ℕ)) → NotAmong first (length gs) i → All (λ p. Other p.t) (pairs_with first f gs)
  unfolding pairs_with
  with-other first f [] h = tt
  with-other first f (g ∷ gs) h = (λ e. h 0 (omega arith) (omega arith), with-other (suc first) f gs (λ k l e. h (suc k) (omega arith) (omega arith)))

  pairs-other : (first : ℕ) (fs gs : List (Term ℕ)) → NotAmong first (length (pairs_of first fs gs)) i → All (λ p. Other p.t) (pairs_of first fs gs)
  unfolding pairs_of
  pairs-other first [] gs h = tt
  pairs-other first (f ∷ fs) gs h =
      let qs = pairs_of (first + length gs) fs gs in
      let e = length-append (pairs_with first f gs) qs in
      let w = with-length first f gs in
      (all_append (λ p. Other p.t) (pairs_with first f gs) qs).1
      (with-other first f gs (λ k l. h k (omega arith)), pairs-other (first + length gs) fs gs (λ k l z. h (length gs + k) (omega arith) (omega arith)))

  products-others : (ps : List Pair) → All (λ p. Other p.t) ps → Others (map (λ p. neg p.weight · p.t) ps)
  products-others [] h = tt
  products-others (p ∷ ps) h = (h.0, products-others ps h.1)

  -- ---- rows

  without : (s : OverBits) (ps : List Pair) (j : ℕ) → All Still s.terms → sum_over (λ p. pair_entry p i j) ps ≡ pos 0 →
      square_entry s i j ⊕ sum_over (λ p. pair_entry p i j) ps ≡ pos 0
  unfolding ◌⊕◌
  without s ps j e f = rw (no-square s j e, f) refl

  module _ (Ds : List Bounds) (firsts counts : List ℕ) (counted : BitCounts Ds counts) where
    bits-others : (v : ℕ) → NoBitOf firsts counts i v → Others (bits_of Ds firsts v)
    unfolding bits_of
    bits-others v h = weighted-others (get_or firsts v 0) (weights (span_in Ds v)) (subst (λ n. NotAmong (get_or firsts v 0) n i) (counted v) h)

    pub idle_row : (first own : ℕ) (q : Row ℕ) → own ≡ (row_over Ds firsts first q).own → NotAmong first own i → IdleRow (NoBitOf firsts counts i) q →
        (j : ℕ) → row_entry (row_over Ds firsts first q) i j ≡ +0
    unfolding bit_row over over_bits product_whole IdleRow sum_over
    idle_row first own (sum≤0 ts c) e o h j =
        let s = slack_weights (bounds_in Ds) ts c in
        let T = flat_map (λ t. scaled t.coefficient (bits_of Ds firsts t.variable)) ts in
        without (row_over Ds firsts first (sum≤0 ts c)).whole [] j
        ((all_append Still T (weighted_bits first s)).1
        (over-still (NoBitOf firsts counts i) (bits_of Ds firsts) bits-others ts h, others-still (weighted_bits first s) (weighted-others first s (subst (λ n. NotAmong first n i) e o)))) refl
    idle_row first own (sum=0 ts c) e o h j =
        without (row_over Ds firsts first (sum=0 ts c)).whole [] j (over-still (NoBitOf firsts counts i) (bits_of Ds firsts) bits-others ts h) refl
    idle_row first own (product r f g) e o (hr, hf, hg) j =
        let fs = bits_of Ds firsts f in
        let gs = bits_of Ds firsts g in
        let ps = pairs_of first fs gs in
        let p = pairs-other first fs gs (subst (λ n. NotAmong first n i) e o) in
        let G = scaled (neg ((bounds_in Ds f).lower)) gs in
        let F = scaled (neg ((bounds_in Ds g).lower)) fs in
        let P = map (λ p. neg p.weight · p.t) ps in
        let A : Term ℕ → Type 0 = λ t. Other t.variable in
        without (row_over Ds firsts first (product r f g)).whole ps j
        (others-still (bits_of Ds firsts r ++ (G ++ (F ++ P))) ((all_append A (bits_of Ds firsts r) (G ++ (F ++ P))).1 (bits-others r hr, (all_append A G (F ++ P)).1 (scaled-others (neg ((bounds_in Ds f).lower)) gs (bits-others g hg), (all_append A F P).1 (scaled-others (neg ((bounds_in Ds g).lower)) fs (bits-others f hf), products-others ps p)))))
        (no_pairs ps j (all_both (λ p. Other p.u × Other p.v) (λ p. Other p.t) ps (pairs-all Other first fs gs (bits-others f hf) (bits-others g hg)) p))

-- ---- the loop over a row's terms

module _ (N : ℕ → Type 0) (args : List ℕ) where
  pub idle_more : (k : ℕ) → ((j : ℕ) → j < k → Idle N (term_in args j)) → Idle N (term_in args k) → (j : ℕ) → j < k + 1 → Idle N (term_in args j)
  idle_more k h e j l = go (ℕ_discrete j k)
    where
      go : Dec (j ≡ k) → Idle N (term_in args j)
      go (yes p) = subst (λ x. Idle N (term_in args x)) (sym p) e
      go (no n) = h j (omega arith)

  pub idle_terms : (n : ℕ) → ((j : ℕ) → j < n → Idle N (term_in args j)) → (k : ℕ) → Idle N (get_or (terms_in args n) k (+0 · 0))
  unfolding terms_in list_of
  idle_terms n h k = go (term_in args) n h k
    where
      go : (f : ℕ → Term ℕ) (n : ℕ) → ((j : ℕ) → j < n → Idle N (f j)) → (k : ℕ) → Idle N (get_or (list_of f n) k (+0 · 0))
      go f zero h k = inl refl
      go f (suc n) h zero = h 0 (omega arith)
      go f (suc n) h (suc k) = go (λ i. f (suc i)) n (λ j l. h (suc j) (omega arith)) k
