-- 26 array_int_maximum, 33 array_int_minimum: their blocks hold exactly where m is the largest, or the least, of the list.
use Rattle.std.proofs.Common.{◌≡◌, refl, sym, ap, ◌∙◌, ◌↔◌, Bool, true, ◌&&◌, List, ◌∷◌, ◌++◌, map, append_assoc, ℕ, ◌+◌, arith, ℤ, length}
use lib.Signed.{le_z}
use Rattle.integers.specs.Number.{◌≟◌}
use Rattle.integers.specs.Lists.{all, any}
use Rattle.integers.specs.Terms.{Valuation, value}
use Rattle.integers.specs.declared.Bounds.{Bounds}
use Rattle.integers.proofs.Linear.{◌⊑◌, ◌⊏◌, linear, arith_z}
use Rattle.integers.proofs.Lists.{all_append, all_map, all_implies, any-map}
use Rattle.integers.proofs.Tests.{Says, In, says-le, says-equal, says-and, says_any, says_all, All, Any}
use Rattle.integers.proofs.Places.{any-map as any-values, all_map as all-values}
use Rattle.models.specs.Builtin.{array_int_maximum, array_int_minimum}
use Rattle.models.specs.Meaning.{meaning, maximum, minimum}
use Rattle.models.proofs.Arguments.{integer_arguments}
use Rattle.rowsystems.specs.Row.{Row}
use Rattle.rules.specs.Block.{Ref, source}
use Rattle.rules.specs.Parts.{one, one_bit, chosen, products, ◌─◌≤0}
use Rattle.rules.specs.Rule.{rule, first_only, one_of}
use Rattle.rules.specs.Pick.{gated_pick, pick}
use Rattle.sharing.proofs.Good.{Sat, see}
use Rattle.sharing.proofs.Basics.{Represents, Correct, not_above_row}
use Rattle.sharing.proofs.OneHot.{from_zero, one_bit-law, chosen-law, chosen-one}
use Rattle.sharing.proofs.Gates.{products-law, gated-sum, gates-at, gates-keep, gates-sound, gates-complete, gates-filled, gates-are}
use Rattle.sharing.proofs.FirstOnly.{FirstOnly, first_implies, hot_bits, first_rows, first-picked}

-- m is one of the list, and a test t of each says P
says_one_of : (σ : Valuation) (m : ℤ) (t : ℤ → Bool) (P : ℤ → Type 0) → ((x : ℤ) → Says (t x) (P x)) → (xs : List ℕ) →
    Says (any (λ x. x ≟ m) (map σ xs) && all t (map σ xs)) (Any (λ x. σ x ≡ m) xs × All (λ x. P (σ x)) xs)
says_one_of σ m t P h xs =
    rw (any-values (λ x. x ≟ m) σ xs, all-values t σ xs)
    (says-and
    (says_any (λ x. σ x ≟ m) (λ x. σ x ≡ m) (λ x. says-equal (σ x) m) xs)
    (says_all (λ x. t (σ x)) (λ x. P (σ x)) (λ x. h (σ x)) xs))

-- u x and v x are x and m, or m and x, so that they are equal where x is m
module _ (β : ℕ → Bounds) (σ : Valuation) (m : ℕ) (xs : List ℕ) (u v : ℕ → ℕ) (tie : (x : ℕ) → (σ (u x) ≡ σ (v x)) ↔ (σ x ≡ σ m)) where
  -- the rows of the block: Σb−1=0; the products; Σz−m=0; u x is not above v x for each of the list; the last ones
  abbrev Rows : Valuation → Type 0
  Rows α =
      Sat (see σ α) (one_bit xs) × All (Sat (see σ α)) (products (λ x. x) xs 0 (length xs)) × Sat (see σ α) (chosen one xs (length xs) m)
      × All (λ x. σ (u x) ⊑ σ (v x)) xs × All (Sat (see σ α)) (first_only β u v xs 0)

  rows_are : (α : Valuation) → All (Sat (see σ α)) (one_of β u v m xs).rows ↔ Rows α
  unfolding one_of
  rows_are α =
      let each : ℕ → Row Ref = λ x. source (u x) ─ source (v x) ≤0 in
      let s = all_append (Sat (see σ α)) (products (λ x. x) xs 0 (length xs)) (chosen one xs (length xs) m ∷ (map each xs ++ first_only β u v xs 0)) in
      let t = all_append (Sat (see σ α)) (map each xs) (first_only β u v xs 0) in
      let b = all_map each (Sat (see σ α)) (λ x. σ (u x) ⊑ σ (v x)) (λ x. not_above_row (see σ α) (source (u x)) (source (v x))) xs in (
        λ g. let p = s.0 g.1 in let q = t.0 p.1.1 in (g.0, p.0, p.1.0, b.0 q.0, q.1),
        λ g. (g.0, s.1 (g.1, (g.2, t.1 (b.1 g.3, g.4)))),
      )

  -- m is one of the list, and u x is not above v x for each
  abbrev Extreme : Type 0
  Extreme = Any (λ x. σ x ≡ σ m) xs × All (λ x. σ (u x) ⊑ σ (v x)) xs

  -- all variables keep their bounds
  one-of : {F : Type 0} {t : Bool} → Says t Extreme → (F → In (β m) (σ m) × All (λ x. In (β x) (σ x)) xs) →
      ((x : ℕ) → In (β m) (σ m) → In (β x) (σ x) → In (β (u x)) (σ (u x)) × In (β (v x)) (σ (v x))) →
      Represents F (one_of β u v m xs) σ (gated_pick σ (λ x. σ x ≟ σ m) xs) t
  unfolding one_of gated_pick
  one-of {F} says kept ends = record {
    sound = λ α f g.
        let r = (rows_are α).0 g.1 in
        let w = gates-sound β xs σ α g.0 r.0 in
        let e = (gates-at (λ x. x) xs (length xs) m σ α w.0 w.1 r.1).0 r.2 in
        says.1 (any-map (λ x. w.0 ≡ x) (λ x. σ x ≡ σ m) (λ x p. ap σ (sym p) ∙ e) xs w.1.0, r.3);
    complete = λ f holds rest.
        let h = says.0 holds in
        let some = any-map (λ x. σ x ≡ σ m) (λ x. t x ≡ true) (λ x. (says-equal (σ x) (σ m)).1) xs h.0 in
        let p = gates-complete (λ x. x) t xs β σ rest (kept f).1 some in
        let l = p.2.0 in
        let c = p.2.1.1 in
        let α = value (gated_pick σ t xs ++ rest) in
        let e = (gates-at (λ x. x) xs (length xs) m σ α l c p.1).1 ((says-equal (σ l) (σ m)).0 p.2.1.0) in
        let k = ((gates-keep β xs α (λ j. α (length xs + j)) (λ j. refl)).0 p.0).0 in
        let less = all_implies (λ x. σ (u x) ⊑ σ (v x)) (λ x. ¬ (t x ≡ true) → σ (u x) ⊏ σ (v x)) (λ x i n. below _ _ i (λ q. n ((says-equal (σ x) (σ m)).1 ((tie x).0 q)))) xs h.1 in
        let o : FirstOnly (λ x. σ (u x) ⊏ σ (v x)) xs α = rw append_assoc (first-picked t (λ x. σ (u x) ⊏ σ (v x)) xs _ less) in
        (p.0, (rows_are α).1 (chosen-one xs σ α l c, p.1, e, h.1, (first_rows β σ u v xs 0 α α (from_zero α) k (rw (c.1 one) (omega arith_z)) (both f)).1 o));
    filled = gates-filled σ t β xs;
    determined = λ α f g.
        let r = (rows_are α).0 g.1 in
        let n = length xs in
        let δ : Valuation = λ j. α (n + j) in
        let k = ((gates-keep β xs α δ (λ j. refl)).0 g.0).0 in
        let p = (products-law (λ x. x) xs 0 n σ α α δ (from_zero α) (λ j. refl)).0 r.1 in
        let e = (one_bit-law xs σ α).0 r.0 in
        let w = sym (gated-sum σ xs α δ p) ∙ (chosen-law one xs n m σ α δ (λ j. refl)).0 r.2 in
        let i = (first_rows β σ u v xs 0 α α (from_zero α) k (rw e (omega arith_z)) (both f)).0 r.4 in
        let o = first_implies (λ x. σ (u x) ⊏ σ (v x)) (λ x. ¬ (σ x ≡ σ m)) (λ x l i. differ _ _ l ((tie x).1 i)) xs α i in
        gates-are (λ x. x) t xs σ α r.1 (hot_bits σ (σ m) xs α k e w o);
  }
    where
      t : ℕ → Bool
      t x = σ x ≟ σ m

      both : F → All (λ x. In (β (u x)) (σ (u x)) × In (β (v x)) (σ (v x))) xs
      both f = all_implies (λ x. In (β x) (σ x)) (λ x. In (β (u x)) (σ (u x)) × In (β (v x)) (σ (v x))) (λ x. ends x (kept f).0) xs (kept f).1

      below : (a b : ℤ) → a ⊑ b → ¬ (a ≡ b) → a ⊏ b
      below = simp linear (omega arith)

      differ : (a b : ℤ) → a ⊏ b → ¬ (a ≡ b)
      differ = simp linear (omega arith)

module _ (β : ℕ → Bounds) (σ : Valuation) (m : ℕ) (xs : List ℕ) where
  -- 26: x_j − m ≤ 0
  pub array_int_maximum_correct : Correct β σ (array_int_maximum m xs)
  unfolding meaning maximum rule pick integer_arguments
  array_int_maximum_correct =
      one-of β σ m xs (λ x. x) (λ x. m) (λ x. (λ e. e, λ e. e)) (says_one_of σ (σ m) (λ x. le_z x (σ m)) (λ x. x ⊑ σ m) (λ x. says-le x (σ m)) xs)
      (λ f. (f.kept.0, f.kept.1)) (λ x h i. (i, h))

  -- 33: m − x_j ≤ 0
  pub array_int_minimum_correct : Correct β σ (array_int_minimum m xs)
  unfolding meaning minimum rule pick integer_arguments
  array_int_minimum_correct =
      one-of β σ m xs (λ x. m) (λ x. x) (λ x. (sym, sym)) (says_one_of σ (σ m) (λ x. le_z (σ m) x) (λ x. σ m ⊑ x) (λ x. says-le (σ m) x) xs)
      (λ f. (f.kept.0, f.kept.1)) (λ x h i. (h, i))
