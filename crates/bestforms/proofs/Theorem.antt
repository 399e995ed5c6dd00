-- The form at bits: M × the energy and the distance; where it is least, the values are a best solution.
use Rattle.std.proofs.Common.{◌≡◌, refl, mul-suc, sym, ap, ◌∙◌, subst, List, map, ℕ, zero, suc, ◌+◌, ◌*◌, ◌<◌, arith, ℤ, pos, negsuc, length}
use Rattle.integers.specs.Number.{◌⊕◌, ◌⊖◌, ◌⊗◌, neg, count, +0, +1}
use Rattle.integers.specs.Bounds.{bounds_in}
use Rattle.integers.specs.Terms.{Valuation, value, sum}
use Rattle.integers.specs.declared.Bounds.{Bounds}
use Rattle.integers.proofs.Linear.{◌⊑◌, ◌⊏◌, linear, arith_z}
use Rattle.integers.proofs.Tests.{In, says-within}
use Rattle.words.specs.Variables.{variables}
use Rattle.words.specs.Refusal.{accepted}
use Rattle.rowsystems.specs.RowSystem.{rows}
use Rattle.rowsystems.specs.Reading.{read_rows}
use Rattle.rowsystems.proofs.Ordered.{accepted-ordered}
use Rattle.bitforms.specs.OverBits.{OverBits, evaluate}
use Rattle.bitforms.specs.Encoding.{encodings, bits_after}
use Rattle.bitforms.specs.BitRow.{bit_rows, bits_with}
use Rattle.bitforms.specs.Energy.{energy}
use Rattle.bitforms.specs.BitForm.{encoding, bit_rows_of, bit_count, form_constant}
use Rattle.bitforms.specs.ValueBits.{value_bits}
use Rattle.bitforms.specs.ReadForm.{form_at}
use Rattle.bitforms.specs.SameSolutions.{AreBits, InBounds, ReadAs}
use Rattle.bitforms.proofs.Bits.{Bits}
use Rattle.bitforms.proofs.Sums.{sum-scaled}
use Rattle.bitforms.proofs.Sound.{energy-positive}
use Rattle.bitforms.proofs.Matrix.{taken-worth}
use Rattle.bitforms.proofs.Numbers.{Below, encoding_in, encodings-below, below_more, with-grows, rows-below, scaled-below}
use Rattle.bitforms.proofs.InBounds.{bits_inside}
use Rattle.bitforms.proofs.Theorem.{value-bits, all-bits, form-energy, zero-sound, witness}
use Rattle.bitanswers.specs.ReadValues.{read_values}
use Rattle.bitanswers.proofs.ReadValues.{values_length, values-at}
use Rattle.bitforms.specs.Taken.{taken_entry}
use Rattle.bestforms.specs.declared.Direction.{Direction}
use Rattle.bestforms.specs.declared.Direction.TheVariants.{Least, Greatest}
use Rattle.bestforms.specs.BestForm.{distance, distance_over, factor_of, factor, objective, best_constant, best_entries, best_form}
use Rattle.bestforms.specs.BestSolutions.{Solves, distance_in, Best, LeastBits, AtBits, BestSolutions}
use Rattle.bestforms.proofs.Least.{least-bits}

-- ---- the distance

-- over bits it is worth what it is of the value
distance-value : (γ : Valuation) (d : Direction) (B : Bounds) (s : OverBits) → evaluate γ (distance_over d B s) ≡ distance d B (evaluate γ s)
unfolding distance distance_over evaluate
distance-value γ Least B s = least s.constant B.lower (sum γ s.terms)
  where
    least : (c l t : ℤ) → c ⊖ l ⊕ t ≡ c ⊕ t ⊖ l
    least = simp linear (omega arith)
distance-value γ Greatest B s = ap (λ t. B.upper ⊖ s.constant ⊕ t) (sum-scaled γ (neg +1) s.terms) ∙ greatest B.upper s.constant (sum γ s.terms)
  where
    greatest : (u c t : ℤ) → u ⊖ c ⊕ neg +1 ⊗ t ≡ u ⊖ (c ⊕ t)
    greatest = simp linear (omega arith)

-- of a value inside its bounds it lies from 0 to M−1
distance-inside : (d : Direction) (B : Bounds) (x : ℤ) → In B x → (+0 ⊑ distance d B x) × (distance d B x ⊏ pos (factor_of B))
unfolding distance factor_of
distance-inside Least B x h = least B.lower B.upper x h.0 h.1
  where
    least : (l u x : ℤ) → l ⊑ x → x ⊑ u → (pos 0 ⊑ x ⊖ l) × (x ⊖ l ⊏ pos (count (u ⊖ l) + 1))
    least = simp linear (omega arith)
distance-inside Greatest B x h = greatest B.lower B.upper x h.0 h.1
  where
    greatest : (l u x : ℤ) → l ⊑ x → x ⊑ u → (pos 0 ⊑ u ⊖ x) × (u ⊖ x ⊏ pos (count (u ⊖ l) + 1))
    greatest = simp linear (omega arith)

objective-below : (d : Direction) (B : Bounds) (s : OverBits) (n : ℕ) → Below n s.terms → Below n (distance_over d B s).terms
unfolding distance_over
objective-below Least B s n h = h
objective-below Greatest B s n h = scaled-below n (neg +1) s.terms h

-- ---- M times a number that is not negative, and a distance below M

sum-positive : (m : ℕ) (e r : ℤ) → +0 ⊑ e → +0 ⊑ r → +0 ⊑ pos m ⊗ e ⊕ r
unfolding ◌⊕◌ ◌⊗◌
sum-positive m (pos e) (pos r) h k = omega arith_z
sum-positive m (negsuc e) r h k = absurd h.le
sum-positive m (pos e) (negsuc r) h k = absurd k.le

-- below M only where the number is 0
zero-where : (m : ℕ) (e r : ℤ) → +0 ⊑ e → +0 ⊑ r → pos m ⊗ e ⊕ r ⊏ pos m → e ≡ +0
unfolding ◌⊕◌ ◌⊗◌
zero-where m (pos e) (pos r) h k l = ap pos (small m e r (omega (arith_z, l)))
  where
    small : (m e r : ℕ) → m * e + r < m → e ≡ 0
    small m zero r l = refl
    small m (suc e) r l = absurd (omega (arith, mul-suc m e))
zero-where m (negsuc e) r h k l = absurd h.le
zero-where m (pos e) (negsuc r) h k l = absurd k.le

no-energy : (m e r : ℤ) → e ≡ +0 → m ⊗ e ⊕ r ≡ r
no-energy m e r z = rw z (left m r)
  where
    left : (m r : ℤ) → m ⊗ pos 0 ⊕ r ≡ r
    left = simp linear (omega arith)

-- ---- the form

module _ (ws : List ℕ) (v : ℕ) (d : Direction) where
  -- at any bits it is M × the energy and the variable's distance from its best bound
  pub taken-energy : (β : Valuation) → Bits β →
      form_at β (best_constant ws v d) (best_entries ws v d) ≡ pos (factor ws v) ⊗ energy β (bit_rows_of ws) ⊕ distance d (bounds_in (variables ws) v) (evaluate β (encoding ws v))
  unfolding best_constant best_entries objective taken_entry form_constant bit_count bit_rows_of encoding
  taken-energy β b =
      let Bs = variables ws in
      let first = bits_after 0 Bs in
      let E = encoding_in (encodings 0 Bs) in
      let rs = bit_rows (bounds_in Bs) E first (rows ws) in
      let n = bits_with first rs in
      let below : (u : ℕ) → Below n (E u).terms = λ u. below_more first n (with-grows first rs) (E u).terms (encodings-below 0 Bs u) in
      taken-worth β b n (bit_rows_of ws) (rows-below (bounds_in Bs) E n below first (rows ws) (omega arith))
      (pos (factor ws v)) (distance_over d (bounds_in Bs v) (E v)) (objective-below d (bounds_in Bs v) (E v) n (below v))
      ∙ ap (λ t. pos (factor ws v) ⊗ energy β (bit_rows_of ws) ⊕ t) (distance-value β d (bounds_in Bs v) (E v))

  module _ (read : read_rows ws ≡ accepted) (named : v < length (variables ws)) where
    -- the values that bits read as keep every bound
    inside : (bs : List ℤ) → AreBits ws bs → InBounds ws (read_values ws bs)
    unfolding encoding
    inside bs h = record {
      one_each = values_length ws bs;
      in_bounds = λ u l.
          (says-within (bounds_in (variables ws) u) (value (read_values ws bs) u)).1
          (rw (values-at ws bs u l) at (bits_inside (value-bits bs ((all-bits bs).0 h.zero_or_one)) 0 (variables ws) (accepted-ordered ws read) u l));
    }

    within-factor : (vs : List ℤ) → InBounds ws vs → (+0 ⊑ distance_in ws v d vs) × (distance_in ws v d vs ⊏ pos (factor ws v))
    unfolding factor
    within-factor vs i = distance-inside d (bounds_in (variables ws) v) (value vs v) ((says-within (bounds_in (variables ws) v) (value vs v)).0 (i.in_bounds v named))

    form-there : (bs : List ℤ) → AreBits ws bs → best_form ws v d bs ≡ pos (factor ws v) ⊗ energy (value bs) (bit_rows_of ws) ⊕ distance_in ws v d (read_values ws bs)
    form-there bs h =
        taken-energy (value bs) (value-bits bs ((all-bits bs).0 h.zero_or_one))
        ∙ ap (λ x. pos (factor ws v) ⊗ energy (value bs) (bit_rows_of ws) ⊕ distance d (bounds_in (variables ws) v) x) (values-at ws bs v named)

    -- where the energy is 0
    solving : (bs : List ℤ) → AreBits ws bs → energy (value bs) (bit_rows_of ws) ≡ +0 →
        Solves ws (read_values ws bs) × (best_form ws v d bs ≡ distance_in ws v d (read_values ws bs))
    solving bs h z =
        let i = inside bs h in (
          (i, zero-sound ws (read_values ws bs) bs i h (values-at ws bs) (form-energy ws (value bs) (value-bits bs ((all-bits bs).0 h.zero_or_one)) ∙ z)),
          form-there bs h ∙ no-energy (pos (factor ws v)) _ _ z,
        )

    pub at-bits : (bs : List ℤ) → AreBits ws bs → AtBits ws v d (best_form ws v d) bs
    at-bits bs h =
        let f = form-there bs h in
        let r = within-factor (read_values ws bs) (inside bs h) in
        let e = energy-positive (value-bits bs ((all-bits bs).0 h.zero_or_one)) (bit_rows_of ws) in
        let z : best_form ws v d bs ⊏ pos (factor ws v) → energy (value bs) (bit_rows_of ws) ≡ +0 =
        λ l. zero-where (factor ws v) _ _ e r.0 (subst (λ x. x ⊏ pos (factor ws v)) f l) in
        record {
          value_there = f;
          distance_least = r.0;
          distance_most = r.1;
          never_below = subst (λ x. +0 ⊑ x) (sym f) (sum-positive (factor ws v) _ _ e r.0);
          below_factor = (z, λ q. subst (λ x. x ⊏ pos (factor ws v)) (sym (solving bs h q).1) r.1);
          solves = λ l. solving bs h (z l);
        }

    -- the bits of a solution
    pub reached : (vs : List ℤ) → Solves ws vs → (bs : List ℤ) × (AreBits ws bs × ReadAs ws (length (variables ws)) bs vs × (best_form ws v d bs ≡ distance_in ws v d vs))
    reached vs s =
        let bs = map pos (value_bits ws vs) in
        let w = witness ws vs s.0 s.1 in
        let z : energy (value bs) (bit_rows_of ws) ≡ +0 = sym (form-energy ws (value bs) (value-bits bs ((all-bits bs).0 w.0.zero_or_one))) ∙ w.2 in (
          bs,
          (
            w.0,
            w.1,
            (solving bs w.0 z).1 ∙ ap (distance d (bounds_in (variables ws) v)) (sym (values-at ws bs v named) ∙ w.1 v named),
          ),
        )

    -- no solution is nearer than the least of the form
    nearest : (bs vs : List ℤ) → LeastBits ws (best_form ws v d) bs → Solves ws vs → best_form ws v d bs ⊑ distance_in ws v d vs
    nearest bs vs l s = let r = reached vs s in subst (λ x. best_form ws v d bs ⊑ x) r.1.2 (l.least r.0 r.1.0)

    some-best : (bs : List ℤ) → LeastBits ws (best_form ws v d) bs → best_form ws v d bs ⊏ pos (factor ws v) → Best ws v d (read_values ws bs)
    some-best bs l m =
        let s = (at-bits bs l.are_bits).solves m in
        (s.0, λ us t. subst (λ x. x ⊑ distance_in ws v d us) s.1 (nearest bs us l t))

    pub has-least : (vs bs : List ℤ) → Solves ws vs → LeastBits ws (best_form ws v d) bs → best_form ws v d bs ⊏ pos (factor ws v)
    has-least vs bs s l = le-lt _ _ _ (nearest bs vs l s) (within-factor vs s.0).1
      where
        le-lt : (a b c : ℤ) → a ⊑ b → b ⊏ c → a ⊏ c
        le-lt = simp linear (omega arith)

    pub best-solutions : BestSolutions ws v d (best_form ws v d)
    best-solutions = record {
      at_bits = at-bits;
      reached = reached;
      some_least = least-bits ws (best_form ws v d);
      best = λ vs bs s l. some-best bs l (has-least vs bs s l);
      none = λ bs l m vs s. not_both _ _ _ m (nearest bs vs l s) (within-factor vs s.0).1;
      some = some-best;
    }
      where
        not_both : (m a b : ℤ) → m ⊑ a → a ⊑ b → b ⊏ m → ⊥
        not_both m a b h k l = omega arith_z
