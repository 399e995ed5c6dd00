-- One step of writing the bounds and the products of a chain, and a whole power by its half.
use Rattle.std.proofs.Common.{◌≡◌, refl, sym, ap, ap₂, ◌∙◌, subst, [], ◌∷◌, ◌++◌, ℕ, ◌+◌, ◌*◌, ◌/◌, ◌%◌, ◌≤◌, ◌<◌, arith, length, length-append}
use mathlib.Core.List.{flat_map}
use Rattle.integers.specs.declared.Bounds.{Bounds}
use Rattle.integers.proofs.Lists.{flat_map_append}
use Rattle.rowsystems.specs.Row.{product}
use Rattle.rules.specs.Block.{Ref, source, aux, numbered}
use Rattle.rules.specs.Parts.{end_products}
use Rattle.rules.specs.Power.{Chain, next, no_product, squared, multiplied, chain}
use Rattle.rules.proofs.Power.{at_one, at_even, at-odd}
use Rattle.laying.specs.Part.{bound, times, bound_parts, row_parts}
use Rattle.laying.specs.declared.Writer.{Writer}
use Rattle.laying.proofs.Written.{wrote-nothing, wrote-then, wrote-as}
use Rattle.laying.proofs.Lists.{bounds-append}
use Rattle.powerblocks.specs.Cut.{cut_bounds, Ranges, cut_next, no_range, cut_squared, cut_multiplied, cut_ranges}
use Rattle.powerblocks.specs.Chained.{NextRange, RangesWritten, NextProduct, ProductsWritten}
use Rattle.powerblocks.specs.declared.Multiplied.{Multiplied}

-- ---- bounds

next_ranges : {s t u : Writer} {P R A : Bounds} {c : Ranges} (B : Bounds) → RangesWritten s t P c → A ≡ B → NextRange t u P R A →
    RangesWritten s u R (cut_next c B)
unfolding cut_next bound_parts
next_ranges {P = P} {R = R} {c = c} B h e n =
    let E = cut_bounds (end_products B c.range) in
    let q : R ≡ E = n.range ∙ ap₂ (λ F G. cut_bounds (end_products F G)) e h.range in
    record {
      wrote = wrote-as (ap (λ (F : Bounds). bound_parts c.auxiliaries ++ (bound F.lower F.upper ∷ [])) q ∙ sym (bounds-append c.auxiliaries (E ∷ []))) (wrote-then h.wrote n.wrote);
      range = q;
    }

pub ranges_one : (s : Writer) (B : Bounds) (k : ℕ) → k < 2 → RangesWritten s s B (cut_ranges B k)
unfolding cut_ranges no_range bound_parts
ranges_one s B k i =
    subst (λ c. RangesWritten s s B c) (sym (at_one (no_range B) (cut_squared B) (cut_multiplied B) k (omega arith)))
    (record { wrote = wrote-nothing; range = refl })

module _ {s t u : Writer} (B : Bounds) (k : ℕ) (two : 2 ≤ k) {P Q : Bounds} (h : RangesWritten s t P (cut_ranges B (k / 2)))
    (n : NextRange t u P Q P) where
  square : RangesWritten s u Q (cut_squared B (cut_ranges B (k / 2)))
  unfolding cut_squared
  square = next_ranges (cut_ranges B (k / 2)).range h h.range n

  pub ranges_even : k % 2 ≡ 0 → RangesWritten s u Q (cut_ranges B k)
  unfolding cut_ranges
  ranges_even e =
      subst (λ c. RangesWritten s u Q c) (sym (at_even (no_range B) (cut_squared B) (cut_multiplied B) k two e))
      (record { wrote = square.wrote; range = square.range })

  pub ranges_odd : ¬ (k % 2 ≡ 0) → {v : Writer} {R : Bounds} → NextRange u v Q R B → RangesWritten s v R (cut_ranges B k)
  unfolding cut_ranges cut_multiplied
  ranges_odd e {v} {R} m =
      let t = next_ranges B square refl m in
      subst (λ c. RangesWritten s v R c) (sym (at-odd (no_range B) (cut_squared B) (cut_multiplied B) k two e))
      (record { wrote = t.wrote; range = t.range })

-- ---- products

one_more : (first : ℕ) (c : Chain) (f : Ref) (a b d : ℕ) → a ≡ first + length c.auxiliaries → b ≡ numbered first f → d ≡ numbered first c.result →
    flat_map (row_parts first) c.products ++ (times a b d ∷ []) ≡ flat_map (row_parts first) (c.products ++ (product (aux (length c.auxiliaries)) f c.result ∷ []))
unfolding flat_map row_parts numbered
one_more first c f a b d i j k =
    rw (i, j, k) (ap (λ l. flat_map (row_parts first) c.products ++ l) (one-part first (length c.auxiliaries) f c.result))
    ∙ sym (flat_map_append (row_parts first) c.products (product (aux (length c.auxiliaries)) f c.result ∷ []))
  where
    one-part : (first n : ℕ) (f g : Ref) → times (first + n) (numbered first f) (numbered first g) ∷ [] ≡ flat_map (row_parts first) (product (aux n) f g ∷ [])
    one-part first n f g = refl

next-products : {first : ℕ} {s t u : Writer} {p r : Multiplied} {c : Chain} {m factor : ℕ} (f : Ref) (F : Bounds) → ProductsWritten first s t p c m →
    factor ≡ numbered first f → NextProduct t u p r factor → ProductsWritten first s u r (next c f F) (m + 10)
unfolding next numbered
next-products {first} {p = p} {c = c} {factor = factor} f F h e n =
    record {
      wrote = wrote-as (one_more first c f p.next factor p.held h.next e h.held) (wrote-then h.wrote n.wrote);
      held = n.held ∙ h.next;
      next = omega (arith, n.next, h.next, length-append c.auxiliaries (end_products F c.range ∷ []));
      few = omega (arith, h.few, n.next);
    }

pub products-one : (first : ℕ) (s : Writer) (x k : ℕ) → k < 2 → (B : Bounds) →
    ProductsWritten first s s (record { held = x; next = first }) (chain B x k) (20 * k)
unfolding chain no_product flat_map numbered
products-one first s x k i B =
    subst (λ c. ProductsWritten first s s (record { held = x; next = first }) c (20 * k)) (sym (at_one (no_product B x) (squared B x) (multiplied B x) k (omega arith)))
    (record { wrote = wrote-nothing; held = refl; next = omega arith; few = omega arith })

module _ {first : ℕ} {s t u : Writer} (x k : ℕ) (two : 2 ≤ k) {p q : Multiplied} (B : Bounds) (h : ProductsWritten first s t p (chain B x (k / 2)) (20 * (k / 2)))
    (n : NextProduct t u p q p.held) where
  squared-products : ProductsWritten first s u q (squared B x (chain B x (k / 2))) (20 * (k / 2) + 10)
  unfolding squared
  squared-products = next-products (chain B x (k / 2)).result (chain B x (k / 2)).range h h.held n

  pub products_even : k % 2 ≡ 0 → ProductsWritten first s u q (chain B x k) (20 * k)
  unfolding chain
  products_even e =
      let t = squared-products in
      subst (λ c. ProductsWritten first s u q c (20 * k)) (sym (at_even (no_product B x) (squared B x) (multiplied B x) k two e))
      (record { wrote = t.wrote; held = t.held; next = t.next; few = omega (arith, t.few) })

  pub products-odd : ¬ (k % 2 ≡ 0) → {v : Writer} {r : Multiplied} → NextProduct u v q r x → ProductsWritten first s v r (chain B x k) (20 * k)
  unfolding chain multiplied numbered
  products-odd e {v} {r} m =
      let t = next-products (source x) B squared-products refl m in
      subst (λ c. ProductsWritten first s v r c (20 * k)) (sym (at-odd (no_product B x) (squared B x) (multiplied B x) k two e))
      (record { wrote = t.wrote; held = t.held; next = t.next; few = omega (arith, t.few) })
