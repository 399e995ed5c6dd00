-- Bounds cut to ±2^27: the end products of bounds that are cut, cut again, are the end products, cut; a number in the range is not cut, and one outside it stays outside.
-- So the bounds of the products of a power, cut at each step, are those of the chain, cut; their parts count as those of the chain and are the same where they fit.
use Rattle.std.proofs.Common.{◌≡◌, refl, sym, ap, ap₂, ◌∙◌, ◌↔◌, true, ◌&&◌, List, [], ◌∷◌, ◌++◌, map, ℕ, ◌≤◌, arith, ℤ}
use mathlib.Core.List.{map-append, flat_map}
use Rattle.integers.specs.Number.{◌⊗◌, neg, min_z, max_z, cut, +1}
use Rattle.integers.specs.Bounds.{◌to◌}
use Rattle.integers.specs.Lists.{all}
use Rattle.integers.specs.declared.Bounds.{Bounds}
use Rattle.integers.proofs.Linear.{◌⊑◌, linear, arith_z}
use Rattle.integers.proofs.Tests.{In, says-within, same_test}
use Rattle.integers.proofs.Cut.{cut_inside, cut_product, cut-min, cut-max, cut-size}
use Rattle.integers.proofs.Booleans.{both_true}
use Rattle.words.specs.Limit as Limit
use Rattle.words.specs.Small.{Near}
use Rattle.words.specs.Word.{in_range}
use Rattle.rules.specs.Parts.{end_products}
use Rattle.rules.specs.Power.{Chain, next, no_product, squared, multiplied, chain}
use Rattle.rules.proofs.Power.{by-halves}
use Rattle.laying.specs.Part.{bound, part_words, part_numbers, part_auxiliaries, part_rows, words_in, numbers_in, auxiliaries_in, rows_in, bound_parts}
use Rattle.laying.proofs.Alike.{Alike}
use Rattle.powerblocks.specs.Cut.{past_range, cut_bounds, Ranges, cut_next, no_range, cut_squared, cut_multiplied, cut_ranges}

from_one : +1 ⊑ past_range
from_one = omega arith_z

pub near-cut : (v : ℤ) → Near (cut past_range v)
near-cut v = cut-size past_range v from_one

-- ---- the range

pub in_range_cut : (v : ℤ) → in_range (cut past_range v) ≡ in_range v
unfolding cut
in_range_cut v = same_test (says-within Limit.range (cut past_range v)) (says-within Limit.range v) (core v)
  where
    core : (v : ℤ) → In Limit.range (cut past_range v) ↔ In Limit.range v
    core = simp linear (omega arith)

pub range_not_cut : (v : ℤ) → in_range v ≡ true → cut past_range v ≡ v
range_not_cut v e = let k = wider v ((says-within Limit.range v).0 e) in cut_inside past_range v k.0 k.1
  where
    wider : (v : ℤ) → In Limit.range v → (neg past_range ⊑ v) × (v ⊑ past_range)
    wider = simp linear (omega arith)

pub near_not_cut : (B : Bounds) → Near B.lower → Near B.upper → B ≡ cut_bounds B
near_not_cut B h k = sym (ap₂ (λ l u. l to u) (one B.lower h) (one B.upper k))
  where
    inside : (v : ℤ) → Near v → (neg past_range ⊑ v) × (v ⊑ past_range)
    inside = simp linear (omega arith)

    one : (v : ℤ) → Near v → cut past_range v ≡ v
    one v h = let k = inside v h in cut_inside past_range v k.0 k.1

-- ---- end products

four : (f : ℤ → ℤ → ℤ) → ((a b : ℤ) → cut past_range (f a b) ≡ f (cut past_range a) (cut past_range b)) → (a b c d : ℤ) →
    cut past_range (f (f (cut past_range a ⊗ cut past_range c) (cut past_range a ⊗ cut past_range d)) (f (cut past_range b ⊗ cut past_range c) (cut past_range b ⊗ cut past_range d)))
    ≡ cut past_range (f (f (a ⊗ c) (a ⊗ d)) (f (b ⊗ c) (b ⊗ d)))
four f k a b c d =
    spread _ _ _ _ ∙ ap₂ f (ap₂ f (product a c) (product a d)) (ap₂ f (product b c) (product b d)) ∙ sym (spread _ _ _ _)
  where
    product : (a b : ℤ) → cut past_range (cut past_range a ⊗ cut past_range b) ≡ cut past_range (a ⊗ b)
    product = cut_product past_range from_one

    spread : (p q r s : ℤ) → cut past_range (f (f p q) (f r s)) ≡ f (f (cut past_range p) (cut past_range q)) (f (cut past_range r) (cut past_range s))
    spread p q r s = k (f p q) (f r s) ∙ ap₂ f (k p q) (k r s)

pub cut-end_products : (A B : Bounds) → cut_bounds (end_products (cut_bounds A) (cut_bounds B)) ≡ cut_bounds (end_products A B)
unfolding end_products
cut-end_products A B =
    ap₂ (λ l u. l to u)
    (four min_z (cut-min past_range from_one) A.lower A.upper B.lower B.upper)
    (four max_z (cut-max past_range from_one) A.lower A.upper B.lower B.upper)

-- ---- the chain, its bounds cut

record Cut (c : Chain) (d : Ranges) : Type 0 where
  auxiliaries : d.auxiliaries ≡ map cut_bounds c.auxiliaries
  range : d.range ≡ cut_bounds c.range

cut-next : (c : Chain) (d : Ranges) (A A' : Bounds) → Cut c d → A' ≡ cut_bounds A → (E : Bounds) → E ≡ end_products A c.range →
    (d.auxiliaries ++ (cut_bounds (end_products A' d.range) ∷ []) ≡ map cut_bounds (c.auxiliaries ++ (E ∷ []))) × (cut_bounds (end_products A' d.range) ≡ cut_bounds E)
cut-next c d A A' h e E q =
    let r : cut_bounds (end_products A' d.range) ≡ cut_bounds E = ap₂ (λ F G. cut_bounds (end_products F G)) e h.range ∙ cut-end_products A c.range ∙ ap cut_bounds (sym q) in
    (ap₂ (λ xs F. xs ++ (F ∷ [])) h.auxiliaries r ∙ sym (map-append cut_bounds c.auxiliaries (E ∷ [])), r)

pub cut_ranges-auxiliaries : (B : Bounds) (x : ℕ) → B ≡ cut_bounds B → (k : ℕ) → 1 ≤ k → (cut_ranges B k).auxiliaries ≡ map cut_bounds (chain B x k).auxiliaries
unfolding chain cut_ranges no_product no_range squared cut_squared multiplied cut_multiplied next cut_next
cut_ranges-auxiliaries B x small k l =
    (by-halves (λ n c d. Cut c d) (record { auxiliaries = refl; range = small })
    (λ n c d h. let p = cut-next c d c.range d.range h h.range (end_products c.range c.range) refl in record { auxiliaries = p.0; range = p.1 })
    (λ n c d h. let p = cut-next c d B B h small (end_products B c.range) refl in record { auxiliaries = p.0; range = p.1 }) k l).auxiliaries

-- ---- their parts

pub alike-bounds : (Bs : List Bounds) → Alike (bound_parts Bs) (bound_parts (map cut_bounds Bs))
unfolding bound_parts words_in numbers_in auxiliaries_in rows_in part_words part_numbers part_auxiliaries part_rows flat_map all
alike-bounds [] = record { words = refl; auxiliaries = refl; rows = refl; fits = refl; same = λ e. refl }
alike-bounds (B ∷ Bs) =
    let h = alike-bounds Bs in
    record {
      words = omega (arith, h.words);
      auxiliaries = omega (arith, h.auxiliaries);
      rows = omega (arith, h.rows);
      fits = ap₂ ◌&&◌ (in_range_cut B.lower) (ap₂ ◌&&◌ (in_range_cut B.upper) h.fits);
      same = λ e.
          let k = both_true (in_range B.lower) _ e in
          let m = both_true (in_range B.upper) _ k.1 in
          ap₂ (λ p ps. p ∷ ps) (ap₂ bound (range_not_cut B.lower k.0) (range_not_cut B.upper m.0)) (h.same m.1);
    }
