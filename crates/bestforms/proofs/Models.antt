-- Of a model that passes the check, and the row system that translate writes for it: the best solutions of one are those of the other.
use Rattle.std.proofs.Common.{◌≡◌, refl, sym, ap, ◌∙◌, subst, List, ◌++◌, ℕ, ◌+◌, ◌≤◌, ◌<◌, arith, ℤ, pos, length, length-append, get_or-take, length-take-le}
use lib.ListN.{get_or-append}
use Rattle.integers.specs.Number.{+0}
use Rattle.integers.specs.Bounds.{bounds_in}
use Rattle.integers.specs.Terms.{value}
use Rattle.integers.proofs.Linear.{◌⊑◌, ◌⊏◌}
use Rattle.words.specs.Variables.{variables}
use Rattle.rules.specs.Translation.{bounds, system_words, auxiliaries}
use Rattle.sharing.specs.SharedSolutions.{Passes, SatisfiesModel}
use Rattle.sharing.proofs.Theorem.{written_read, same-bounds, shared-solutions}
use Rattle.bitforms.proofs.Theorem.{form-energy, value-bits, all-bits}
use Rattle.bitsharing.proofs.Theorem.{model-solutions}
use Rattle.bitanswers.specs.ReadValues.{read_values}
use Rattle.bitanswers.proofs.ReadValues.{values_length, values-at}
use Rattle.bestforms.specs.declared.Direction.{Direction}
use Rattle.bestforms.specs.BestForm.{distance, factor, best_form}
use Rattle.bestforms.specs.BestSolutions.{Solves, distance_in, LeastBits, BestSolutions}
use Rattle.bestforms.specs.BestShares.{source_values, BestOfModel, BestModels}
use Rattle.bestforms.proofs.Theorem.{has-least, best-solutions}

module _ (model : List ℕ) (passes : Passes model) (v : ℕ) (d : Direction) (named : v < length (variables model)) where
  abbrev system : List ℕ
  system = system_words model

  length-variables : length (variables system) ≡ length (variables model) + length (auxiliaries model)
  unfolding auxiliaries bounds
  length-variables = ap length (same-bounds model passes) ∙ length-append (variables model) _

  in_system : v < length (variables system)
  in_system = let n = length-variables in omega arith

  -- its bounds are the model's
  same-bound : bounds_in (variables system) v ≡ bounds_in (variables model) v
  unfolding bounds_in
  same-bound = ap (λ Bs. bounds_in Bs v) (same-bounds model passes) ∙ get_or-append (variables model) _ _ v named

  same-factor : factor system v ≡ factor model v
  unfolding factor
  same-factor = rw same-bound refl

  -- a solution of the row system begins with one of the model, which is as far
  begun : (vs xs : List ℤ) → length vs ≡ length (variables model) → distance_in system v d (vs ++ xs) ≡ distance_in model v d vs
  unfolding value
  begun vs xs l = rw same-bound (ap (distance d (bounds_in (variables model) v)) (get_or-append vs xs (pos 0) v (omega arith)))

  sources : (bs : List ℤ) → distance_in system v d (read_values system bs) ≡ distance_in model v d (source_values model bs)
  unfolding value
  sources bs = rw same-bound (ap (distance d (bounds_in (variables model) v)) (sym (get_or-take (length (variables model)) (read_values system bs) v +0 named)))

  -- a solution of the model is the beginning of one of the row system
  extended : (vs : List ℤ) → SatisfiesModel model vs → (xs : List ℤ) × Solves system (vs ++ xs)
  extended vs s =
      let x = (shared-solutions model passes vs).0 s in
      let r = x.1.1 in
      (x.0, (record { one_each = r.one_each; in_bounds = r.in_bounds }, r.all_true))

  law : BestSolutions system v d (best_form system v d)
  law = best-solutions system v d (written_read model passes) in_system

  some-best : (bs : List ℤ) → LeastBits system (best_form system v d) bs → best_form system v d bs ⊏ pos (factor model v) → BestOfModel model v d (source_values model bs)
  unfolding value
  some-best bs l m =
      let below = subst (λ k. best_form system v d bs ⊏ pos k) (sym same-factor) m in
      let b = law.some bs l below in
      let a = law.at_bits bs l.are_bits in
      let n = length (variables model) in
      let k : n ≤ length (read_values system bs) = omega (arith, values_length system bs, length-variables) in (
        (model-solutions model passes (source_values model bs) (length-take-le n (read_values system bs) k)).1 (
          bs,
          (
            l.are_bits,
            λ u h. values-at system bs u (omega (arith, length-variables)) ∙ sym (get_or-take n (read_values system bs) u +0 h),
            form-energy system (value bs) (value-bits bs ((all-bits bs).0 l.are_bits.zero_or_one)) ∙ a.below_factor.0 below,
          ),
        ),
        λ us s.
            let x = extended us s in
            subst (λ y. y ⊑ distance_in model v d us) (sources bs)
            (subst (λ y. distance_in system v d (read_values system bs) ⊑ y) (begun us x.0 s.one_each) (b.1 (us ++ x.0) x.1)),
      )

  pub best-models : BestModels model v d (best_form system v d)
  best-models = record {
    best = λ vs bs s l. some-best bs l (subst (λ k. best_form system v d bs ⊏ pos k) same-factor (below vs bs s l));
    none = λ bs l m vs s. law.none bs l (subst (λ k. pos k ⊑ best_form system v d bs) (sym same-factor) m) (vs ++ (extended vs s).0) (extended vs s).1;
    some = some-best;
  }
    where
      below : (vs bs : List ℤ) → SatisfiesModel model vs → LeastBits system (best_form system v d) bs → best_form system v d bs ⊏ pos (factor system v)
      below vs bs s l = has-least system v d (written_read model passes) in_system (vs ++ (extended vs s).0) bs (extended vs s).1 l
