-- Code 39: the chain of products holds the power, by one induction for every exponent; its block is sound and complete, filled, determined and well
-- formed.
use Rattle.std.proofs.Common.{◌≡◌, refl, sym, ap, ap₂, ◌∙◌, subst, ◌↔◌, List, [], ◌∷◌, ◌++◌, append_assoc, ℕ, zero, suc, ◌+◌, ◌*◌, ◌≤◌, ◌<◌, arith, ℤ, length, length-append}
use Rattle.integers.specs.Number.{◌⊕◌, ◌⊗◌, +0, +1, -1}
use Rattle.integers.specs.Terms.{Valuation, value}
use Rattle.integers.specs.declared.Bounds.{Bounds}
use Rattle.integers.proofs.Linear.{linear}
use Rattle.integers.proofs.Lists.{all_append}
use Rattle.integers.proofs.Tests.{In, All, says-equal}
use Rattle.rowsystems.specs.Row.{product}
use Rattle.rowsystems.proofs.Ordered.{Ordered}
use Rattle.models.specs.Builtin.{int_pow}
use Rattle.models.specs.Meaning.{power, meaning}
use Rattle.models.proofs.Arguments.{integer_arguments}
use Rattle.models.proofs.Power.{power-one, power-add}
use Rattle.rules.specs.Block.{Ref, source, aux}
use Rattle.rules.specs.Parts.{end_products, ◌─◌=0}
use Rattle.rules.specs.Power.{Chain, next, no_product, squared, multiplied, chain, Values, next_value, no_value, squared_value, multiplied_value, power_values}
use Rattle.rules.specs.Rule.{rule, powered}
use Rattle.rules.specs.Pick.{pick, power_pick}
use Rattle.rules.proofs.Power.{by-halves, kept_by_halves}
use Rattle.sharing.proofs.Good.{Keeps, Are, Sat, see}
use Rattle.sharing.proofs.Fits.{Fits}
use Rattle.sharing.proofs.Basics.{Correct, equal-row}
use Rattle.sharing.proofs.OneHot.{From, from-head}
use Rattle.sharing.proofs.Gates.{keeps-append, are-append, from-append}
use Rattle.sharing.proofs.Arithmetic.{product-kept}
use Rattle.sharing.proofs.Formed.{RefIn, RowIn, Formed, end_products-ordered}
use Rattle.sharing.proofs.Sizes.{total, row_size, total-append}

-- ---- a chain and its values

first_of : (y : ℤ) (rest : List ℤ) → value (y ∷ rest) 0 ≡ y
unfolding value
first_of y rest = refl

module _ (σ : Valuation) where
  -- the power keeps its bounds; the picks, followed by anything, satisfy the chain; and where the chain is satisfied its result is the power, and its
  -- auxiliaries are the picks
  record Works (c : Chain) (v : Values) : Type 0 where
    kept : In c.range v.held
    filled : length v.picked ≡ length c.auxiliaries
    complete : (rest : List ℤ) → let α = value (v.picked ++ rest) in Keeps c.auxiliaries α × All (Sat (see σ α)) c.products
    sound : (α : Valuation) → All (Sat (see σ α)) c.products → see σ α c.result ≡ v.held
    determined : (α : Valuation) → All (Sat (see σ α)) c.products → Are v.picked α

  -- one product more
  next_works : (c : Chain) (v : Values) (f : Ref) (F : Bounds) (w : ℤ) → Works c v → In F w →
      ((α : Valuation) → All (Sat (see σ α)) c.products → see σ α f ≡ w) → Works (next c f F) (next_value v w)
  unfolding next next_value
  next_works c v f F w h i factor =
      let n = length c.auxiliaries in
      let y = w ⊗ v.held in
      let B = end_products F c.range in
      let p = product (aux n) f c.result in
      let k = product-kept F c.range w v.held i h.kept in
      record {
        kept = k;
        filled = length-append v.picked (y ∷ []) ∙ ap (λ m. m + 1) h.filled ∙ sym (length-append c.auxiliaries (B ∷ []));
        complete = λ rest.
            let α = value (v.picked ++ (y ∷ rest)) in
            let o = h.complete (y ∷ rest) in
            let at : From n α (value (y ∷ rest)) = from-append v.picked (y ∷ rest) n h.filled in
            let last : α n ≡ y = from-head n α (value (y ∷ rest)) at ∙ first_of y rest in
            subst (λ zs. let α = value zs in Keeps (c.auxiliaries ++ (B ∷ [])) α × All (Sat (see σ α)) (c.products ++ (p ∷ []))) (sym (append_assoc v.picked (y ∷ []) rest)) (
              (keeps-append c.auxiliaries (B ∷ []) α (value (y ∷ rest)) at).1 (o.0, (subst (In B) (sym (first_of y rest)) k, tt)),
              (all_append (Sat (see σ α)) c.products (p ∷ [])).1 (o.1, (last ∙ sym (ap₂ ◌⊗◌ (factor α o.1) (h.sound α o.1)), tt)),
            );
        sound = λ α g.
            let s = (all_append (Sat (see σ α)) c.products (p ∷ [])).0 g in
            s.1.0 ∙ ap₂ ◌⊗◌ (factor α s.0) (h.sound α s.0);
        determined = λ α g.
            let s = (all_append (Sat (see σ α)) c.products (p ∷ [])).0 g in
            let δ : Valuation = λ j. α (n + j) in
            (are-append v.picked (y ∷ []) α δ (λ j. ap (λ m. α (m + j)) h.filled)).1
            (h.determined α s.0, (sym (from-head n α δ (λ j. refl)) ∙ s.1.0 ∙ ap₂ ◌⊗◌ (factor α s.0) (h.sound α s.0), tt));
      }

  module _ (B : Bounds) (x : ℕ) (i : In B (σ x)) where
    -- the chain works, and its value is the power k
    abbrev Holds : ℕ → Chain → Values → Type 0
    Holds k c v = Works c v × (v.held ≡ power (σ x) k)

    one : Holds 1 (no_product B x) (no_value (σ x))
    unfolding no_product no_value
    one = (record { kept = i; filled = refl; complete = λ rest. (tt, tt); sound = λ α g. refl; determined = λ α g. tt }, sym (power-one (σ x)))

    twice : (k : ℕ) (c : Chain) (v : Values) → Holds k c v → Holds (k + k) (squared B x c) (squared_value (σ x) v)
    unfolding squared squared_value next_value
    twice k c v h =
        let w = h.0 in
        (next_works c v c.result c.range v.held w w.kept w.sound, ap (λ p. p ⊗ p) h.1 ∙ sym (power-add (σ x) k k))

    more : (k : ℕ) (c : Chain) (v : Values) → Holds k c v → Holds (suc k) (multiplied B x c) (multiplied_value (σ x) v)
    unfolding multiplied multiplied_value next_value power
    more k c v h = (next_works c v (source x) B (σ x) h.0 i (λ α g. refl), ap (λ p. σ x ⊗ p) h.1)

    chain-holds : (k : ℕ) → 1 ≤ k → Holds k (chain B x k) (power_values (σ x) k)
    unfolding chain power_values
    chain-holds k l = by-halves Holds one twice more k l

-- ---- the number of its values, its words, its form

values_length : (B : Bounds) (x : ℕ) (v : ℤ) (k : ℕ) → 1 ≤ k → length (power_values v k).picked ≡ length (chain B x k).auxiliaries
unfolding chain power_values no_product no_value squared squared_value multiplied multiplied_value next next_value
values_length B x v k l = by-halves (λ k (c : Chain) (v : Values). length v.picked ≡ length c.auxiliaries) refl (λ k c v. longer c v _ _) (λ k c v. longer c v _ _) k l
  where
    longer : (c : Chain) (v : Values) (C : Bounds) (y : ℤ) → length v.picked ≡ length c.auxiliaries → length (v.picked ++ (y ∷ [])) ≡ length (c.auxiliaries ++ (C ∷ []))
    longer c v C y e = length-append v.picked (y ∷ []) ∙ ap (λ m. m + 1) e ∙ sym (length-append c.auxiliaries (C ∷ []))

chain-size : (B : Bounds) (x k : ℕ) → 1 ≤ k → total row_size (chain B x k).products ≡ 4 * length (chain B x k).auxiliaries
unfolding chain no_product squared multiplied next
chain-size B x k l =
    kept_by_halves (λ (c : Chain). total row_size c.products ≡ 4 * length c.auxiliaries) (omega arith)
    (λ c h. simp (total-append, length-append) (omega arith)) (λ c h. simp (total-append, length-append) (omega arith)) k l

pub powered-size : (β : ℕ → Bounds) (x k z : ℕ) →
    2 * length (powered β x k z).auxiliaries + total row_size (powered β x k z).rows ≤ 6 * length (powered β x k z).auxiliaries + 6
unfolding powered ◌─◌=0
powered-size β x zero z = omega arith
powered-size β x (suc k) z = simp total-append (omega (arith, chain-size (β x) x (suc k) (omega arith)))

-- fewer products than the exponent says
chain-few : (B : Bounds) (x k : ℕ) → 1 ≤ k → length (chain B x k).auxiliaries + 1 ≤ k
unfolding chain no_product squared multiplied next
chain-few B x k l =
    by-halves (λ k (c : Chain) (d : Chain). length c.auxiliaries + 1 ≤ k) {s' = no_product B x} {f' = squared B x} {g' = multiplied B x} (omega arith)
    (λ k c d h. simp length-append (omega arith)) (λ k c d h. simp length-append (omega arith)) k l

pub powered-few : (β : ℕ → Bounds) (x k z : ℕ) → length (powered β x k z).auxiliaries ≤ k
unfolding powered
powered-few β x zero z = omega arith
powered-few β x (suc k) z = omega (arith, chain-few (β x) x (suc k) (omega arith))

module _ (n : ℕ) where
  -- for any number of auxiliaries that has room for those of the chain
  record ChainIn (c : Chain) : Type 0 where
    ordered : All Ordered c.auxiliaries
    rows : (m : ℕ) → length c.auxiliaries ≤ m → All (RowIn n m) c.products
    result : (m : ℕ) → length c.auxiliaries ≤ m → RefIn n m c.result

  next_in : (c : Chain) (f : Ref) (F : Bounds) → ChainIn c → RefIn n (length c.auxiliaries) f → ChainIn (next c f F)
  unfolding next
  next_in c f F h r =
      let B = end_products F c.range in
      let a = length c.auxiliaries in
      let longer : length (c.auxiliaries ++ (B ∷ [])) ≡ a + 1 = length-append c.auxiliaries (B ∷ []) in
      record {
        ordered = (all_append Ordered c.auxiliaries (B ∷ [])).1 (h.ordered, (end_products-ordered F c.range, tt));
        rows = λ m l. (all_append (RowIn n m) c.products (product (aux a) f c.result ∷ [])).1
            (h.rows m (omega (arith, longer)), ((omega (arith, longer), r, h.result a (omega arith)), tt));
        result = λ m l. omega (arith, longer);
      }

  chain_in : (B : Bounds) (x k : ℕ) → 1 ≤ k → x < n → ChainIn (chain B x k)
  unfolding chain no_product squared multiplied
  chain_in B x k l i =
      kept_by_halves ChainIn (record { ordered = tt; rows = λ m j. tt; result = λ m j. i })
      (λ c h. next_in c c.result c.range h (h.result (length c.auxiliaries) (omega arith)))
      (λ c h. next_in c (source x) B h i) k l

  pub powered-formed : (β : ℕ → Bounds) (x k z : ℕ) → x < n → z < n → Formed n (powered β x k z)
  unfolding powered ◌─◌=0
  powered-formed β x zero z l i = (tt, omega arith)
  powered-formed β x (suc k) z l i =
      let c = chain (β x) x (suc k) in
      let h = chain_in (β x) x (suc k) (omega arith) l in
      let m = length c.auxiliaries in (
        h.ordered,
        (all_append (RowIn n m) c.products (c.result ─ source z =0 ∷ [])).1
            (h.rows m (omega arith), ((omega arith, (h.result m (omega arith), (i, tt))), tt)),
      )

-- ---- 39 int_pow

one-row : (z : ℤ) → (+1 ⊗ z ⊕ +0 ⊕ -1 ≡ +0) ↔ (+1 ≡ z)
one-row = simp linear (omega arith)

module _ (β : ℕ → Bounds) (σ : Valuation) where
  pub int_pow_correct : (x k z : ℕ) → Correct β σ (int_pow x k z)
  unfolding rule meaning pick integer_arguments powered power_pick power
  int_pow_correct x zero z = record {
    sound = λ α f g. (says-equal +1 (σ z)).1 ((one-row (σ z)).0 g.1.0);
    complete = λ f m rest. (tt, ((one-row (σ z)).1 ((says-equal +1 (σ z)).0 m), tt));
    filled = refl;
    determined = λ α f g. tt;
  }
  int_pow_correct x (suc k) z = record {
    sound = λ α f g.
        let h = holds f in
        let s = (last α).0 g.1 in
        (says-equal (power (σ x) (suc k)) (σ z)).1
        (sym h.1 ∙ sym (h.0.sound α s.0) ∙ (equal-row (see σ α) c.result (source z)).0 s.1.0);
    complete = λ f m rest.
        let h = holds f in
        let α = value ((power_values (σ x) (suc k)).picked ++ rest) in
        let o = h.0.complete rest in
        let e = h.0.sound α o.1 ∙ h.1 ∙ (says-equal (power (σ x) (suc k)) (σ z)).0 m in
        (o.0, (last α).1 (o.1, ((equal-row (see σ α) c.result (source z)).1 e, tt)));
    filled = values_length (β x) x (σ x) (suc k) (omega arith);
    determined = λ α f g. (holds f).0.determined α ((last α).0 g.1).0;
  }
    where
      c : Chain
      c = chain (β x) x (suc k)

      holds : Fits β σ (int_pow x (suc k) z) → let v = power_values (σ x) (suc k) in Works σ c v × (v.held ≡ power (σ x) (suc k))
      holds f = chain-holds σ (β x) x f.kept.0 (suc k) (omega arith)

      last : (α : Valuation) → let row = c.result ─ source z =0 in
          All (Sat (see σ α)) (c.products ++ (row ∷ [])) ↔ (All (Sat (see σ α)) c.products × All (Sat (see σ α)) (row ∷ []))
      last α = all_append (Sat (see σ α)) c.products (c.result ─ source z =0 ∷ [])
