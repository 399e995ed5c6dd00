-- Codes 37 int_div and 38 int_mod. The ten rows say which of 000's four cases holds of n, d and p; a multiple d×q of which one holds is that of the
-- quotient cut towards zero.
use Rattle.std.proofs.Common.{◌≡◌, refl, sym, ap, ap₂, ◌∙◌, subst, ◌⊎◌, inl, inr, ◌↔◌, Bool, true, false, List, [], ◌∷◌, ◌++◌, map, ℕ, zero, suc, ◌/◌, ◌%◌, mod-lt, zero-lt-suc, div-le_self, arith, ℤ, pos, negsuc, neg_ℤ}
use mathlib.Core.List.{zip_with}
use native.Mathlib.Nat.{div-add-mod}
use lib.Signed.{le_z, lt_z, quot_z, rem_z}
use Rattle.integers.specs.Number.{◌⊕◌, ◌⊖◌, ◌⊗◌, neg, max_z, abs_z, +0, +1, -1}
use Rattle.integers.specs.Bounds.{◌to◌, bit}
use Rattle.integers.specs.Terms.{Valuation, value}
use Rattle.integers.specs.declared.Bounds.{Bounds}
use Rattle.integers.proofs.Linear.{◌⊑◌, ◌⊏◌, rep, linear, from₁, from₂, dec⊑}
use Rattle.integers.proofs.Bits.{Bit, b0, b1, to-bit}
use Rattle.integers.proofs.Product.{product-order}
use Rattle.integers.proofs.Tests.{Says, In, All, says-le, says-lt, says-equal, says-not, says-and, false-true}
use Rattle.integers.proofs.Lists.{all_append}
use Rattle.models.specs.Builtin.{int_div, int_mod}
use Rattle.models.specs.Meaning.{quotient, remainder, meaning}
use Rattle.models.proofs.Arguments.{integer_arguments}
use Rattle.rules.specs.Block.{Ref, source, aux}
use Rattle.rules.specs.Parts.{end_products}
use Rattle.rules.specs.Division.{M, division_table, table_row, division_rows, quotient_bounds, remainder_row}
use Rattle.rules.specs.Rule.{rule, division, left_over}
use Rattle.rules.specs.Pick.{pick, bit_of, division_pick, left_over_pick}
use Rattle.sharing.proofs.Good.{Good, Keeps, Sat, see}
use Rattle.sharing.proofs.Basics.{Correct, is_one, is_zero}
use Rattle.sharing.proofs.Arithmetic.{product-kept}

-- ---- the ten rows

-- they hold of numbers n, d, p and bits α, β, γ
Rows : (n d p α β γ : ℤ) → Bounds → Bounds → ℤ → Type 0
Rows n d p α β γ N D m = All (Sat (value (n ∷ d ∷ p ∷ α ∷ β ∷ γ ∷ []))) (map (table_row (0 ∷ 1 ∷ 2 ∷ 3 ∷ 4 ∷ 5 ∷ [])) (division_table N D m))

-- p is not past n, which is not negative (true) or is, and less than w away
abbrev Side : Bool → ℤ → ℤ → ℤ → Type 0
Side true n w p = (+0 ⊑ n) × (p ⊑ n) × (n ⊖ p ⊏ w)
Side false n w p = (n ⊏ +0) × (n ⊑ p) × (p ⊖ n ⊏ w)

-- d is positive (true) or negative; then |d|
abbrev Sign : Bool → ℤ → Type 0
Sign true d = +0 ⊏ d
Sign false d = d ⊏ +0

abbrev size : Bool → ℤ → ℤ
size true d = d
size false d = neg d

-- 000's four cases
abbrev Case : Bool → Bool → ℤ → ℤ → ℤ → Type 0
Case a b n d p = Side a n (size b d) p × Sign b d

-- the rows with the bits of a case say that it holds
rows_case : (a b : Bool) (n d p m nl nh dl dh : ℤ) → Rows n d p (bit_of a) (bit_of b) (bit_of a ⊗ bit_of b) (nl to nh) (dl to dh) m → Case a b n d p
unfolding Rows table_row division_table value zip_with bit_of
rows_case true true = simp linear (omega arith)
rows_case true false = simp linear (omega arith)
rows_case false true = simp linear (omega arith)
rows_case false false = simp linear (omega arith)

-- M is not below what the rows must leave free
abbrev Wide : ℤ → Bounds → Bounds → Bounds → Type 0
Wide m N D P =
    (P.upper ⊖ N.lower ⊑ m) × (N.upper ⊖ P.lower ⊑ m) × (N.upper ⊖ D.lower ⊖ P.lower ⊕ +1 ⊑ m) × (P.upper ⊖ N.lower ⊕ D.upper ⊕ +1 ⊑ m)
    × (N.upper ⊕ D.upper ⊖ P.lower ⊕ +1 ⊑ m) × (P.upper ⊖ N.lower ⊖ D.lower ⊕ +1 ⊑ m)

M-wide : (N D P : Bounds) → Wide (M N D P) N D P
unfolding M
M-wide N D P = core _ _ _ _ _ _
  where
    core : (a b c d e f : ℤ) → let m = max_z (max_z a b) (max_z (max_z c d) (max_z e f)) in (a ⊑ m) × (b ⊑ m) × (c ⊑ m) × (d ⊑ m) × (e ⊑ m) × (f ⊑ m)
    core = simp linear (omega arith)

-- and back, for numbers within their bounds
abbrev Gives-rows : Bool → Bool → Type 0
Gives-rows a b = (n d p m nl nh dl dh pl ph : ℤ) → In (nl to nh) n → In (dl to dh) d → In (pl to ph) p →
    Wide m (nl to nh) (dl to dh) (pl to ph) → Case a b n d p → Rows n d p (bit_of a) (bit_of b) (bit_of a ⊗ bit_of b) (nl to nh) (dl to dh) m

rows_both : Gives-rows true true
unfolding Rows table_row division_table value zip_with bit_of
rows_both = simp linear (omega arith)

rows_n_alone : Gives-rows true false
unfolding Rows table_row division_table value zip_with bit_of
rows_n_alone = simp linear (omega arith)

rows_d_alone : Gives-rows false true
unfolding Rows table_row division_table value zip_with bit_of
rows_d_alone = simp linear (omega arith)

rows_none : Gives-rows false false
unfolding Rows table_row division_table value zip_with bit_of
rows_none = simp linear (omega arith)

case_rows : (a b : Bool) → Gives-rows a b
case_rows true true = rows_both
case_rows true false = rows_n_alone
case_rows false true = rows_d_alone
case_rows false false = rows_none

-- ---- one of the cases holds: d is not 0, p is not past n, and less than |d| away

abbrev Near : ℤ → ℤ → ℤ → Type 0
Near n d p = Side true n (abs_z d) p ⊎ Side false n (abs_z d) p

abbrev Divided : ℤ → ℤ → ℤ → Type 0
Divided n d p = ¬ (d ≡ +0) × Near n d p

-- what is known of d in a case
sign-law : (b : Bool) (d : ℤ) → Sign b d → (size b d ≡ abs_z d) × ¬ (d ≡ +0)
sign-law true = simp linear (omega arith)
sign-law false = simp linear (omega arith)

-- then the bits are those of the signs of n and d
case_divided : (a b : Bool) (n d p : ℤ) → Case a b n d p → Divided n d p × (bit_of a ≡ bit_of (le_z +0 n)) × (bit_of b ≡ bit_of (lt_z +0 d))
unfolding bit_of
case_divided a b n d p c =
    let l = sign-law b d c.1 in
    ((l.1, near a (subst (λ w. Side a n w p) l.0 c.0)), side a _ c.0, sign b c.1)
  where
    near : (a : Bool) → Side a n (abs_z d) p → Near n d p
    near true = inl
    near false = inr

    denied : (x : ℤ) → x ⊏ +0 → ¬ (+0 ⊑ x) × ¬ (+0 ⊏ x)
    denied = simp linear (omega arith)

    side : (a : Bool) (w : ℤ) → Side a n w p → bit_of a ≡ bit_of (le_z +0 n)
    side true w h = is_one (says-le +0 n) h.0
    side false w h = is_zero (says-le +0 n) (denied n h.0).0

    sign : (b : Bool) → Sign b d → bit_of b ≡ bit_of (lt_z +0 d)
    sign true h = is_one (says-lt +0 d) h
    sign false h = is_zero (says-lt +0 d) (denied d h).1

-- the case is that of the signs of n and d
divided_case : (a b : Bool) (n d p : ℤ) → Says a (+0 ⊑ n) → Says b (+0 ⊏ d) → Divided n d p → Case a b n d p
divided_case a b n d p s t h =
    let k = sign b t in
    (subst (λ w. Side a n w p) (sym (sign-law b d k).0) (side a s h.1), k)
  where
    below : (n w p : ℤ) → ¬ (+0 ⊑ n) → Side true n w p ⊎ Side false n w p → Side false n w p
    below = simp linear (omega arith)

    above : (n w p : ℤ) → +0 ⊑ n → Side true n w p ⊎ Side false n w p → Side true n w p
    above = simp linear (omega arith)

    side : (a : Bool) → Says a (+0 ⊑ n) → Near n d p → Side a n (abs_z d) p
    side true s = above n _ p (s.0 refl)
    side false s = below n _ p (λ k. false-true (s.1 k))

    negative : (d : ℤ) → ¬ (+0 ⊏ d) → ¬ (d ≡ +0) → d ⊏ +0
    negative = simp linear (omega arith)

    sign : (b : Bool) → Says b (+0 ⊏ d) → Sign b d
    sign true t = t.0 refl
    sign false t = negative d (λ k. false-true (t.1 k)) h.0

-- the rows over any variables
rows-divided : (α β : ℤ) → Bit α → Bit β → (n d p m : ℤ) (N D : Bounds) → Rows n d p α β (α ⊗ β) N D m →
    Divided n d p × (α ≡ bit_of (le_z +0 n)) × (β ≡ bit_of (lt_z +0 d))
unfolding bit_of
rows-divided _ _ b1 b1 n d p m N D r = case_divided true true n d p (rows_case true true n d p m _ _ _ _ r)
rows-divided _ _ b1 b0 n d p m N D r = case_divided true false n d p (rows_case true false n d p m _ _ _ _ r)
rows-divided _ _ b0 b1 n d p m N D r = case_divided false true n d p (rows_case false true n d p m _ _ _ _ r)
rows-divided _ _ b0 b0 n d p m N D r = case_divided false false n d p (rows_case false false n d p m _ _ _ _ r)

divided-rows : (n d p : ℤ) (N D P : Bounds) → In N n → In D d → In P p → Divided n d p →
    let α = bit_of (le_z +0 n) in let β = bit_of (lt_z +0 d) in Rows n d p α β (α ⊗ β) N D (M N D P)
divided-rows n d p N D P hn hd hp h =
    case_rows (le_z +0 n) (lt_z +0 d) n d p (M N D P) _ _ _ _ _ _ hn hd hp (M-wide N D P)
    (divided_case (le_z +0 n) (lt_z +0 d) n d p (says-le +0 n) (says-lt +0 d) h)

-- ---- the quotient is the only number that is so divided

neg-pos : (k : ℕ) → neg_ℤ (pos k) ≡ neg (pos k)
unfolding neg
neg-pos k = refl

quotient-near : (n d : ℤ) → ¬ (d ≡ +0) → Near n d (d ⊗ quot_z n d)
quotient-near n (pos zero) z = absurd (z refl)
quotient-near (pos a) (pos (suc b)) z = inl (simp linear (omega (arith, div-add-mod a (suc b), mod-lt a (zero-lt-suc b))))
quotient-near (pos a) (negsuc b) z = inl (rw neg-pos (simp linear (omega (arith, div-add-mod a (suc b), mod-lt a (zero-lt-suc b)))))
quotient-near (negsuc a) (pos (suc b)) z = inr (rw neg-pos (simp linear (omega (arith, div-add-mod (suc a) (suc b), mod-lt (suc a) (zero-lt-suc b)))))
quotient-near (negsuc a) (negsuc b) z = inr (simp linear (omega (arith, div-add-mod (suc a) (suc b), mod-lt (suc a) (zero-lt-suc b))))

-- the next multiple of d, and all after it, are past |d|
further : (d q s : ℤ) → q ⊏ s → (+1 ⊑ d → d ⊗ q ⊕ d ⊑ d ⊗ s) × (d ⊑ -1 → d ⊗ s ⊑ d ⊗ q ⊕ d)
further d q s h =
    let k : q ⊕ +1 ⊑ s = from₁ h (rw (rep q, rep s) (simp linear (omega arith))) in (
      λ i. from₂ (product-order +1 d (q ⊕ +1) s i k) k (rw (rep d, rep q, rep s) (simp linear (omega arith))),
      λ i. from₂ (product-order d -1 (q ⊕ +1) s i k) k (rw (rep d, rep q, rep s) (simp linear (omega arith))),
    )

not-less : (n d q s : ℤ) → ¬ (d ≡ +0) → Near n d (d ⊗ q) → Near n d (d ⊗ s) → ¬ (q ⊏ s)
not-less n d q s z h k l = go (dec⊑ +1 d)
  where
    above : (n d p t : ℤ) → +1 ⊑ d → p ⊕ d ⊑ t → Near n d p → ¬ (Near n d t)
    above = simp linear (omega arith)

    below : (n d p t : ℤ) → ¬ (d ≡ +0) → ¬ (+1 ⊑ d) → t ⊑ p ⊕ d → Near n d p → ¬ (Near n d t)
    below = simp linear (omega arith)

    negative : (d : ℤ) → ¬ (d ≡ +0) → ¬ (+1 ⊑ d) → d ⊑ -1
    negative = simp linear (omega arith)

    go : Dec (+1 ⊑ d) → ⊥
    go (yes i) = above n d _ _ i ((further d q s l).0 i) h k
    go (no i) = below n d _ _ z i ((further d q s l).1 (negative d z i)) h k

near-quotient : (n d q : ℤ) → ¬ (d ≡ +0) → Near n d (d ⊗ q) → quot_z n d ≡ q
near-quotient n d q z h =
    let k = quotient-near n d z in
    equal _ _ (not-less n d _ _ z k h) (not-less n d _ _ z h k)
  where
    equal : (q s : ℤ) → ¬ (q ⊏ s) → ¬ (s ⊏ q) → q ≡ s
    equal = simp linear (omega arith)

says-quotient : (n d q : ℤ) → Says (quotient n d q) (Divided n d (d ⊗ q))
unfolding quotient
says-quotient n d q =
    let s = says-and (says-not (says-equal d +0)) (says-equal (quot_z n d) q) in (
      λ t. let h = s.0 t in (h.0, subst (λ x. Near n d (d ⊗ x)) h.1 (quotient-near n d h.0)),
      λ h. s.1 (h.0, near-quotient n d q h.0 h.1),
    )

-- the remainder is what the quotient leaves
remainder-left : (n d : ℤ) → ¬ (d ≡ +0) → rem_z n d ≡ n ⊖ d ⊗ quot_z n d
remainder-left n (pos zero) z = absurd (z refl)
remainder-left (pos a) (pos (suc b)) z = simp linear (omega (arith, div-add-mod a (suc b)))
remainder-left (pos a) (negsuc b) z = rw neg-pos (simp linear (omega (arith, div-add-mod a (suc b))))
remainder-left (negsuc a) (pos (suc b)) z = rw (neg-pos (suc a / suc b), neg-pos (suc a % suc b)) (simp linear (omega (arith, div-add-mod (suc a) (suc b))))
remainder-left (negsuc a) (negsuc b) z = rw neg-pos (simp linear (omega (arith, div-add-mod (suc a) (suc b))))

-- the quotient is no larger than the dividend, so it keeps the bounds of 38's q
quotient-size : (n d : ℤ) → In (neg (abs_z n) to abs_z n) (quot_z n d)
quotient-size (pos a) (pos b) = simp linear (omega (arith, div-le_self a b))
quotient-size (pos a) (negsuc b) = rw neg-pos (simp linear (omega (arith, div-le_self a (suc b))))
quotient-size (negsuc a) (pos b) = rw neg-pos (simp linear (omega (arith, div-le_self (suc a) b)))
quotient-size (negsuc a) (negsuc b) = simp linear (omega (arith, div-le_self (suc a) (suc b)))

quotient-kept : (N : Bounds) (n d : ℤ) → In N n → In (quotient_bounds N) (quot_z n d)
unfolding quotient_bounds
quotient-kept N n d h = smaller _ n (quot_z n d) (in_both N.lower N.upper n h) (quotient-size n d)
  where
    in_both : (l u n : ℤ) → In (l to u) n → let w = max_z (abs_z l) (abs_z u) in In (neg w to w) n
    in_both = simp linear (omega arith)

    smaller : (w n q : ℤ) → In (neg w to w) n → In (neg (abs_z n) to abs_z n) q → In (neg w to w) q
    smaller = simp linear (omega arith)

-- ---- the blocks

-- n is divided by d with the quotient q, and the auxiliaries are the picks
abbrev Only : (n d q α β p γ : ℤ) → Type 0
Only n d q α β p γ =
    let a = bit_of (le_z +0 n) in let b = bit_of (lt_z +0 d) in Divided n d (d ⊗ q) × (α ≡ a) × (β ≡ b) × (p ≡ d ⊗ q) × (γ ≡ a ⊗ b)

-- the products and the ten rows, over variables with values ρ, say so
division-only : (ρ : Ref → ℤ) (N D P : Bounds) (n d q α β p γ : Ref) → In bit (ρ α) → In bit (ρ β) → All (Sat ρ) (division_rows N D P n d q α β p γ) →
    Only (ρ n) (ρ d) (ρ q) (ρ α) (ρ β) (ρ p) (ρ γ)
unfolding division_rows Rows table_row division_table value zip_with
division-only ρ N D P n d q α β p γ h k g =
    let r = rows-divided (ρ α) (ρ β) (to-bit _ h.0 h.1) (to-bit _ k.0 k.1) (ρ n) (ρ d) (ρ p) (M N D P) N D
    (subst (λ c. Rows (ρ n) (ρ d) (ρ p) (ρ α) (ρ β) c N D (M N D P)) g.1.0 g.1.1) in
    (subst (Divided (ρ n) (ρ d)) g.0 r.0, r.1, r.2, g.0, g.1.0 ∙ ap₂ ◌⊗◌ r.1 r.2)

-- the bits that are picked, and their product, are bits
bits-kept : (a b : Bool) → In bit (bit_of a) × In bit (bit_of b) × In bit (bit_of a ⊗ bit_of b)
unfolding bit_of
bits-kept true true = simp linear (omega arith)
bits-kept true false = simp linear (omega arith)
bits-kept false true = simp linear (omega arith)
bits-kept false false = simp linear (omega arith)

division-kept : (D Q : Bounds) (n d q : ℤ) (rest : List ℤ) → In D d → In Q q →
    Keeps (bit ∷ bit ∷ end_products D Q ∷ bit ∷ []) (value (division_pick n d q ++ rest))
unfolding division_pick value
division-kept D Q n d q rest h k =
    let b = bits-kept (le_z +0 n) (lt_z +0 d) in
    (b.0, (b.1, (product-kept D Q d q h k, (b.2, tt))))

module _ (β : ℕ → Bounds) (σ : Valuation) where
  -- ---- 37 int_div

  pub int_div_correct : (n d q : ℕ) → Correct β σ (int_div n d q)
  unfolding rule meaning pick integer_arguments division division_rows Rows table_row division_table division_pick value zip_with
  int_div_correct n d q = record {
    sound = λ α f g. (says-quotient (σ n) (σ d) (σ q)).1 (only α g).0;
    complete = λ f m rest.
        let hn = f.kept.0 in
        let hd = f.kept.1.0 in
        let hq = f.kept.1.1.0 in (
          division-kept (β d) (β q) (σ n) (σ d) (σ q) rest hd hq,
          (
            refl,
            (
              refl,
              divided-rows (σ n) (σ d) (σ d ⊗ σ q) (β n) (β d) (end_products (β d) (β q)) hn hd
                  (product-kept (β d) (β q) (σ d) (σ q) hd hq) ((says-quotient (σ n) (σ d) (σ q)).0 m),
            ),
          ),
        );
    filled = refl;
    determined = λ α f g. let a = only α g in (a.1, (a.2, (a.3, (a.4, tt))));
  }
    where
      only : (α : Valuation) → Good (division β n d q) σ α → Only (σ n) (σ d) (σ q) (α 0) (α 1) (α 2) (α 3)
      only α g = division-only (see σ α) (β n) (β d) (end_products (β d) (β q)) (source n) (source d) (source q) (aux 0) (aux 1) (aux 2) (aux 3) g.0.0 g.0.1.0 g.1

  -- ---- 38 int_mod

  last_row : (p r n : ℤ) → (+1 ⊗ p ⊕ (+1 ⊗ r ⊕ (-1 ⊗ n ⊕ +0)) ⊕ +0 ≡ +0) ↔ (n ⊖ p ≡ r)
  last_row = simp linear (omega arith)

  pub int_mod_correct : (n d r : ℕ) → Correct β σ (int_mod n d r)
  unfolding rule meaning remainder pick integer_arguments left_over division_rows remainder_row Rows table_row division_table left_over_pick division_pick value zip_with
  int_mod_correct n d r = record {
    sound = λ α f g.
        let s = parts α g in
        let h = (only α g).0 in
        let q = near-quotient (σ n) (σ d) (α 0) h.0 h.1 in
        says.1 (
          h.0,
          remainder-left (σ n) (σ d) h.0 ∙ ap (λ x. σ n ⊖ σ d ⊗ x) q ∙ ap (λ x. σ n ⊖ x) (sym s.0.0) ∙ (last_row _ _ _).0 s.1.0,
        );
    complete = λ f m rest.
        let h = says.0 m in
        let hn = f.kept.0 in
        let hd = f.kept.1.0 in
        let Q = quotient_bounds (β n) in
        let hq = quotient-kept (β n) (σ n) (σ d) hn in
        let rows = map (table_row (source n ∷ source d ∷ aux 3 ∷ aux 1 ∷ aux 2 ∷ aux 4 ∷ [])) (division_table (β n) (β d) (M (β n) (β d) P)) in (
          (hq, division-kept (β d) Q (σ n) (σ d) (quot_z (σ n) (σ d)) rest hd hq),
          (
            refl,
            (
              refl,
              (all_append (Sat (see σ (value (left_over_pick (σ n) (σ d) ++ rest)))) rows (remainder_row (aux 3) (source r) (source n) ∷ [])).1 (
                divided-rows (σ n) (σ d) (σ d ⊗ quot_z (σ n) (σ d)) (β n) (β d) P hn hd (product-kept (β d) Q (σ d) _ hd hq) (h.0, quotient-near (σ n) (σ d) h.0),
                ((last_row _ _ _).1 (sym (remainder-left (σ n) (σ d) h.0) ∙ h.1), tt),
              ),
            ),
          ),
        );
    filled = refl;
    determined = λ α f g.
        let a = only α g in
        let q : α 0 ≡ quot_z (σ n) (σ d) = sym (near-quotient (σ n) (σ d) (α 0) a.0.0 a.0.1) in
        (q, (a.1, (a.2, (a.3 ∙ ap (λ x. σ d ⊗ x) q, (a.4, tt)))));
  }
    where
      P : Bounds
      P = end_products (β d) (quotient_bounds (β n))

      says : Says (remainder (σ n) (σ d) (σ r)) (¬ (σ d ≡ +0) × (rem_z (σ n) (σ d) ≡ σ r))
      says = says-and (says-not (says-equal (σ d) +0)) (says-equal (rem_z (σ n) (σ d)) (σ r))

      parts : (α : Valuation) → Good (left_over β n d r) σ α →
          All (Sat (see σ α)) (division_rows (β n) (β d) P (source n) (source d) (aux 0) (aux 1) (aux 2) (aux 3) (aux 4))
          × All (Sat (see σ α)) (remainder_row (aux 3) (source r) (source n) ∷ [])
      parts α g =
          (all_append (Sat (see σ α)) (division_rows (β n) (β d) P (source n) (source d) (aux 0) (aux 1) (aux 2) (aux 3) (aux 4))
          (remainder_row (aux 3) (source r) (source n) ∷ [])).0 g.1

      only : (α : Valuation) → Good (left_over β n d r) σ α → Only (σ n) (σ d) (α 0) (α 1) (α 2) (α 3) (α 4)
      only α g =
          division-only (see σ α) (β n) (β d) P (source n) (source d) (aux 0) (aux 1) (aux 2) (aux 3) (aux 4) g.0.1.0 g.0.1.1.0 (parts α g).0
