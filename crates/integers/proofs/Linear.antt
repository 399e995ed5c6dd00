-- Linear arithmetic over ℤ, by `omega` over ℕ.
-- `diff a b` is a − b, shut, so that nothing computes in it. The set `linear` turns every quantified number, literal, sum, product, order and
-- equation of ℤ into `diff`s, and those into a statement of ℕ. How to call it:
--   a closed statement, `(a b : ℤ) → .. → ..`, nothing bound on the left     = simp linear (omega arith)
--   numbers that are bound, or calls such as `σ a`                            = rw (rep a, rep (σ a)) (simp linear (omega arith))
--   facts of the context that are compound                                    = from₂ h k (rw (..) (simp linear (omega arith)))
--   orders and equations between atoms and literals alone                     = omega arith_z
-- A false statement is refused with values at which it fails. Assumes nothing.
use Rattle.std.proofs.Common.{◌≡◌, refl, sym, ap, ◌∙◌, subst, ◌⊎◌, inl, inr, ⊎_elim, ◌↔◌, Bool, true, false, not, cond, ℕ, zero, suc, ◌+◌, ◌*◌, ◌-◌, ◌≤◌, ◌<◌, min, max, arith, T, ltb, ltb→lt, nltb→le, leb→le, le→leb, lt→ltb, ℤ, pos, negsuc, neg_ℤ, ◌+ℤ◌, ◌*ℤ◌, nat_abs, ◌≤ℤ◌, ◌<ℤ◌}
use lib.IntN.{sub_ℕ}
use lib.Signed.{le_z}
use Rattle.integers.specs.Choice.{◌if◌else◌}
use Rattle.integers.specs.Number.{◌⊕◌, ◌⊖◌, ◌⊗◌, neg, min_z, max_z, abs_z, count}

-- the orders, with a lower fixity than sum and product
infix 5 ◌⊑◌ ◌⊏◌
abbrev pub ◌⊑◌ : ℤ → ℤ → Type 0
a ⊑ b = a ≤ℤ b

abbrev pub ◌⊏◌ : ℤ → ℤ → Type 0
a ⊏ b = a <ℤ b

-- ---- differences of natural numbers

pub diff : ℕ → ℕ → ℤ
diff a b = sub_ℕ a b

-- z is a − b
data IsDiff : ℕ → ℕ → ℤ → Type 0 where
  above : (b k : ℕ) → IsDiff (b + k) b (pos k)
  below : (a k : ℕ) → IsDiff a (a + suc k) (negsuc k)

view' : (a b : ℕ) (t : Bool) → (T t → a < b) → (T (not t) → b ≤ a) → IsDiff a b (cond t (negsuc (b - suc a)) (pos (a - b)))
view' a b true f g = let h : a < b = f tt in let e : a + suc (b - suc a) ≡ b = omega arith in rw e at (below a (b - suc a))
view' a b false f g = let h : b ≤ a = g tt in let e : b + (a - b) ≡ a = omega arith in rw e at (above b (a - b))

view : (a b : ℕ) → IsDiff a b (diff a b)
unfolding diff
view a b = view' a b (ltb a b) (ltb→lt a b) (nltb→le a b)

-- the positive and the negative part of a number
abbrev pub pos_part : ℤ → ℕ
pos_part (pos n) = n
pos_part (negsuc n) = 0

abbrev pub neg_part : ℤ → ℕ
neg_part (pos n) = 0
neg_part (negsuc n) = suc n

of_parts : (a b : ℕ) (z : ℤ) → pos_part z + b ≡ neg_part z + a → IsDiff a b z
of_parts a b (pos n) e = let h : b + n ≡ a = omega arith in rw h at (above b n)
of_parts a b (negsuc n) e = let h : a + suc n ≡ b = omega arith in rw h at (below a n)

self : (z : ℤ) → IsDiff (pos_part z) (neg_part z) z
self z = of_parts (pos_part z) (neg_part z) z (omega arith)

parts : {a b : ℕ} {z : ℤ} → IsDiff a b z → pos_part z + b ≡ neg_part z + a
parts (above b k) = omega arith
parts (below a k) = omega arith

-- ---- equations and orders of differences

eq→ : {a b c d : ℕ} {x y : ℤ} → IsDiff a b x → IsDiff c d y → x ≡ y → a + d ≡ c + b
eq→ {x} {y} v w e =
    let h : pos_part x ≡ pos_part y = ap pos_part e in
    let k : neg_part x ≡ neg_part y = ap neg_part e in
    omega (arith, parts v, parts w)

←eq : {a b c d : ℕ} {x y : ℤ} → IsDiff a b x → IsDiff c d y → a + d ≡ c + b → x ≡ y
←eq (above b k) (above d l) e = let h : k ≡ l = omega arith in ap pos h
←eq (above b k) (below c l) e = absurd (omega arith)
←eq (below a k) (above d l) e = absurd (omega arith)
←eq (below a k) (below c l) e = let h : k ≡ l = omega arith in ap negsuc h

le→ : {a b c d : ℕ} {x y : ℤ} → IsDiff a b x → IsDiff c d y → x ≤ℤ y → a + d ≤ c + b
le→ (above b k) (above d l) h = omega (arith, leb→le k l h.le)
le→ (above b k) (below c l) h = absurd h.le
le→ (below a k) (above d l) h = omega arith
le→ (below a k) (below c l) h = omega (arith, leb→le l k h.le)

←le : {a b c d : ℕ} {x y : ℤ} → IsDiff a b x → IsDiff c d y → a + d ≤ c + b → x ≤ℤ y
←le (above b k) (above d l) h = record { le = le→leb k l (omega arith) }
←le (above b k) (below c l) h = absurd (omega arith)
←le (below a k) (above d l) h = record { le = tt }
←le (below a k) (below c l) h = record { le = le→leb l k (omega arith) }

lt→ : {a b c d : ℕ} {x y : ℤ} → IsDiff a b x → IsDiff c d y → x <ℤ y → a + d < c + b
lt→ (above b k) (above d l) h = omega (arith, ltb→lt k l h.lt)
lt→ (above b k) (below c l) h = absurd h.lt
lt→ (below a k) (above d l) h = omega arith
lt→ (below a k) (below c l) h = omega (arith, ltb→lt l k h.lt)

←lt : {a b c d : ℕ} {x y : ℤ} → IsDiff a b x → IsDiff c d y → a + d < c + b → x <ℤ y
←lt (above b k) (above d l) h = record { lt = lt→ltb k l (omega arith) }
←lt (above b k) (below c l) h = absurd (omega arith)
←lt (below a k) (above d l) h = record { lt = tt }
←lt (below a k) (below c l) h = record { lt = lt→ltb l k (omega arith) }

is : {a b : ℕ} {z : ℤ} → IsDiff a b z → z ≡ diff a b
is {a} {b} v = ←eq v (view a b) refl

pub diff-≡ : (a b c d : ℕ) → (diff a b ≡ diff c d) ↔ (a + d ≡ c + b)
diff-≡ a b c d = (eq→ (view a b) (view c d), ←eq (view a b) (view c d))

pub diff_≤ : (a b c d : ℕ) → diff a b ≤ℤ diff c d ↔ a + d ≤ c + b
diff_≤ a b c d = (le→ (view a b) (view c d), ←le (view a b) (view c d))

pub diff_< : (a b c d : ℕ) → diff a b <ℤ diff c d ↔ a + d < c + b
diff_< a b c d = (lt→ (view a b) (view c d), ←lt (view a b) (view c d))

-- ---- every number is a difference, and the operations on differences

pub rep : (z : ℤ) → z ≡ diff (pos_part z) (neg_part z)
rep z = is (self z)

pub diff-pos : (n : ℕ) → pos n ≡ diff n 0
diff-pos n = rep (pos n)

pub diff-negsuc : (n : ℕ) → negsuc n ≡ diff 0 (suc n)
diff-negsuc n = rep (negsuc n)

add : (x y : ℤ) → pos_part (x +ℤ y) + neg_part x + neg_part y ≡ neg_part (x +ℤ y) + pos_part x + pos_part y
unfolding diff
add (pos a) (pos b) = omega arith
add (pos a) (negsuc b) = omega (arith, parts (view a (suc b)))
add (negsuc a) (pos b) = omega (arith, parts (view b (suc a)))
add (negsuc a) (negsuc b) = omega arith

pub diff_⊕ : (a b c d : ℕ) → diff a b ⊕ diff c d ≡ diff (a + c) (b + d)
unfolding ◌⊕◌
diff_⊕ a b c d = is (of_parts (a + c) (b + d) _ (omega (arith, add (diff a b) (diff c d), parts (view a b), parts (view c d))))

opposite : (a b : ℕ) (z : ℤ) → pos_part z + b ≡ neg_part z + a → pos_part (neg_ℤ z) + a ≡ neg_part (neg_ℤ z) + b
opposite a b (pos zero) e = omega arith
opposite a b (pos (suc k)) e = omega arith
opposite a b (negsuc k) e = omega arith

pub diff-neg : (a b : ℕ) → neg (diff a b) ≡ diff b a
unfolding neg
diff-neg a b = is (of_parts b a _ (opposite a b (diff a b) (parts (view a b))))

pub diff_⊖ : (a b c d : ℕ) → diff a b ⊖ diff c d ≡ diff (a + d) (b + c)
unfolding ◌⊖◌ ◌⊕◌ neg
diff_⊖ a b c d = ap (λ z. diff a b +ℤ z) (diff-neg c d) ∙ diff_⊕ a b d c

mul : {a b c d : ℕ} {x y : ℤ} → IsDiff a b x → IsDiff c d y → pos_part (x *ℤ y) + (a * d + b * c) ≡ neg_part (x *ℤ y) + (a * c + b * d)
mul (above b k) (above d l) = omega arith
mul (above b k) (below c l) = omega (arith, opposite (k * suc l) 0 (pos (k * suc l)) (omega arith))
mul (below a k) (above d l) = omega (arith, opposite (suc k * l) 0 (pos (suc k * l)) (omega arith))
mul (below a k) (below c l) = omega arith

pub diff_⊗ : (a b c d : ℕ) → diff a b ⊗ diff c d ≡ diff (a * c + b * d) (a * d + b * c)
unfolding ◌⊗◌
diff_⊗ a b c d = is (of_parts _ _ _ (mul (view a b) (view c d)))

-- ---- the lesser, the larger, the absolute value

pub by_le : (x y : ℤ) (G : Bool → Type 0) → (x ⊑ y → G true) → (¬ (x ⊑ y) → G false) → G (le_z x y)
by_le x y G f g = by (le_z x y) refl
  where
    by : (t : Bool) → le_z x y ≡ t → G t
    by true e = f (record { le = subst T (sym e) tt })
    by false e = g (λ h. subst T e h.le)

pub diff-min : (a b c d : ℕ) → min_z (diff a b) (diff c d) ≡ diff (min (a + d) (c + b)) (b + d)
unfolding min_z
diff-min a b c d =
    by_le (diff a b) (diff c d) (λ t. (diff a b if t else diff c d) ≡ diff (min (a + d) (c + b)) (b + d))
    (simp (diff_≤, diff-≡) (omega arith)) (simp (diff_≤, diff-≡) (omega arith))

pub diff-max : (a b c d : ℕ) → max_z (diff a b) (diff c d) ≡ diff (max (a + d) (c + b)) (b + d)
unfolding max_z
diff-max a b c d =
    by_le (diff a b) (diff c d) (λ t. (diff c d if t else diff a b) ≡ diff (max (a + d) (c + b)) (b + d))
    (simp (diff_≤, diff-≡) (omega arith)) (simp (diff_≤, diff-≡) (omega arith))

nat_abs-is_diff : {a b : ℕ} {z : ℤ} → IsDiff a b z → nat_abs z ≡ (a - b) + (b - a)
nat_abs-is_diff (above b k) = omega arith
nat_abs-is_diff (below a k) = omega arith

pub diff_nat_abs : (a b : ℕ) → nat_abs (diff a b) ≡ (a - b) + (b - a)
diff_nat_abs a b = nat_abs-is_diff (view a b)

pub diff-abs : (a b : ℕ) → abs_z (diff a b) ≡ diff ((a - b) + (b - a)) 0
unfolding abs_z
diff-abs a b = ap pos (diff_nat_abs a b) ∙ diff-pos _

-- ---- a number as a count

of-diff : (a b : ℕ) (z : ℤ) → z ≡ diff a b → count z ≡ a - b
unfolding count
of-diff a b (pos n) = simp (diff-pos, diff-≡) (omega arith)
of-diff a b (negsuc n) = simp (diff-negsuc, diff-≡) (omega arith)

pub diff-count : (a b : ℕ) → count (diff a b) ≡ a - b
diff-count a b = of-diff a b (diff a b) refl

-- ---- quantifiers (one binder for one: omega enters 32), and a disjunction in front of an arrow

pub record Two : Type 0 where
  pub p : ℕ
  pub n : ℕ

pub for-all : (Q : ℤ → Type 0) → ((z : ℤ) → Q z) ↔ ((w : Two) → Q (diff w.p w.n))
for-all Q = (λ f w. f (diff w.p w.n), λ f z. rw (rep z) (f (record { p = pos_part z; n = neg_part z })))

pub or_imp : (A B C : Type 0) → (A ⊎ B → C) ↔ ((A → C) × (B → C))
or_imp A B C = (λ f. (λ a. f (inl a), λ b. f (inr b)), λ h. ⊎_elim h.0 h.1)

-- THE SET
pub ruleset linear = (diff-min, diff-max, diff-abs, diff_nat_abs, diff-count, diff_⊕, diff_⊖, diff-neg, diff_⊗, diff_≤, diff_<, diff-≡, diff-pos, diff-negsuc, for-all, or_imp)

-- ---- what `omega` reads of ℤ where it stands, with no rewriting: orders and equations between atoms

pub le_read : {x y : ℤ} → x ≤ℤ y → pos_part x + neg_part y ≤ pos_part y + neg_part x
le_read {x} {y} h = le→ (self x) (self y) h

pub lt-read : {x y : ℤ} → x <ℤ y → pos_part x + neg_part y < pos_part y + neg_part x
lt-read {x} {y} h = lt→ (self x) (self y) h

pub eq_read : {x y : ℤ} → x ≡ y → pos_part x + neg_part y ≡ pos_part y + neg_part x
eq_read {x} {y} h = eq→ (self x) (self y) h

pub le_write : {x y : ℤ} → pos_part x + neg_part y ≤ pos_part y + neg_part x → x ≤ℤ y
le_write {x} {y} h = ←le (self x) (self y) h

pub lt-write : {x y : ℤ} → pos_part x + neg_part y < pos_part y + neg_part x → x <ℤ y
lt-write {x} {y} h = ←lt (self x) (self y) h

pub eq_write : {x y : ℤ} → pos_part x + neg_part y ≡ pos_part y + neg_part x → x ≡ y
eq_write {x} {y} h = ←eq (self x) (self y) h

pub ruleset arith_z = (arith, le_read, lt-read, eq_read, le_write, lt-write, eq_write)

-- ---- facts moved into the goal, where `rw` and `simp` see them

pub from₁ : {A G : Type 0} → A → (A → G) → G
from₁ a f = f a

pub from₂ : {A B G : Type 0} → A → B → (A → B → G) → G
from₂ a b f = f a b

pub from₃ : {A B C G : Type 0} → A → B → C → (A → B → C → G) → G
from₃ a b c f = f a b c

pub dec⊑ : (a b : ℤ) → Dec (a ⊑ b)
dec⊑ a b = by_le a b (λ t. Dec (a ⊑ b)) yes no
