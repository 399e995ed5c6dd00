-- What the proofs of the builtins share: what is shown of a block, tests, rows of two variables, and values 0 and 1.
use Rattle.std.proofs.Common.{◌≡◌, refl, ◌↔◌, Bool, true, false, List, [], ◌∷◌, ◌++◌, ℕ, arith, ℤ, length}
use native.Mathlib.Decide.{ℕ_discrete}
use Rattle.integers.specs.Number.{+0, +1}
use Rattle.integers.specs.Bounds.{bit}
use Rattle.integers.specs.Terms.{Valuation, value}
use Rattle.integers.specs.declared.Bounds.{Bounds}
use Rattle.integers.proofs.Linear.{◌⊑◌, rep, linear}
use Rattle.integers.proofs.Bits.{Bit, bits, Reified, to-bit, bit-of}
use Rattle.integers.proofs.Tests.{Says, In, says-equal, says_beq, false-true}
use Rattle.models.specs.Builtin.{Builtin}
use Rattle.models.specs.Meaning.{meaning, on, ◌iff◌}
use Rattle.rowsystems.specs.Row.{Row}
use Rattle.rules.specs.Block.{Ref, Block, block}
use Rattle.rules.specs.Parts.{◌─◌≤0, ◌─◌=0}
use Rattle.rules.specs.Rule.{rule}
use Rattle.rules.specs.Pick.{pick, bit_of}
use Rattle.sharing.proofs.Good.{Good, Are, Sat}
use Rattle.sharing.proofs.Fits.{Fits}

-- ---- what is shown of a block

-- over values of which F holds, the block with these picks for its auxiliaries represents the test t
pub record Represents (F : Type 0) (B : Block) (σ : Valuation) (picks : List ℤ) (t : Bool) : Type 0 where
  -- values that make the block good make the test true
  pub sound : (α : Valuation) → F → Good B σ α → t ≡ true
  -- where the test is true, the picks make the block good, whatever follows them
  pub complete : F → t ≡ true → (rest : List ℤ) → Good B σ (value (picks ++ rest))
  -- there is a pick for each auxiliary
  pub filled : length picks ≡ length B.auxiliaries
  -- auxiliaries that make the block good are the picks
  pub determined : (α : Valuation) → F → Good B σ α → Are picks α

-- the block of a builtin represents its meaning
abbrev pub Correct : (ℕ → Bounds) → Valuation → Builtin → Type 0
Correct β σ b = Represents (Fits β σ b) (rule β b) σ (pick β σ b) (meaning σ b)

-- both directions at once, for a block that has no auxiliaries
abbrev pub Exact : (ℕ → Bounds) → Valuation → Builtin → Type 0
Exact β σ b = (α : Valuation) → Fits β σ b → Good (rule β b) σ α ↔ (meaning σ b ≡ true)

pub exact : {β : ℕ → Bounds} {σ : Valuation} {b : Builtin} → Exact β σ b → pick β σ b ≡ [] → (rule β b).auxiliaries ≡ [] → Correct β σ b
exact {β} {σ} {b} e p a = record {
  sound = λ α f. (e α f).0;
  complete = λ f m rest. (e (value (pick β σ b ++ rest)) f).1 m;
  filled = rw (p, a);
  determined = λ α f g. rw p tt;
}

-- ---- tests

-- what is equivalent to what the test says is equivalent to the test
pub agree : {t : Bool} {A G : Type 0} → Says t A → G ↔ A → G ↔ (t ≡ true)
agree s l = (λ g. s.1 (l.0 g), λ e. l.1 (s.0 e))

-- the same test says what is equivalent
pub says_as : {t : Bool} {A B : Type 0} → Says t A → A ↔ B → Says t B
says_as s l = (λ e. l.0 (s.0 e), λ b. s.1 (l.1 b))

-- "r is 1 exactly where": the test of a Boolean variable and another one agree
pub says-reified : {u : Bool} {A : Type 0} (σ : Valuation) (r : ℕ) → Says u A → Says (on σ r iff u) (Reified (σ r) A)
unfolding on Reified
says-reified σ r s = says_beq (says-equal (σ r) +1) s

-- ---- rows

-- x − y = 0, x − y ≤ 0
pub equal-row : (ρ : Ref → ℤ) (x y : Ref) → Sat ρ (x ─ y =0) ↔ (ρ x ≡ ρ y)
unfolding ◌─◌=0
equal-row ρ x y = rw (rep (ρ x), rep (ρ y)) (simp linear (omega arith))

pub not_above_row : (ρ : Ref → ℤ) (x y : Ref) → Sat ρ (x ─ y ≤0) ↔ (ρ x ⊑ ρ y)
unfolding ◌─◌≤0
not_above_row ρ x y = rw (rep (ρ x), rep (ρ y)) (simp linear (omega arith))

-- a block of one row and no auxiliaries is good where the row, here S, is satisfied
pub one-row : {A S : Type 0} → S ↔ A → (Unit {0} × (S × Unit {0})) ↔ A
one-row l = (λ g. l.0 g.1.0, λ a. (tt, (l.1 a, tt)))

-- ---- values 0 and 1

pub in_bit : (x : ℤ) → Bit x → In bit x
in_bit = simp bits (simp linear (omega arith))

-- what holds of 1 where the test is true and of 0 where it is not holds of the bit of the test
pub by-test : {t : Bool} {A : Type 0} → Says t A → (Q : ℤ → Type 0) → (A → Q +1) → (¬ A → Q +0) → Q (bit_of t)
unfolding bit_of
by-test {t} {A} s Q f g = go t s
  where
    go : (t : Bool) → Says t A → Q (bit_of t)
    go true s = f (s.0 refl)
    go false s = g (λ a. false-true (s.1 a))

pub is_one : {t : Bool} {A : Type 0} → Says t A → A → +1 ≡ bit_of t
is_one s a = by-test s (λ b. +1 ≡ b) (λ x. refl) (λ n. absurd (n a))

pub is_zero : {t : Bool} {A : Type 0} → Says t A → ¬ A → +0 ≡ bit_of t
is_zero s n = by-test s (λ b. +0 ≡ b) (λ a. absurd (n a)) (λ x. refl)

-- R r, the rows with an auxiliary r: they say A, and that C holds where r is 1, and does not where r is 0
abbrev pub Decides : (ℤ → Type 0) → Type 0 → Type 0 → Type 0
Decides R A C = (R +1 ↔ (A × C)) × (R +0 ↔ (A × ¬ C))

-- a block with the auxiliary r, which is all that its rows read, represents a test of A, with the pick of a test of C
pub represents-one_bit : {F A C : Type 0} {s t : Bool} {σ : Valuation} {rows : List (Row Ref)} → let B = block (bit ∷ []) rows in
    (F → Decides (λ r. Good B σ (value (r ∷ []))) A C) → Says t A → Says s C →
    ((α : Valuation) → Good B σ α → Good B σ (value (α 0 ∷ []))) → ((r : ℤ) (rest : List ℤ) → Good B σ (value (r ∷ [])) → Good B σ (value (r ∷ rest))) →
    Represents F B σ (bit_of s ∷ []) t
represents-one_bit {F} {A} {C} {s} {t} {σ} {rows} d u v only more = record {
  sound = λ α f g. u.1 (bit-of (λ b. R b → A) (λ x. ((d f).1.0 x).0) (λ x. ((d f).0.0 x).0) (to-bit (α 0) g.0.0.0 g.0.0.1) (only α g));
  complete = λ f m rest. more (bit_of s) rest (by-test v R (λ c. (d f).0.1 (u.0 m, c)) (λ n. (d f).1.1 (u.0 m, n)));
  filled = refl;
  determined = λ α f g. (
    bit-of (λ b. R b → b ≡ bit_of s) (λ x. is_zero v ((d f).1.0 x).1) (λ x. is_one v ((d f).0.0 x).1) (to-bit (α 0) g.0.0.0 g.0.0.1) (only α g),
    tt,
  );
}
  where
    R : ℤ → Type 0
    R r = Good (block (bit ∷ []) rows) σ (value (r ∷ []))

-- two values are equal, or are not
abbrev pub Same : Bool → ℤ → ℤ → Type 0
Same true x y = x ≡ y
Same false x y = ¬ (x ≡ y)

-- a rule of `simp` for a denied denial, which `omega` does not read
pub not-not : (a b : ℕ) → ¬ (¬ (a ≡ b)) ↔ (a ≡ b)
not-not a b = (λ f. go (ℕ_discrete a b) f, λ e f. f e)
  where
    go : Dec (a ≡ b) → ¬ (¬ (a ≡ b)) → a ≡ b
    go (yes e) f = e
    go (no n) f = absurd (f n)
