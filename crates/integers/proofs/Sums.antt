-- Laws of sums, products and orders of whole numbers in one line each, for proofs by steps.
use Rattle.std.proofs.Common.{◌≡◌, ℕ, ◌≤◌, arith, ℤ, pos, nat_abs}
use Rattle.integers.specs.Number.{◌⊕◌, ◌⊖◌, ◌⊗◌, count, +0, +1}
use Rattle.integers.proofs.Linear.{◌⊑◌, ◌⊏◌, linear}

-- ---- grouping

pub ⊕_assoc : (a b c : ℤ) → (a ⊕ b) ⊕ c ≡ a ⊕ (b ⊕ c)
⊕_assoc = simp linear (omega arith)

pub ⊗_assoc : (a b c : ℤ) → (a ⊗ b) ⊗ c ≡ a ⊗ (b ⊗ c)
⊗_assoc = simp linear (omega arith)

-- four numbers, the middle ones exchanged
pub ⊕_crossed : (a b c d : ℤ) → a ⊕ b ⊕ (c ⊕ d) ≡ a ⊕ c ⊕ (b ⊕ d)
⊕_crossed = simp linear (omega arith)

-- ---- with 0, with 1

-- 0 on either side
pub ⊕_zero_comm : (a : ℤ) → a ⊕ +0 ≡ +0 ⊕ a
⊕_zero_comm = simp linear (omega arith)

pub plus-zero : (a : ℤ) → a ⊕ +0 ≡ a
plus-zero = simp linear (omega arith)

pub zero-plus : (a : ℤ) → +0 ⊕ a ≡ a
zero-plus = simp linear (omega arith)

pub times_zero : (a : ℤ) → a ⊗ +0 ≡ +0
times_zero = simp linear (omega arith)

pub zero-times : (a : ℤ) → +0 ⊗ a ≡ +0
zero-times = simp linear (omega arith)

pub times-one : (a : ℤ) → a ⊗ +1 ≡ a
times-one = simp linear (omega arith)

pub one-times : (a : ℤ) → +1 ⊗ a ≡ a
one-times = simp linear (omega arith)

-- a sum of which one number is 0, or both
pub first-zero : (a b c : ℤ) → a ≡ +0 → b ≡ c → a ⊕ b ≡ c
first-zero = simp linear (omega arith)

pub second-zero : (a b c : ℤ) → a ≡ c → b ≡ +0 → a ⊕ b ≡ c
second-zero = simp linear (omega arith)

pub both_zero : (a b : ℤ) → a ≡ +0 → b ≡ +0 → a ⊕ b ≡ +0
both_zero = simp linear (omega arith)

-- ---- orders

-- two numbers that are not negative: nor is their sum, which is 0 only where both are
pub not_negative : (a b : ℤ) → +0 ⊑ a → +0 ⊑ b → +0 ⊑ a ⊕ b
not_negative = simp linear (omega arith)

pub parts-zero : (a b : ℤ) → +0 ⊑ a → +0 ⊑ b → a ⊕ b ≡ +0 → (a ≡ +0) × (b ≡ +0)
parts-zero = simp linear (omega arith)

pub not-less : (a b : ℤ) → ¬ (a ⊏ b) → b ⊑ a
not-less = simp linear (omega arith)

-- ---- counts

-- a count is at most the absolute value
pub count-le : (a : ℤ) → count a ≤ nat_abs a
count-le = simp linear (omega arith)

-- the k-th number from a on is k above a
pub count-from : (a : ℤ) (k : ℕ) → count (a ⊕ pos k ⊖ a) ≡ k
count-from = simp linear (omega arith)
