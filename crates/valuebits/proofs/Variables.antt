-- The bits of the variables, one variable after another; and lists laid at the front.
use Rattle.std.proofs.Common.{◌≡◌, sym, ap, ◌∙◌, subst, List, [], ◌∷◌, ◌++◌, append-nil, append_assoc, ℕ, ◌+◌, ◌*◌, ◌≤◌, ◌<◌, arith, zero-add, ℤ, length, take}
use mathlib.Core.List.{flatten}
use Rattle.integers.specs.Number.{◌⊖◌, count}
use Rattle.integers.specs.Bounds.{bounds_in}
use Rattle.integers.specs.Lists.{list_of}
use Rattle.integers.specs.Terms.{Valuation, value}
use Rattle.integers.specs.declared.Bounds.{Bounds}
use Rattle.words.specs.LaidAt.{LaidAt}
use Rattle.words.proofs.LaidThen.{laid_then, laid_none}
use Rattle.words.proofs.Overlay.{front-over}
use Rattle.bitforms.specs.Chosen.{chosen}
use Rattle.bitforms.specs.Encoding.{weights_of}
use Rattle.bitforms.specs.ValueBits.{bits_of_value, variable_bits}
use Rattle.bitforms.specs.Weights.{weights}
use Rattle.bitforms.proofs.Lists.{list-more}
use Rattle.bittables.specs.BitTables.{span_in}

-- what is laid at the front is the front
pub front-is : {A : Type 0} {o p xs : List A} {n : ℕ} → LaidAt o 0 xs p n → length xs ≤ length o → take n p ≡ xs
front-is {o = o} {xs = xs} d l = rw (d.over, d.ends, zero-add (length xs)) (front-over o xs l)

pub relaid : {A : Type 0} {o p xs ys : List A} {a b : ℕ} → xs ≡ ys → LaidAt o a xs p b → LaidAt o a ys p b
relaid {o = o} {p} {a = a} {b} e d = subst (λ zs. LaidAt o a zs p b) e d

-- ---- one variable

pub bits_by : (Ds : List Bounds) (vs : List ℤ) (v w x : ℕ) → w ≡ span_in Ds v → x ≡ count (value vs v ⊖ (bounds_in Ds v).lower) →
    chosen (weights w) x ≡ bits_of_value (bounds_in Ds v) (value vs v)
unfolding bits_of_value weights_of span_in
bits_by Ds vs v w x e f = rw (e, f)

-- ---- one after another

flatten_last : {A : Type 0} (xs : List (List A)) (y : List A) → flatten (xs ++ (y ∷ [])) ≡ flatten xs ++ y
unfolding flatten
flatten_last [] y = append-nil y
flatten_last (x ∷ xs) y = ap (λ l. x ++ l) (flatten_last xs y) ∙ sym (append_assoc x (flatten xs) y)

variables-more : (β : ℕ → Bounds) (σ : Valuation) (v : ℕ) → variable_bits β σ v ++ bits_of_value (β v) (σ v) ≡ variable_bits β σ (v + 1)
unfolding variable_bits
variables-more β σ v = sym (ap flatten (list-more (λ v. bits_of_value (β v) (σ v)) v) ∙ flatten_last (list_of (λ v. bits_of_value (β v) (σ v)) v) (bits_of_value (β v) (σ v)))

pub record Encoding (β : ℕ → Bounds) (σ : Valuation) (n : ℕ) (before now : List ℕ) (at v : ℕ) : Type 0 where
  pub place : v ≤ n
  pub laid : LaidAt before 0 (variable_bits β σ v) now at
  pub small : at ≤ 62 * v

pub encoding-begun : (β : ℕ → Bounds) (σ : Valuation) (n : ℕ) (out : List ℕ) → Encoding β σ n out out 0 0
unfolding variable_bits list_of flatten
encoding-begun β σ n out = record { place = omega arith; laid = laid_none; small = omega arith }

pub encoding-more : {β : ℕ → Bounds} {σ : Valuation} {n : ℕ} {before now later : List ℕ} {at v end : ℕ} → v < n → Encoding β σ n before now at v →
    LaidAt now at (bits_of_value (β v) (σ v)) later end → end ≤ at + 62 → Encoding β σ n before later end (v + 1)
encoding-more {β} {σ} {v = v} l s d k = record { place = omega arith; laid = relaid (variables-more β σ v) (laid_then s.laid d); small = omega (arith, s.small) }
