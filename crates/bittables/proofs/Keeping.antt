-- The loop over the variables: the lists and the number of bits, one variable more.
use Rattle.std.proofs.Common.{◌≡◌, refl, sym, ap, ap₂, ◌∙◌, List, [], ◌∷◌, ◌++◌, map, ℕ, zero, suc, ◌+◌, ◌*◌, ◌≤◌, zero-add, arith, length, set}
use mathlib.Core.List.{map-append}
use lib.ListN.{length-map}
use Rattle.integers.specs.Lists.{list_of}
use Rattle.integers.specs.declared.Bounds.{Bounds}
use Rattle.integers.proofs.Lists.{list_of-length}
use Rattle.words.specs.Overlay.{overlay}
use Rattle.words.proofs.Overlay.{overlay-append}
use Rattle.words.specs.Small.{Near}
use Rattle.integers.specs.Bounds.{bounds_in}
use Rattle.bitforms.specs.Weights.{weights}
use Rattle.bitforms.specs.Encoding.{weights_of, bits_after}
use Rattle.bitforms.proofs.Lists.{list-last, list-more}
use Rattle.bitlines.specs.Sizes as Size
use Rattle.bittables.specs.BitTables.{span_in}
use Rattle.bittables.specs.KeptBits.{firsts_from, KeptBits}
use Rattle.bittables.proofs.Counting.{few-weights, span_size}

abbrev pub bits_in : Bounds → ℕ
bits_in B = length (weights_of B)

-- ---- a variable more at the end

after_more : (first : ℕ) (Bs : List Bounds) (B : Bounds) → bits_after first (Bs ++ (B ∷ [])) ≡ bits_after first Bs + bits_in B
unfolding bits_after
after_more first [] B = refl
after_more first (C ∷ Bs) B = after_more (first + bits_in C) Bs B

firsts_more : (first : ℕ) (Bs : List Bounds) (B : Bounds) → firsts_from first (Bs ++ (B ∷ [])) ≡ firsts_from first Bs ++ (bits_after first Bs ∷ [])
unfolding firsts_from bits_after
firsts_more first [] B = refl
firsts_more first (C ∷ Bs) B = ap (λ l. first ∷ l) (firsts_more (first + bits_in C) Bs B)

pub firsts_length : (first : ℕ) (Bs : List Bounds) → length (firsts_from first Bs) ≡ length Bs
unfolding firsts_from
firsts_length first [] = refl
firsts_length first (B ∷ Bs) = ap suc (firsts_length (first + bits_in B) Bs)

set_after : (out xs : List ℕ) (x v : ℕ) → length xs ≡ v → set (overlay out 0 xs) v x ≡ overlay out 0 (xs ++ (x ∷ []))
unfolding overlay
set_after out xs x v e = ap (λ n. set (overlay out 0 xs) n x) (sym e ∙ sym (zero-add (length xs))) ∙ overlay-append out 0 xs (x ∷ [])

-- ---- how many bits

-- the weights of a variable by the lists
pub weights-by : (Ds : List Bounds) (v : ℕ) → weights_of (bounds_in Ds v) ≡ weights (span_in Ds v)
unfolding weights_of span_in
weights-by Ds v = refl

-- of bounds near 0
abbrev pub AllNear : List Bounds → Type 0
AllNear Ds = (v : ℕ) → Near (bounds_in Ds v).lower × Near (bounds_in Ds v).upper

pub few_bits : (Ds : List Bounds) → AllNear Ds → (v : ℕ) → bits_in (bounds_in Ds v) ≤ Size.most_weights
few_bits Ds h v = rw (weights-by Ds v) (few-weights (span_in Ds v) (omega (arith, span_size Ds v (h v).0 (h v).1)))

pub few-after : (Ds : List Bounds) → AllNear Ds → (n : ℕ) → bits_after 0 (list_of (bounds_in Ds) n) ≤ Size.most_weights * n
unfolding list_of bits_after
few-after Ds h zero = omega arith
few-after Ds h (suc n) =
    let e = ap (bits_after 0) (list-last (bounds_in Ds) n) ∙ after_more 0 (list_of (bounds_in Ds) n) (bounds_in Ds n) in
    omega (arith, e, few-after Ds h n, few_bits Ds h n)

-- ---- the loop

pub record Keeping (Ds : List Bounds) (firsts₀ counts₀ firsts counts : List ℕ) (at v : ℕ) : Type 0 where
  pub few : at ≤ Size.most_weights * v
  pub kept : KeptBits (list_of (bounds_in Ds) v) firsts₀ counts₀ firsts counts at

pub keeping_begun : (Ds : List Bounds) (firsts counts : List ℕ) → Keeping Ds firsts counts firsts counts 0 0
unfolding list_of bits_after firsts_from overlay
keeping_begun Ds firsts counts = record { few = omega arith; kept = record { after = refl; numbers = refl; sizes = refl } }

pub keeping_more : {Ds : List Bounds} {at v count : ℕ} {firsts₀ counts₀ firsts counts : List ℕ} → count ≡ length (weights (span_in Ds v)) →
    count ≤ Size.most_weights → Keeping Ds firsts₀ counts₀ firsts counts at v → Keeping Ds firsts₀ counts₀ (set firsts v at) (set counts v count) (at + count) (v + 1)
keeping_more {Ds} {at} {v} {count} {firsts₀} {counts₀} {firsts} {counts} e l k =
    let β = bounds_in Ds in
    let Bs = list_of β v in
    let c : count ≡ bits_in (β v) = e ∙ ap length (sym (weights-by Ds v)) in
    let m = list-more β v in
    let size = list_of-length β v in
    let b = k.kept in
    record {
      few = omega (arith, k.few);
      kept = record {
        after = ap₂ (λ x y. x + y) b.after c ∙ sym (ap (bits_after 0) m ∙ after_more 0 Bs (β v));
        numbers =
            ap₂ (λ xs x. set xs v x) b.numbers b.after
            ∙ set_after firsts₀ (firsts_from 0 Bs) (bits_after 0 Bs) v (firsts_length 0 Bs ∙ size)
            ∙ ap (overlay firsts₀ 0) (sym (ap (firsts_from 0) m ∙ firsts_more 0 Bs (β v)));
        sizes =
            ap₂ (λ xs x. set xs v x) b.sizes c
            ∙ set_after counts₀ (map bits_in Bs) (bits_in (β v)) v (length-map Bs bits_in ∙ size)
            ∙ ap (overlay counts₀ 0) (sym (ap (map bits_in) m ∙ map-append bits_in Bs (β v ∷ [])));
      };
    }
