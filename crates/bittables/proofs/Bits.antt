-- Bits of variables in one list, and as two lists.
use Rattle.std.proofs.Common.{◌≡◌, refl, ap, List, ◌∷◌, map, ℕ, zero, suc, get_or, set, replicate}
use lib.ListN.{get_or-map}
use Rattle.std.proofs.lemmas.List.{map-set}
use Rattle.bittables.specs.BitTables.{firsts, counts}
use Rattle.bittables.specs.declared.table.BitVariable.{BitVariable}

-- none past the last one
abbrev pub none : BitVariable
none = record { first = 0; count = 0 }

pub first_at : (bits : List BitVariable) (v : ℕ) → get_or (firsts bits) v 0 ≡ (get_or bits v none).first
unfolding firsts
first_at bits v = get_or-map (λ b. b.first) bits v none

pub count_at : (bits : List BitVariable) (v : ℕ) → get_or (counts bits) v 0 ≡ (get_or bits v none).count
unfolding counts
count_at bits v = get_or-map (λ b. b.count) bits v none

-- one is put
pub firsts_set : (bits : List BitVariable) (v : ℕ) (b : BitVariable) → firsts (set bits v b) ≡ set (firsts bits) v b.first
unfolding firsts
firsts_set bits v b = map-set (λ x. x.first) bits v b

pub counts_set : (bits : List BitVariable) (v : ℕ) (b : BitVariable) → counts (set bits v b) ≡ set (counts bits) v b.count
unfolding counts
counts_set bits v b = map-set (λ x. x.count) bits v b

-- a list of none
pub firsts-none : (n : ℕ) → firsts (replicate n none) ≡ replicate n 0
unfolding firsts
firsts-none n = go n
  where
    go : (n : ℕ) → map (λ (b : BitVariable). b.first) (replicate n none) ≡ replicate n 0
    go zero = refl
    go (suc n) = ap (λ l. 0 ∷ l) (go n)

pub counts-none : (n : ℕ) → counts (replicate n none) ≡ replicate n 0
unfolding counts
counts-none n = go n
  where
    go : (n : ℕ) → map (λ (b : BitVariable). b.count) (replicate n none) ≡ replicate n 0
    go zero = refl
    go (suc n) = ap (λ l. 0 ∷ l) (go n)
