-- The numbers of the bits of variables with the bounds Bs, at the front of two lists.
use Rattle.std.specs.Prelude.{◌≡◌, List, [], ◌∷◌, map, ℕ, ◌+◌, length}
use Rattle.integers.specs.declared.Bounds.{Bounds}
use Rattle.words.specs.Overlay.{overlay}
use Rattle.bitforms.specs.Encoding.{weights_of, bits_after}

-- the number of the first bit of each variable
unfoldable pub firsts_from : ℕ → List Bounds → List ℕ
firsts_from first [] = []
firsts_from first (B ∷ Bs) = first ∷ firsts_from (first + length (weights_of B)) Bs

-- two lists before and after, and how many bits there are
pub record KeptBits (Bs : List Bounds) (firsts₀ counts₀ firsts counts : List ℕ) (n : ℕ) : Type 0 where
  pub after : n ≡ bits_after 0 Bs
  pub numbers : firsts ≡ overlay firsts₀ 0 (firsts_from 0 Bs)
  pub sizes : counts ≡ overlay counts₀ 0 (map (λ B. length (weights_of B)) Bs)
