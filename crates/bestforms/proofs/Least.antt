-- Of a function of bit lists: there is one among those of a length at which it is least, since there are finitely many.
use Rattle.std.proofs.Common.{◌≡◌, refl, List, [], ◌∷◌, ℕ, zero, suc, arith, ℤ, pos, length}
use Rattle.integers.proofs.Bits.{Bit, b0, b1}
use Rattle.integers.proofs.Linear.{◌⊑◌, by_le, linear}
use Rattle.integers.proofs.Tests.{All}
use Rattle.bitforms.proofs.Theorem.{all-bits}
use Rattle.bitforms.specs.BitForm.{bit_count}
use Rattle.bestforms.specs.BestSolutions.{LeastBits}

-- n bits at which f is least
record LeastOf (n : ℕ) (f : List ℤ → ℤ) : Type 0 where
  bits : List ℤ
  as_many : length bits ≡ n
  all_bits : All Bit bits
  least : (cs : List ℤ) → length cs ≡ n → All Bit cs → f bits ⊑ f cs

-- of the least whose first bit is 0 and the least whose first bit is 1, the one where f is less
longer : (n : ℕ) (f : List ℤ → ℤ) → LeastOf n (λ bs. f (pos 0 ∷ bs)) → LeastOf n (λ bs. f (pos 1 ∷ bs)) → LeastOf (suc n) f
longer n f a b = by_le (f (pos 0 ∷ a.bits)) (f (pos 1 ∷ b.bits)) (λ t. LeastOf (suc n) f) first second
  where
    trans : (x y z : ℤ) → x ⊑ y → y ⊑ z → x ⊑ z
    trans = simp linear (omega arith)

    other_way : (x y : ℤ) → ¬ (x ⊑ y) → y ⊑ x
    other_way = simp linear (omega arith)

    first : f (pos 0 ∷ a.bits) ⊑ f (pos 1 ∷ b.bits) → LeastOf (suc n) f
    first h = record {
      bits = pos 0 ∷ a.bits;
      as_many = rw a.as_many refl;
      all_bits = (b0, a.all_bits);
      least = go;
    }
      where
        go : (cs : List ℤ) → length cs ≡ suc n → All Bit cs → f (pos 0 ∷ a.bits) ⊑ f cs
        go [] e t = absurd (omega arith)
        go (_ ∷ cs) e (b0, t) = a.least cs (omega arith) t
        go (_ ∷ cs) e (b1, t) = trans _ _ _ h (b.least cs (omega arith) t)

    second : ¬ (f (pos 0 ∷ a.bits) ⊑ f (pos 1 ∷ b.bits)) → LeastOf (suc n) f
    second h = record {
      bits = pos 1 ∷ b.bits;
      as_many = rw b.as_many refl;
      all_bits = (b1, b.all_bits);
      least = go;
    }
      where
        go : (cs : List ℤ) → length cs ≡ suc n → All Bit cs → f (pos 1 ∷ b.bits) ⊑ f cs
        go [] e t = absurd (omega arith)
        go (_ ∷ cs) e (b0, t) = trans _ _ _ (other_way _ _ h) (a.least cs (omega arith) t)
        go (_ ∷ cs) e (b1, t) = b.least cs (omega arith) t

some-least : (n : ℕ) (f : List ℤ → ℤ) → LeastOf n f
some-least zero f = record { bits = []; as_many = refl; all_bits = tt; least = go }
  where
    same : (x : ℤ) → x ⊑ x
    same = simp linear (omega arith)

    go : (cs : List ℤ) → length cs ≡ 0 → All Bit cs → f [] ⊑ f cs
    go [] e t = same (f [])
    go (c ∷ cs) e t = absurd (omega arith)
some-least (suc n) f = longer n f (some-least n (λ bs. f (pos 0 ∷ bs))) (some-least n (λ bs. f (pos 1 ∷ bs)))

-- of a form over the bits of a row system
pub least-bits : (ws : List ℕ) (form : List ℤ → ℤ) → (bs : List ℤ) × LeastBits ws form bs
least-bits ws form =
    let l = some-least (bit_count ws) form in (
      l.bits,
      record {
        are_bits = record { one_each = l.as_many; zero_or_one = (all-bits l.bits).1 l.all_bits };
        least = λ cs h. l.least cs h.one_each ((all-bits cs).0 h.zero_or_one);
      },
    )
