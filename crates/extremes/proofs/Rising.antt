-- The members of a set, as loops find them: the least one place by place, and one after another.
use Rattle.std.proofs.Common.{◌≡◌, refl, ◌∙◌, Bool, true, false, ◌&&◌, List, [], ◌∷◌, ℕ, zero, suc, ◌+◌, ◌-◌, ◌<◌, ◌≤◌, arith, add-one, ℤ, nat_abs, length, set, length-set, get_or}
use lib.Signed.{le_z, lt_z}
use Rattle.integers.specs.Choice.{◌if◌else◌}
use Rattle.integers.specs.Number.{◌⊕◌, +0, +1}
use Rattle.integers.specs.Lists.{list_of}
use Rattle.integers.specs.declared.Bounds.{Bounds}
use Rattle.integers.proofs.Fits.{plus-size}
use Rattle.integers.proofs.Lists.{list_of-length}
use Rattle.words.specs.Limit as Limit
use Rattle.words.specs.Small.{Near}
use Rattle.words.specs.Overlay.{overlay}
use Rattle.models.specs.Model.{num, nums, size}
use Rattle.arguments.proofs.Size.{size-le, num-size}
use Rattle.rules.specs.Parts.{least_from, rising, members}

-- one place more
more : (f : ℕ → ℤ) (from above : ℤ) (k : ℕ) → least_from (list_of f (suc k)) from above ≡ (let a = least_from (list_of f k) from above in f k if le_z from (f k) && lt_z (f k) a else a)
unfolding list_of least_from
more f from above zero = refl
more f from above (suc k) = more (λ j. f (suc j)) from (f 0 if le_z from (f 0) && lt_z (f 0) above else above) k

pub least_more : (f : ℕ → ℤ) (from above : ℤ) (k : ℕ) → least_from (list_of f (k + 1)) from above ≡ (let a = least_from (list_of f k) from above in f k if le_z from (f k) && lt_z (f k) a else a)
least_more f from above k = rw add-one (more f from above k)

-- the least is one of the numbers, or the one above
pub least_size : (m : ℕ) (f : ℕ → ℤ) (k : ℕ) (from above : ℤ) → ((j : ℕ) → nat_abs (f j) ≤ m) → nat_abs above ≤ m → nat_abs (least_from (list_of f k) from above) ≤ m
unfolding list_of least_from
least_size m f zero from above h a = a
least_size m f (suc k) from above h a = least_size m (λ j. f (suc j)) k from (f 0 if le_z from (f 0) && lt_z (f 0) above else above) (λ j. h (suc j)) (by (le_z from (f 0) && lt_z (f 0) above))
  where
    by : (t : Bool) → nat_abs (f 0 if t else above) ≤ m
    by true = h 0
    by false = a

pub set-size : (ws : List ℕ) (i : ℕ) (from upper : ℤ) → Near upper → nat_abs (least_from (nums ws i) from (upper ⊕ +1)) ≤ Limit.half + 1
unfolding nums
set-size ws i from upper h =
    least_size (Limit.half + 1) (λ j. num ws (i + 1 + j)) (size ws i) from (upper ⊕ +1) (λ j. omega (arith, num-size ws (i + 1 + j)))
    (omega (arith, plus-size upper +1))

-- there are at most 32 members
rising-length : (S : List ℤ) (upper : ℤ) (k : ℕ) (from : ℤ) → length (rising S upper k from) ≤ k
unfolding rising
rising-length S upper zero from = omega arith
rising-length S upper (suc k) from = let v = least_from S from (upper ⊕ +1) in by (lt_z upper v) v (rising S upper k (v ⊕ +1)) (rising-length S upper k (v ⊕ +1))
  where
    by : (t : Bool) (v : ℤ) (rest : List ℤ) → length rest ≤ k → length ([] if t else v ∷ rest) ≤ suc k
    by true v rest h = omega arith
    by false v rest h = omega arith

pub members-length : (ws : List ℕ) (i : ℕ) (B : Bounds) → length (members (nums ws i) B) ≤ 32
unfolding members nums
members-length ws i B = let n = list_of-length (λ k. num ws (i + 1 + k)) (size ws i) in omega (arith, rising-length (nums ws i) B.upper (length (nums ws i)) B.lower, size-le ws i)

-- how large they are
rising-size : (ws : List ℕ) (i : ℕ) (upper : ℤ) → Near upper → (n : ℕ) (from : ℤ) (k : ℕ) → nat_abs (get_or (rising (nums ws i) upper n from) k +0) ≤ Limit.half + 1
unfolding rising
rising-size ws i upper h zero from k = omega arith
rising-size ws i upper h (suc n) from k = let v = least_from (nums ws i) from (upper ⊕ +1) in go (lt_z upper v) v (rising (nums ws i) upper n (v ⊕ +1)) (set-size ws i from upper h) (rising-size ws i upper h n (v ⊕ +1)) k
  where
    go : (b : Bool) (v : ℤ) (rest : List ℤ) → nat_abs v ≤ Limit.half + 1 → ((k : ℕ) → nat_abs (get_or rest k +0) ≤ Limit.half + 1) → (k : ℕ) → nat_abs (get_or ([] if b else v ∷ rest) k +0) ≤ Limit.half + 1
    go true v rest l r k = omega arith
    go false v rest l r zero = l
    go false v rest l r (suc k) = r k

pub members-size : (ws : List ℕ) (i : ℕ) (B : Bounds) → Near B.upper → (k : ℕ) → nat_abs (get_or (members (nums ws i) B) k +0) ≤ Limit.half + 1
unfolding members
members-size ws i B h k = rising-size ws i B.upper h (length (nums ws i)) B.lower k

-- k members stand in a list, and `left` more may follow from `from` on
pub record Rising (S : List ℤ) (upper : ℤ) (all : List ℤ) (out₀ out : List ℤ) (k left : ℕ) (from : ℤ) : Type 0 where
  pub many : k + length (rising S upper left from) ≡ length all
  pub over : overlay out k (rising S upper left from) ≡ overlay out₀ 0 all
  pub fuel : k + left ≤ 32
  pub same : length out ≡ length out₀

pub begun : (ws : List ℕ) (i : ℕ) (B : Bounds) (out : List ℤ) → Rising (nums ws i) B.upper (members (nums ws i) B) out out 0 (size ws i) B.lower
unfolding members nums
begun ws i B out = record {
  many = rw list_of-length (omega arith);
  over = rw list_of-length;
  fuel = omega (arith, size-le ws i);
  same = refl;
}

module _ {S : List ℤ} {upper : ℤ} {all out₀ out : List ℤ} {k : ℕ} {from : ℤ} where
  -- one more is found
  pub found : (left : ℕ) (v : ℤ) → 0 < left → v ≡ least_from S from (upper ⊕ +1) → lt_z upper v ≡ false → Rising S upper all out₀ out k left from →
      Rising S upper all out₀ (set out k v) (k + 1) (left - 1) (v ⊕ +1)
  unfolding rising overlay
  found zero v h e t r = absurd (omega arith)
  found (suc n) v h e t r =
      let d : suc n - 1 ≡ n = omega arith in
      rw (d, add-one k) (record {
        many = omega (arith, rw (← e, t) at r.many);
        over = rw (← e, t) at r.over;
        fuel = omega (arith, r.fuel);
        same = length-set out k v ∙ r.same;
      })

  -- none is left inside the bounds, or none may follow
  pub none_left : (left : ℕ) (v : ℤ) → 0 < left → v ≡ least_from S from (upper ⊕ +1) → lt_z upper v ≡ true → Rising S upper all out₀ out k left from →
      (k ≡ length all) × (out ≡ overlay out₀ 0 all)
  unfolding rising overlay
  none_left zero v h e t r = absurd (omega arith)
  none_left (suc n) v h e t r = (omega (arith, rw (← e, t) at r.many), rw (← e, t) at r.over)

  pub all_found : (left : ℕ) → left ≤ 0 → Rising S upper all out₀ out k left from → (k ≡ length all) × (out ≡ overlay out₀ 0 all)
  unfolding rising overlay
  all_found zero h r = (omega (arith, r.many), r.over)
  all_found (suc n) h r = absurd (omega arith)
