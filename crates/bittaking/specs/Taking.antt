-- A number taken k times, and a added to it: as far as the range goes. And the line of a bit so taken.
use Rattle.std.specs.Prelude.{◌≡◌, true, List, ℕ, ◌+◌, ◌<◌, ◌≤◌, eqb, ℤ, nat_abs, ◌<ℤ◌, length, get_or}
use Rattle.integers.specs.Choice.{◌if◌else◌}
use Rattle.integers.specs.Number.{◌⊕◌, ◌⊗◌, +0}
use Rattle.words.specs.Word.{in_range}
use Rattle.bitlines.specs.Sizes as Size
use Rattle.bitlines.specs.Dense.{peak}

-- above 0, and no more than a width and 1
pub record NearTimes (k : ℤ) : Type 0 where
  pub positive : +0 <ℤ k
  pub few : nat_abs k ≤ Size.widest + 1

abbrev pub NearAdded : ℤ → Type 0
NearAdded a = nat_abs a ≤ Size.widest

-- x stands for k × e + a: it is that number, or both are outside the range
pub record TakenAs (k e a x : ℤ) : Type 0 where
  pub tested : in_range x ≡ in_range (k ⊗ e ⊕ a)
  pub same : in_range x ≡ true → x ≡ k ⊗ e ⊕ a

pub record NearTaken (k c : ℤ) (added : List ℤ) : Type 0 where
  pub near_times : NearTimes k
  pub near_constant : NearAdded c
  pub near_added : peak added ≤ Size.widest

-- the numbers of the m bits from i on
abbrev pub LineTaken : ℤ → List ℤ → ℕ → ℕ → List ℤ → List ℤ → Type 0
LineTaken k added i m line line' =
    (j : ℕ) → i ≤ j → j < i + m → j < length line → TakenAs k (get_or line j +0) (get_or added i +0 if eqb i j else +0) (get_or line' j +0)

-- the number at place j is taken so, where the list has it; no other changes
pub record TakenAt (k a : ℤ) (j : ℕ) (line line' : List ℤ) : Type 0 where
  pub same_length : length line' ≡ length line
  pub taken : j < length line → TakenAs k (get_or line j +0) a (get_or line' j +0)
  pub others : (i : ℕ) → (i ≡ j → ⊥) → get_or line' i +0 ≡ get_or line i +0
