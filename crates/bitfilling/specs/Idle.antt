-- Which rows over bits have no entry in the line of bit i, by their variables and their own bits.
use Rattle.std.specs.Prelude.{◌≡◌, ◌⊎◌, List, ℕ, ◌+◌, ◌<◌, get_or}
use Rattle.integers.specs.Number.{+0}
use Rattle.integers.specs.Terms.{Term, ◌·◌}
use Rattle.rowsystems.specs.Row.{Row, sum≤0, sum=0, product}

-- bit i is none of n bits from `first` on
abbrev pub NotAmong : ℕ → ℕ → ℕ → Type 0
NotAmong first n i = (k : ℕ) → k < n → first + k ≡ i → ⊥

-- it is no bit of variable v, by the lists of first bits and of numbers of bits
abbrev pub NoBitOf : List ℕ → List ℕ → ℕ → ℕ → Type 0
NoBitOf firsts counts i v = NotAmong (get_or firsts v 0) (get_or counts v 0) i

-- N holds of variables without the bit: a term with such a variable or a coefficient of 0, and a row or product of these alone
abbrev pub Idle : (ℕ → Type 0) → Term ℕ → Type 0
Idle N t = (t.coefficient ≡ +0) ⊎ N t.variable

unfoldable pub IdleRow : (ℕ → Type 0) → Row ℕ → Type 0
IdleRow N (sum≤0 ts c) = (k : ℕ) → Idle N (get_or ts k (+0 · 0))
IdleRow N (sum=0 ts c) = (k : ℕ) → Idle N (get_or ts k (+0 · 0))
IdleRow N (product r f g) = N r × N f × N g
