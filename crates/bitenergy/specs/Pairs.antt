-- What pairs of bits add, by the numbers of their bits.
use Rattle.std.specs.Prelude.{ℕ, ◌+◌, ◌*◌, ℤ, get_or}
use Rattle.integers.specs.Lists.{list_of}
use Rattle.integers.specs.Terms.{Valuation}
use Rattle.bitforms.specs.SumOver.{sum_over}
use Rattle.bitforms.specs.Energy.{added}
use Rattle.bitlines.specs.Line.{pair_of}
use Rattle.bittables.specs.BitTables.{firsts, counts}
use Rattle.bittables.specs.declared.table.BitTable.{BitTable}

-- f 0 + .. + f (n − 1)
abbrev pub total : (ℕ → ℤ) → ℕ → ℤ
total f n = sum_over (λ x. x) (list_of f n)

-- bit u with the n bits from v on, the products' bits from t on; the m bits from u on with them
abbrev pub pairs_energy : Valuation → ℕ → ℕ → ℕ → ℕ → ℤ
pairs_energy γ u v t n = total (λ b. added γ (pair_of u (v + b) (t + b))) n

abbrev pub grid_energy : Valuation → ℕ → ℕ → ℕ → ℕ → ℕ → ℤ
grid_energy γ u v first m n = total (λ a. pairs_energy γ (u + a) v (first + a * n) n) m

-- the bits of variable f with those of variable g
abbrev pub grid_by : Valuation → BitTable → ℕ → ℕ → ℕ → ℤ
grid_by γ t first f g =
    let at = λ (v : ℕ). get_or (firsts t.bits.now) v 0 in
    let many = λ (v : ℕ). get_or (counts t.bits.now) v 0 in
    grid_energy γ (at f) (at g) first (many f) (many g)
