-- Laws of lists of numbers of the range.
use Rattle.std.proofs.Common.{◌≡◌, refl, SFits, w32, true, List, [], ◌∷◌, ◌++◌, ℕ, zero, suc, ◌<◌, arith, ℤ, length}
use Rattle.integers.specs.Number.{+0}
use Rattle.integers.specs.Terms.{value}
use Rattle.integers.specs.Bounds.{within}
use Rattle.integers.proofs.Fits.{fits32}
use Rattle.words.specs.Word.{in_range}
use Rattle.words.proofs.ReadBack.{range-near}
use Rattle.picking.specs.Output.{Ranged}

-- ---- numbers of the range

pub fits : (v : ℤ) → in_range v ≡ true → SFits w32 v
fits v h = fits32 v (omega (arith, range-near v h))

zero-ranged : in_range +0 ≡ true
unfolding within
zero-ranged = refl

pub value-ranged : (ps : List ℤ) → ((x : ℕ) → x < length ps → in_range (value ps x) ≡ true) → Ranged ps
unfolding value
value-ranged [] h k = zero-ranged
value-ranged (p ∷ ps) h zero = h 0 (omega arith)
value-ranged (p ∷ ps) h (suc k) = value-ranged ps (λ x l. h (suc x) (omega arith)) k

ranged-tail : (p : ℤ) (ps : List ℤ) → Ranged (p ∷ ps) → Ranged ps
ranged-tail p ps h k = h (suc k)

pub ranged-left : (ps qs : List ℤ) → Ranged (ps ++ qs) → Ranged ps
ranged-left [] qs h k = zero-ranged
ranged-left (p ∷ ps) qs h zero = h 0
ranged-left (p ∷ ps) qs h (suc k) = ranged-left ps qs (ranged-tail p (ps ++ qs) h) k

pub ranged-right : (ps qs : List ℤ) → Ranged (ps ++ qs) → Ranged qs
ranged-right [] qs h = h
ranged-right (p ∷ ps) qs h = ranged-right ps qs (ranged-tail p (ps ++ qs) h)
