-- Where a code has arguments: no code above the last has one, and no code has a fourth.
use Rattle.std.proofs.Common.{◌≡◌, refl, sym, List, [], ℕ, ◌<◌, ◌≤◌, arith, le_trans, leb, length, get_or, leb-true, le-leb}
use lib.ListN.{get_or-eq_default}
use Rattle.integers.specs.Lists.{all}
use Rattle.integers.proofs.Lists.{all_or_past}
use Rattle.integers.proofs.Tests.{All, says_all}
use Rattle.models.specs.Table as Table
use Rattle.models.specs.Shape.{argument, shapes}

abbrev Short : List ℕ → Type 0
Short r = length r ≤ 3

all_short : All Short shapes
unfolding all shapes
all_short = (says_all (λ r. leb (length r) 3) Short (λ r. (leb-true (length r) 3, le-leb (length r) 3)) shapes).0 refl

pub past-codes : (code k : ℕ) → Table.last < code → 0 ≡ argument code k
unfolding argument shapes
past-codes code k h = rw (get_or-eq_default shapes [] {n = code} h)

pub past-arguments : (code k : ℕ) → 3 ≤ k → 0 ≡ argument code k
unfolding argument
past-arguments code k h = sym (get_or-eq_default (get_or shapes code []) 0 {n = k} (le_trans (all_or_past Short shapes [] all_short (omega arith) code) h))
