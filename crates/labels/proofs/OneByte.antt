-- One byte more.
use Rattle.std.proofs.Common.{◌≡◌, refl, List, [], ◌∷◌, ◌++◌, ℕ, ◌+◌, ◌≤◌, Bool, true, false, eqb, arith}
use Rattle.labels.specs.Position.{after, after_all}
use Rattle.labels.specs.declared.position.Position.{Position}
use Rattle.integers.specs.Choice.{◌if◌else◌}

pub after_one : (p : Position) (xs : List ℕ) (b : ℕ) → after_all p (xs ++ (b ∷ [])) ≡ after (after_all p xs) b
after_one p [] b = refl
after_one p (x ∷ xs) b = after_one (after p x) xs b

-- no line and no column is more than one farther
pub after_bounds : (p : Position) (b n : ℕ) → p.line ≤ n → p.column ≤ n → ((after p b).line ≤ n + 1) × ((after p b).column ≤ n + 1)
after_bounds p b n l c = go (eqb b 10)
  where
    go : (t : Bool) → let q : Position = (record { line = p.line + 1; column = 1 } if t else record { line = p.line; column = p.column + 1 }) in (q.line ≤ n + 1) × (q.column ≤ n + 1)
    go true = (omega (arith, l), omega (arith, l))
    go false = (omega (arith, l), omega (arith, c))
